use Rattle.std.proofs.Common.{◌≡◌, arith}
use Rattle.vod_types.specs.declared.tracks.Kind.TheVariants.{Video, Audio}
use Rattle.media_model.specs.Clip.{if_rows, lead_rows, movie_size, track_size}
use Rattle.flat_clip.specs.Tracks.{track_view}
use Rattle.flat_clip.proofs.sizes.movie_size.Goals as goal

pub returns-clause-size : goal.returns-clause-size
unfolding movie_size
returns-clause-size c =
    let video = track_view c.args.video.now in
    let audio = track_view c.args.audio.now in
    let lead = lead_rows video.rows audio.rows in
    let video_size : c.given_size.result ≡ if_rows video.rows 0 (track_size Video lead video) = cc in
    let audio_size : c.given_size-2.result ≡ if_rows audio.rows 0 (track_size Audio lead audio) = cc in
    omega (arith, video_size, audio_size)
