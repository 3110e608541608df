use Rattle.std.proofs.Common.{◌≡◌, ◌++◌, max, ap, ◌∙◌}
use Rattle.vod_types.specs.declared.tracks.Kind.TheVariants.{Video, Audio}
use Rattle.media_model.specs.Clip.{lead_rows, row_places, shown_duration}
use Rattle.flat_clip.specs.Tracks.{places_in, track_view}
use Rattle.flat_clip.proofs.MovieLemmas.{movie_box-is}
use Rattle.flat_clip.proofs.front.put_movie.Goals as goal

pub returns : goal.returns
returns c =
    let video = track_view c.args.video.now in
    let audio = track_view c.args.audio.now in
    let lead : c.lead_rows-lead.result.now ≡ lead_rows video.rows audio.rows = cc in
    let video_shown : c.shown_duration-video_shown.result ≡ shown_duration (lead_rows video.rows audio.rows) video.rows = cc in
    let audio_shown : c.shown_duration-audio_shown.result ≡ shown_duration (lead_rows video.rows audio.rows) audio.rows = cc in
    let video_places : c.deref-5.result.now ≡ row_places video audio Video =
    c.deref-5.ensures.value ∙ c.in_ok-video_places.ensures ∙ ap (places_in Video) c.requires.samples in
    let audio_places : c.deref-6.result.now ≡ row_places video audio Audio =
    c.deref-6.ensures.value ∙ c.in_ok-audio_places.ensures ∙ ap (places_in Audio) c.requires.samples in
    let shown : c.max.result ≡ max (shown_duration (lead_rows video.rows audio.rows) video.rows) (shown_duration (lead_rows video.rows audio.rows) audio.rows) = cc in
    rw (c.in_ok-put_box.ensures, c.deref-7.ensures.value, c.into_vec-inside.ensures, c.in_ok-put_given_track-2.ensures, c.in_ok-put_given_track.ensures, c.in_ok-put_movie_header.ensures, c.new-inside.ensures)
    (ap (λ bytes. c.args.buf.now ++ bytes) (movie_box-is video audio c.lead_rows-lead.result.now c.deref-5.result.now c.deref-6.result.now c.max.result lead video_places audio_places shown))
