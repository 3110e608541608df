-- The movie box by what was put into it.
use Rattle.std.proofs.Common.{◌≡◌, ℕ, ◌++◌, List, [], codes, max, refl}
use Rattle.vod_types.specs.declared.segments.Row.{Row}
use Rattle.vod_types.specs.declared.tracks.Kind.TheVariants.{Video, Audio}
use Rattle.media_model.specs.Boxes.{box}
use Rattle.media_model.specs.Clip.{ClipTrack, if_rows, lead_rows, movie_box, movie_header, row_places, shown_duration, track_box}

pub movie_box-is : (video audio : ClipTrack) (lead : List Row) (video_places audio_places : List ℕ) (shown : ℕ) → lead ≡ lead_rows video.rows audio.rows
    → video_places ≡ row_places video audio Video → audio_places ≡ row_places video audio Audio
    → shown ≡ max (shown_duration (lead_rows video.rows audio.rows) video.rows) (shown_duration (lead_rows video.rows audio.rows) audio.rows)
    → box (codes "moov") (movie_header shown ++ if_rows video.rows [] (track_box Video lead video_places video) ++ if_rows audio.rows [] (track_box Audio lead audio_places audio))
    ≡ movie_box video audio
unfolding movie_box
movie_box-is video audio lead video_places audio_places shown l v a s = rw (l, v, a, s) refl
