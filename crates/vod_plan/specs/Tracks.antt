-- The asked tracks of a piece, as they are kept; this project's own.
use Rattle.std.specs.Prelude.{ℕ, Bool, ◌&&◌, Option, option_and_then, Result, Ok}
use Rattle.std.specs.Option.{option_map_or}
use Rattle.std.specs.Rc.{rc_value}
use Rattle.std.specs.Result.{result_ok}
use Rattle.vod_types.specs.declared.refusal.Refusal.{Refusal}
use Rattle.vod_types.specs.declared.tracks.Asked.{Asked}
use Rattle.vod_types.specs.declared.tracks.Kind.{Kind}
use Rattle.vod_types.specs.declared.tracks.TrackName.{TrackName}
use Rattle.vod_types.specs.Results.{◌>>=◌}
use Rattle.vod_types.specs.Tracks.{same_kind}
use Rattle.mp4_model.specs.Edits.{Edit, no_edit}
use Rattle.mp4_model.specs.GoodTracks.{GoodTrack, track_view}
use Rattle.mp4_model.specs.Movie.{Movie}
use Rattle.mp4_tracks.specs.Edits.{edit_of_view}
use Rattle.clip_model.specs.declared.Piece.{Piece}
use Rattle.origin_model.specs.Loaded as model
use Rattle.origin_model.specs.Loaded.{CheckedPiece, asked_edit, asked_track, file_has}
use Rattle.vod_plan.specs.declared.tracks.AskedTrack.{AskedTrack}
use Rattle.vod_plan.specs.declared.tracks.CheckedTracks.{CheckedTracks}

-- the track of a movie that is kept by its name, and its edit
abbrev pub track_in : Movie → Option AskedTrack → Option GoodTrack
track_in m a = option_and_then (λ t. result_ok (track_view m.tracks t.track)) a

abbrev pub edit_in : Option AskedTrack → Edit
edit_in a = option_map_or (λ t. edit_of_view t.edit) a no_edit

abbrev pub pair_in : Movie → Option AskedTrack → Option GoodTrack × Edit
pair_in m a = (track_in m a, edit_in a)

-- the track of a kind that is asked, with its edit, or the first fault of both
unfoldable pub asked_pair : Bool → Piece → Movie → Kind → Option ℕ → Result (Option GoodTrack × Edit) Refusal
asked_pair edits piece m kind number = do
  track ← asked_track piece m kind number
  edit ← asked_edit edits piece m kind number
  Ok (track, edit)

-- a piece with its asked tracks and their edits in the movie of its file, or the first fault of one of them
unfoldable pub checked_in : Bool → Asked → Piece → Movie → Result CheckedPiece Refusal
checked_in edits asked piece m = model.checked_in edits asked piece m

-- the same as it is kept
abbrev pub checked_view : Piece → CheckedTracks → CheckedPiece
checked_view piece c =
    let m = (rc_value c.meta).movie in
    record { piece = piece; file_size = m.place.file_size; video = track_in m c.video; audio = track_in m c.audio; video_edit = edit_in c.video; audio_edit = edit_in c.audio }

-- whether it is a track of this kind that the file has
abbrev pub shown_in : Movie → Kind → TrackName → Bool
shown_in m kind track = same_kind track.kind kind && file_has m track
