-- The asked tracks of a piece in the movie of its file; this project's own.
use Rattle.std.specs.Prelude.{◌≡◌, ◌≤◌, ◌^◌, Bool, None, option_map, IfSome, Result}
use Rattle.vod_types.specs.declared.tracks.Asked.{Asked}
use Rattle.vod_types.specs.declared.refusal.Refusal.{Refusal}
use Rattle.mp4_model.specs.Movie.{Movie}
use Rattle.mp4_model.specs.GoodTracks.{GoodTrack, total_units}
use Rattle.mp4_model.specs.Validity.{first_broken_table}
use Rattle.clip_model.specs.declared.Piece.{Piece}
use Rattle.mp4_tracks.specs.Views.{good_of}
use Rattle.mp4_tracks.specs.Edits.{edit_of_view}
use Rattle.origin_model.specs.Loaded as model
use Rattle.origin_model.specs.Loaded.{CheckedPiece}
use Rattle.media_model.specs.InitSegment.{IsEntry}
use Rattle.flat_samples.specs.declared.tracks.CheckedTracks.{CheckedTracks}

-- a piece with its asked tracks and their edits in the movie of its file, or the first fault of one of them
unfoldable pub checked_in : Bool → Asked → Piece → Movie → Result CheckedPiece Refusal
checked_in edits asked piece m = model.checked_in edits asked piece m

-- the same as views show it
abbrev pub checked_view : Piece → CheckedTracks → CheckedPiece
checked_view piece c = record { piece = piece; file_size = c.file_size; video = option_map good_of c.video; audio = option_map good_of c.audio; video_edit = edit_of_view c.video_edit; audio_edit = edit_of_view c.audio_edit }

-- what each track without a fault keeps
pub record IsSound (t : GoodTrack) : Type 0 where
  pub timescale : 1 ≤ t.timescale
  pub none_broken : first_broken_table t.tables t.timescale ≡ None
  pub short : total_units t.tables t.timescale ≤ 2 ^ 40
  pub entry : IsEntry t.entry

abbrev pub AreSound : CheckedPiece → Type 0
AreSound c = IfSome c.video IsSound × IfSome c.audio IsSound
