-- The selected rows of pieces by their numbers; this project's own.
use Rattle.std.specs.Prelude.{◌≡◌, ◌≤◌, ◌^◌, Bool, not, ◌&&◌, ◌||◌, List, [], ◌∷◌, Option, Some, None, is_some, ℤ, pos, int_le, if◌then◌else◌, ⊤, IfSome, Ok}
use Rattle.std.specs.Rc.{rc_value}
use Rattle.vod_types.specs.declared.tracks.Kind.{Kind}
use Rattle.vod_types.specs.declared.tracks.Kind.TheVariants.{Video, Audio}
use Rattle.mp4_model.specs.Edits.{Edit}
use Rattle.mp4_model.specs.Fitting.{IsUsable}
use Rattle.mp4_model.specs.GoodTracks.{GoodTrack, track_view}
use Rattle.mp4_model.specs.Movie.{Movie}
use Rattle.mp4_model.specs.Samples.{first_sample_at}
use Rattle.segment_model.specs.Numbered.{rows_between}
use Rattle.segment_model.specs.Rows.{TimedRow, kept_from}
use Rattle.segment_model.specs.Timeline.{TrackRows, rows_of, selected_lead, selected_other}
use Rattle.mp4_tracks.specs.Edits.{edit_of_view}
use Rattle.origin_model.specs.Loaded.{CheckedPiece}
use Rattle.origin_model.specs.Sources.{source_piece, source_track}
use Rattle.vod_plan.specs.declared.spans.PlanPiece.{PlanPiece}
use Rattle.vod_plan.specs.declared.tracks.AskedTrack.{AskedTrack}
use Rattle.vod_plan.specs.declared.tracks.CheckedTracks.{CheckedTracks}
use Rattle.vod_plan.specs.Ranges.{PlannedPiece, RowRange, planned_of, range_of}
use Rattle.vod_plan.specs.Spans.{piece_view}

-- ---- what a check found

-- a track without a fault of this movie, with an edit of at most 2^40 units
pub record IsFound (m : Movie) (a : AskedTrack) : Type 0 where
  pub good : GoodTrack
  pub is : track_view m.tracks a.track ≡ Ok good
  pub usable : IsUsable good
  pub delay : (edit_of_view a.edit).delay ≤ 2 ^ 40
  pub skip : (edit_of_view a.edit).skip ≤ 2 ^ 40

pub record AreFound (c : CheckedTracks) : Type 0 where
  pub video : IfSome c.video (IsFound (rc_value c.meta).movie)
  pub audio : IfSome c.audio (IsFound (rc_value c.meta).movie)

-- ---- the selected rows of one piece

-- its rows in the time of the file
abbrev pub selected_rows : CheckedPiece → TrackRows
selected_rows c = record { lead = selected_lead (source_piece c); other = selected_other (source_piece c) }

-- the kind of its lead track
abbrev pub leading : CheckedPiece → Kind
leading c = if is_some c.video then Video else Audio

-- No row of the range is before those that the edit keeps.
abbrev pub IsKept : Kind → RowRange → Type 0
IsKept kind r = first_sample_at r.track.tables r.track.timescale (pos (kept_from (source_track kind r.edit (Some r.track)))) ≤ r.from

-- A range of a track with its edit, whose rows are these.
pub record IsRangeOf (kind : Kind) (e : Edit) (t : GoodTrack) (all : List TimedRow) (r : RowRange) : Type 0 where
  pub track : r.track ≡ t
  pub edit : r.edit ≡ e
  pub rows : rows_between (source_track kind e (Some t)) r.from r.to ≡ all
  pub kept : IsKept kind r

-- a range where there is a track
abbrev pub IsRangeIf : Kind → Edit → Option GoodTrack → List TimedRow → Option RowRange → Type 0
IsRangeIf kind edit None rows None = rows ≡ []
IsRangeIf kind edit None rows (Some r) = ⊥
IsRangeIf kind edit (Some t) rows None = ⊥
IsRangeIf kind edit (Some t) rows (Some r) = IsRangeOf kind edit t rows r

-- The ranges of a piece are the selected rows of a checked piece.
pub record IsSelected (c : CheckedPiece) (p : PlannedPiece) : Type 0 where
  pub name : p.name ≡ c.piece.name
  pub base : p.base ≡ c.piece.base
  pub video : IsRangeIf Video c.video_edit c.video (rows_of (leading c) Video (selected_rows c)) p.video
  pub audio : IsRangeIf Audio c.audio_edit c.audio (rows_of (leading c) Audio (selected_rows c)) p.audio

-- ---- several pieces

-- no range of a kind has a row before those that the edit keeps
abbrev pub IsKeptIn : Kind → PlannedPiece → Type 0
IsKeptIn kind p = IfSome (range_of kind p) (IsKept kind)

-- the rows of all pieces, where a kind leads
abbrev pub rows_planned : Kind → List PlannedPiece → TrackRows
rows_planned Video pieces = record { lead = planned_of Video pieces; other = planned_of Audio pieces }
rows_planned Audio pieces = record { lead = planned_of Audio pieces; other = planned_of Video pieces }

-- The same file and track with the same edit, whatever the rows.
pub record IsSameRange (r s : RowRange) : Type 0 where
  pub track : r.track ≡ s.track
  pub edit : r.edit ≡ s.edit

abbrev pub AreSameRanges : Option RowRange → Option RowRange → Type 0
AreSameRanges None None = ⊤
AreSameRanges None (Some s) = ⊥
AreSameRanges (Some r) None = ⊥
AreSameRanges (Some r) (Some s) = IsSameRange r s

pub record IsSamePiece (p q : PlanPiece) : Type 0 where
  pub meta : rc_value p.meta ≡ rc_value q.meta
  pub base : p.base ≡ q.base
  pub video : AreSameRanges (piece_view p).video (piece_view q).video
  pub audio : AreSameRanges (piece_view p).audio (piece_view q).audio

abbrev pub AreSamePieces : List PlanPiece → List PlanPiece → Type 0
AreSamePieces [] [] = ⊤
AreSamePieces [] (q ∷ qs) = ⊥
AreSamePieces (p ∷ ps) [] = ⊥
AreSamePieces (p ∷ ps) (q ∷ qs) = IsSamePiece p q × AreSamePieces ps qs

-- ---- what the checks of rows see

abbrev pub IsTrackOf : Option GoodTrack → Option RowRange → Type 0
IsTrackOf None None = ⊤
IsTrackOf None (Some r) = ⊥
IsTrackOf (Some t) None = ⊥
IsTrackOf (Some t) (Some r) = r.track ≡ t

-- a piece of the file and of the tracks of a checked piece
pub record IsPieceOf (c : CheckedPiece) (p : PlanPiece) : Type 0 where
  pub name : (rc_value p.meta).name ≡ c.piece.name
  pub size : (rc_value p.meta).movie.place.file_size ≡ c.file_size
  pub video : IsTrackOf c.video (piece_view p).video
  pub audio : IsTrackOf c.audio (piece_view p).audio

abbrev pub ArePiecesOf : List CheckedPiece → List PlanPiece → Type 0
ArePiecesOf [] [] = ⊤
ArePiecesOf [] (p ∷ ps) = ⊥
ArePiecesOf (c ∷ cs) [] = ⊥
ArePiecesOf (c ∷ cs) (p ∷ ps) = IsPieceOf c p × ArePiecesOf cs ps

-- ---- where a row may begin a cell

-- it isn't before a time of the output, and with alignment it is a sync row
abbrev pub begins_by : Bool → ℤ → TimedRow → Bool
begins_by align time r = int_le time r.place && (not align || r.sync)
