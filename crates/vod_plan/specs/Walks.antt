-- A walk over the rows of a kind; this project's own.
use Rattle.std.specs.Prelude.{◌≡◌, ℕ, ◌+◌, ◌^◌, ◌≤◌, ◌<◌, List, length, slice_get, Option, Some, None, is_some, if◌then◌else◌}
use Rattle.vod_types.specs.declared.tracks.Kind.{Kind}
use Rattle.segment_model.specs.Rows.{TimedRow}
use Rattle.time_runs.specs.declared.cursor.TimeCursor.{TimeCursor}
use Rattle.time_runs.specs.Cursors.{StandsAt as times_stand_at}
use Rattle.chunk_runs.specs.declared.cursor.PlaceCursor.{PlaceCursor}
use Rattle.chunk_runs.specs.Cursors.{StandsAt as places_stand_at}
use Rattle.vod_plan.specs.declared.walk.Spot.{Spot}
use Rattle.vod_plan.specs.declared.walk.Walk.{Walk}
use Rattle.vod_plan.specs.Ranges.{PlannedPiece, RowRange, range_of}
use Rattle.vod_plan.specs.Spans.{rows_before}

-- Both cursors stand at a row of a range, or behind its last one.
pub record IsIn (r : RowRange) (times : TimeCursor) (places : PlaceCursor) : Type 0 where
  pub from : r.from ≤ times.row
  pub to : times.row ≤ r.to
  pub in_times : times_stand_at r.track.tables times.row times
  pub in_places : places_stand_at r.track.tables times.row places

-- They do so in the range of a kind of a piece, where so many rows were given before.
pub record IsAt (kind : Kind) (pieces : List PlannedPiece) (given piece : ℕ) (times : TimeCursor) (places : PlaceCursor) : Type 0 where
  pub found : PlannedPiece
  pub at : slice_get pieces piece ≡ Some found
  pub range : RowRange
  pub is_range : range_of kind found ≡ Some range
  pub inside : IsIn range times places
  pub next : given + range.from ≡ rows_before kind pieces piece + times.row

-- without cursors no row of the piece was given
abbrev pub IsStanding : Kind → List PlannedPiece → ℕ → ℕ → Option (TimeCursor × PlaceCursor) → Type 0
IsStanding kind pieces given piece None = given ≡ rows_before kind pieces piece
IsStanding kind pieces given piece (Some c) = IsAt kind pieces given piece c.0 c.1

-- a walk over the rows of a kind
pub record IsWalk (kind : Kind) (pieces : List PlannedPiece) (w : Walk) : Type 0 where
  pub count : w.count ≡ rows_before kind pieces (length pieces)
  pub given : w.given ≤ w.count
  pub piece : w.piece ≤ length pieces
  pub stands : IsStanding kind pieces w.given w.piece w.cursors

-- the next row stands there
pub record IsSpot (kind : Kind) (pieces : List PlannedPiece) (given : ℕ) (s : Spot) : Type 0 where
  pub at : IsAt kind pieces given s.piece s.times s.places
  pub left : s.times.row < at.range.to

-- the same in its piece
pub record HasNext (kind : Kind) (p : PlannedPiece) (s : Spot) : Type 0 where
  pub range : RowRange
  pub is_range : range_of kind p ≡ Some range
  pub inside : IsIn range s.times s.places
  pub left : s.times.row < range.to

-- the piece from which on the next row is looked for, where it isn't at the cursors
abbrev pub behind : Walk → ℕ
behind w = if is_some w.cursors then w.piece + 1 else w.piece

-- a row begins where 64 bits say
abbrev pub FitsFile : TimedRow → Type 0
FitsFile r = r.offset < 2 ^ 64
