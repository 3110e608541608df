-- How far a search among the rows of several pieces has come; this project's own.
use Rattle.std.specs.Prelude.{◌≡◌, ℕ, ◌+◌, ◌*◌, ◌^◌, ◌≤◌, ◌<◌, List, [], drop, flat_map, length, map, slice_get, Some}
use Rattle.std.specs.List.{enumerate_from}
use Rattle.std.specs.Option.{option_map_or}
use Rattle.vod_types.specs.declared.tracks.Kind.{Kind}
use Rattle.segment_model.specs.Rows.{TimedRow}
use Rattle.vod_plan.specs.declared.reach.Reach.{Reach}
use Rattle.vod_plan.specs.declared.spans.PlanPiece.{PlanPiece}
use Rattle.vod_plan.specs.Ranges.{PlannedPiece, planned_of, range_of, range_rows}
use Rattle.vod_plan.specs.Spans.{piece_view, rows_in}

-- the place of its row among those of all pieces
abbrev pub place_of : Reach → ℕ
place_of r = r.before + r.index

-- the rows of a kind from a piece on
abbrev pub rows_behind : Kind → ℕ → List PlanPiece → List TimedRow
rows_behind kind i ps = flat_map (λ (e : ℕ × PlannedPiece). option_map_or (range_rows kind e.0 e.1.base) (range_of kind e.1) []) (enumerate_from i (drop i (map piece_view ps)))

-- So many rows of a kind stand in the pieces before its piece.
pub record IsFront (kind : Kind) (ps : List PlanPiece) (r : Reach) : Type 0 where
  pub piece : r.piece ≤ length ps
  pub before : rows_behind kind r.piece ps ≡ drop r.before (planned_of kind (map piece_view ps))
  pub small : r.before ≤ r.piece * 2 ^ 32

-- It stands at a row of its piece, or behind the last piece.
pub record IsReached (kind : Kind) (ps : List PlanPiece) (r : Reach) : Type 0 where
  pub front : IsFront kind ps r
  pub row : (p : PlanPiece) → slice_get ps r.piece ≡ Some p → r.index < rows_in kind (piece_view p)
