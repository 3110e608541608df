-- The row stands so many rows behind the first one of this piece.
use Rattle.std.proofs.Common.{◌≡◌, ◌≤◌, map}
use Rattle.std.specs.Prelude.{slice_get}
use Rattle.vod_plan.specs.Ranges.{planned_of}
use Rattle.vod_plan.specs.Spans.{piece_view}
use Rattle.vod_plan.proofs.PlaceLemmas.{rest}
use Rattle.vod_plan.proofs.cell.time_of.Given as goal

abbrev pub invariant-loop-piece : goal.invariant-loop-piece
invariant-loop-piece g l = record {
  row : slice_get (rest l.kind l.piece-index l.pieces) l.left ≡ slice_get (planned_of l.kind (map piece_view l.pieces)) l.place;
  looks : l.steps ≤ l.fn.steps;
}
