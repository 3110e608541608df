-- No row of the pieces before this one may begin.
use Rattle.std.proofs.Common.{◌≡◌, ◌+◌, ◌*◌, ◌^◌, ◌≤◌, map}
use Rattle.std.specs.List.{position_or_len}
use Rattle.vod_plan.specs.Ranges.{planned_of}
use Rattle.vod_plan.specs.Selected.{begins_by}
use Rattle.vod_plan.specs.Spans.{piece_view}
use Rattle.vod_plan.proofs.PlaceLemmas.{rest}
use Rattle.vod_plan.proofs.cell.first_beginning.Given as goal

abbrev pub invariant-loop-piece : goal.invariant-loop-piece
invariant-loop-piece g l = record {
  row : l.place + position_or_len (begins_by l.align l.time) (rest l.kind l.piece-index l.pieces) ≡ position_or_len (begins_by l.align l.time) (planned_of l.kind (map piece_view l.pieces));
  small : l.place ≤ l.piece-index * 2 ^ 32;
  looks : l.steps ≤ l.fn.steps + 256 * l.piece-index;
}
