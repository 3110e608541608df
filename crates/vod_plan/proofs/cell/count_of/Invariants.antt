-- The rows of the pieces before this one are counted.
use Rattle.std.proofs.Common.{◌≡◌, ◌+◌, ◌*◌, ◌^◌, ◌≤◌, length, map}
use Rattle.vod_plan.specs.Ranges.{planned_of}
use Rattle.vod_plan.specs.Spans.{piece_view}
use Rattle.vod_plan.proofs.PlaceLemmas.{rest}
use Rattle.vod_plan.proofs.cell.count_of.Given as goal

abbrev pub invariant-loop-piece : goal.invariant-loop-piece
invariant-loop-piece l = record {
  count : l.count + length (rest l.kind l.piece-index l.pieces) ≡ length (planned_of l.kind (map piece_view l.pieces));
  small : l.count ≤ l.piece-index * 2 ^ 32;
}
