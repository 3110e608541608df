-- The rows of the pieces before this one are counted.
use Rattle.std.proofs.Common.{◌≡◌, ◌*◌, ◌≤◌, map}
use Rattle.vod_plan.specs.Spans.{piece_view, rows_before}
use Rattle.vod_plan.proofs.checks.count_of.Given as goal

abbrev pub invariant-loop-piece : goal.invariant-loop-piece
invariant-loop-piece l = record {
  count : l.count ≡ rows_before l.kind (map piece_view l.pieces) l.piece-index;
  few : l.count ≤ 4294967295 * l.piece-index;
}
