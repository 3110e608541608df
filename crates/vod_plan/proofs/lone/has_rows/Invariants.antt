-- No piece before this one has a row.
use Rattle.std.proofs.Common.{◌≡◌, drop, All}
use Rattle.vod_plan.specs.Segments.{has_rows}
use Rattle.vod_plan.specs.Spans.{IsPlanPiece}
use Rattle.vod_plan.proofs.lone.has_rows.Given as goal

abbrev pub invariant-loop-piece : goal.invariant-loop-piece
invariant-loop-piece l = record {
  left : has_rows l.kind (drop l.piece-index l.pieces) ≡ has_rows l.kind l.pieces;
  each : All IsPlanPiece l.pieces;
}
