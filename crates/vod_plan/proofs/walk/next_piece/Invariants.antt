-- The pieces before this one have no rows of the kind.
use Rattle.std.proofs.Common.{◌≡◌, map}
use Rattle.vod_plan.specs.Spans.{piece_view, rows_before}
use Rattle.vod_plan.proofs.walk.next_piece.Given as goal

abbrev pub invariant-loop-piece : goal.invariant-loop-piece
invariant-loop-piece l = rows_before l.kind (map piece_view l.pieces) l.piece ≡ rows_before l.kind (map piece_view l.pieces) l.from
