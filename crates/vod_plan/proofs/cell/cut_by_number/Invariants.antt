-- The first pieces are cut, and the others will be from what is left of the places.
use Rattle.std.proofs.Common.{◌≡◌, ◌++◌, map, take, drop}
use Rattle.std.specs.Prelude.{All}
use Rattle.vod_plan.specs.Narrowed.{IsSound}
use Rattle.vod_plan.specs.Selected.{AreSamePieces}
use Rattle.vod_plan.specs.Spans.{piece_view}
use Rattle.vod_plan.proofs.NarrowLemmas.{by_number}
use Rattle.vod_plan.proofs.cell.cut_by_number.Given as goal

abbrev pub invariant-loop-i : goal.invariant-loop-i
invariant-loop-i l = record {
  views : take l.i (map piece_view l.pieces) ++ by_number l.kind l.left.0 l.left.1 (drop l.i (map piece_view l.pieces)) ≡ by_number l.kind l.from l.to (map piece_view l.fn.pieces);
  sound : All IsSound l.pieces;
  same : AreSamePieces l.fn.pieces l.pieces;
}
