-- One more, or all.
use Rattle.std.proofs.Common.{◌≡◌, ◌+◌, ◌≤◌, ◌*◌, ◌^◌, drop, length, All}
use Rattle.std.specs.Prelude.{sum_by}
use Rattle.flat_lists.specs.CountedCells.{part_cells}
use Rattle.seek_lists.specs.Looked.{IsLookedPart, looked_seen}
use Rattle.seek_lists.proofs.counted_cells.sequence_cells.Given as goal

abbrev pub invariant-loop-part : goal.invariant-loop-part
invariant-loop-part g l = record {
  left : l.all + sum_by (λ p. part_cells l.grid (looked_seen p)) (drop l.part-index l.sequence.parts.items) ≡ sum_by (λ p. part_cells l.grid (looked_seen p)) l.sequence.parts.items;
  each : All IsLookedPart l.sequence.parts.items;
  few : length l.sequence.parts.items ≤ 128;
  small : l.all ≤ l.part-index * 2 ^ 43;
}
