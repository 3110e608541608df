-- One more, or all.
use Rattle.std.proofs.Common.{◌≡◌, ◌+◌, ◌≤◌, ◌*◌, ◌^◌, drop, length, All}
use Rattle.std.specs.Prelude.{sum_by}
use Rattle.seek_lists.specs.Looked.{IsLookedPart}
use Rattle.flat_lists.specs.Written.{declared_cells}
use Rattle.seek_lists.proofs.counted_cells.first_cell_behind.Given as goal

abbrev pub invariant-loop-looked : goal.invariant-loop-looked
invariant-loop-looked l = record {
  left : l.number + sum_by (λ p. declared_cells l.grid p.part) (drop l.looked-index l.parts) ≡ 1 + sum_by (λ p. declared_cells l.grid p.part) l.parts;
  each : All IsLookedPart l.parts;
  few : length l.parts ≤ 128;
  small : l.number ≤ 1 + l.looked-index * 2 ^ 42;
}
