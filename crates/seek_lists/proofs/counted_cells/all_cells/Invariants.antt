-- One more, or all.
use Rattle.std.proofs.Common.{◌≡◌, ◌+◌, ◌≤◌, ◌*◌, ◌^◌, drop, length, All}
use Rattle.std.specs.Prelude.{sum_by}
use Rattle.seek_lists.specs.Looked.{sequence_cells}
use Rattle.seek_lists.specs.Looked.{IsLookedSequence}
use Rattle.seek_lists.proofs.counted_cells.all_cells.Given as goal

abbrev pub invariant-loop-sequence : goal.invariant-loop-sequence
invariant-loop-sequence g l = record {
  left : l.all + sum_by (sequence_cells l.grid) (drop l.sequence-index l.sequences) ≡ sum_by (sequence_cells l.grid) l.sequences;
  each : All IsLookedSequence l.sequences;
  few : length l.sequences ≤ 32;
  small : l.all ≤ l.sequence-index * 2 ^ 50;
}
