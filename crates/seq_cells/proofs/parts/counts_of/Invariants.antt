use Rattle.std.proofs.Common.{◌≡◌, ◌++◌, drop}
use Rattle.seq_cells.specs.Cells.{declared_counts}
use Rattle.seq_cells.proofs.parts.counts_of.Given as goal

abbrev pub invariant-loop-part : goal.invariant-loop-part
invariant-loop-part l = record {
  counts : l.counts.items ++ declared_counts l.grid (drop l.part-index l.parts) ≡ declared_counts l.grid l.parts;
}
