use Rattle.std.proofs.Common.{◌≡◌, take}
use Rattle.mp4_tables.specs.Views.{stsz_entries}
use Rattle.flat_samples.proofs.tables.sizes.Given as goal

abbrev pub invariant-loop-i : goal.invariant-loop-i
invariant-loop-i g l = l.list.items ≡ take l.i (stsz_entries l.table)
