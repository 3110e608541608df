use Rattle.std.proofs.Common.{◌≡◌, take}
use Rattle.mp4_model.specs.Runs.{written_out}
use Rattle.mp4_tables.specs.Views.{stts_entries}
use Rattle.flat_samples.proofs.tables.deltas.Given as goal

abbrev pub invariant-loop-i : goal.invariant-loop-i
invariant-loop-i g l = l.list.items ≡ written_out (take l.i (stts_entries l.table))
