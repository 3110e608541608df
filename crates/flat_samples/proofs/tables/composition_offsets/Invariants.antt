use Rattle.std.proofs.Common.{◌≡◌, take}
use Rattle.mp4_model.specs.Runs.{written_out}
use Rattle.mp4_tables.specs.Views.{ctts_entries}
use Rattle.flat_samples.proofs.tables.composition_offsets.Given as goal

abbrev pub invariant-loop-i : goal.invariant-loop-i
invariant-loop-i g l = l.list.items ≡ written_out (take l.i (ctts_entries l.table))
