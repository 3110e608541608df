use Rattle.std.proofs.Common.{◌≡◌, take}
use Rattle.mp4_model.specs.Runs.{written_out}
use Rattle.mp4_model.specs.Samples.{chunk_runs}
use Rattle.mp4_tables.specs.Views.{stsc_entries}
use Rattle.flat_samples.proofs.tables.samples_per_chunk.Given as goal

abbrev pub invariant-loop-i : goal.invariant-loop-i
invariant-loop-i g l = l.list.items ≡ written_out (take l.i (chunk_runs (stsc_entries l.table) l.chunks))
