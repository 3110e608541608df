use Rattle.std.proofs.Common.{◌<◌, length, arith}
use Rattle.mp4_tables.specs.Views.{stts_entries}
use Rattle.flat_samples.proofs.ListLemmas.{runs_more}
use Rattle.flat_samples.proofs.tables.deltas.Goals as goal

pub loop-i-preserved : goal.loop-i-preserved
loop-i-preserved g c =
    let runs = stts_entries c.in-Some.table in
    let within : c.loop-i.i < length runs = omega arith in
    cc (runs_more runs c.loop-i.i c.entry-count.result within c.entry-count.ensures.value, c.in_ok-push_run.ensures.items, c.loop-i.invariant)
