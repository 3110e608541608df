use Rattle.std.proofs.Common.{◌≡◌, ◌+◌, ◌-◌, length, arith}
use Rattle.mp4_tables.specs.Views.{stsc_entries}
use Rattle.flat_samples.proofs.ListLemmas.{chunk_run_between, chunk_run_last}
use Rattle.flat_samples.proofs.tables.chunk_run.Goals.{then-i-runs, else-i-runs}
use Rattle.flat_samples.proofs.tables.chunk_run.Goals as goal

pub returns : goal.returns
returns g c =
    let runs = stsc_entries c.args.table.now in
    let first = c.entry-first.result in
    elim c.if-i-runs.branch [
      | then-i-runs w ↦
          let e : c.saturating_sub.result ≡ w.entry.result.0 - first.0 = cc in
          rw e (chunk_run_between runs c.args.chunks c.args.i first w.entry.result c.entry-first.ensures.value w.entry.ensures.value)
      | else-i-runs w ↦
          let e : c.saturating_sub.result ≡ c.args.chunks + 1 - first.0 = cc in
          let last : length runs ≡ c.args.i + 1 = omega arith in
          rw e (chunk_run_last runs c.args.chunks c.args.i first c.entry-first.ensures.value last)
    ]
