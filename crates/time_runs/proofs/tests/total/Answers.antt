use Rattle.std.proofs.Common.{◌≡◌, ◌*◌, ◌≤◌, ◌^◌, length, ap, ◌∙◌, arith}
use Rattle.std.proofs.lemmas.Nat.{mul-le}
use Rattle.mp4_model.specs.RunSums.{sum_before}
use Rattle.mp4_model.proofs.RunSeeks.{sum_before-all}
use Rattle.mp4_tables.specs.Views.{stts_entries}
use Rattle.time_runs.proofs.PlaceLemmas.{sum_with_run}
use Rattle.time_runs.proofs.tests.total.Goals as goal

pub loop-run-preserved : goal.loop-run-preserved
loop-run-preserved g c =
    let loop = c.loop-run in
    let e = sum_with_run (stts_entries c.args.table.now) loop.run loop.time c.entry-count.result c.entry-count.ensures.value loop.invariant.time in
    let most : c.from.result * c.from-in-loop-run.result ≤ 2 ^ 32 * 2 ^ 32 = mul-le c.from.result c.from-in-loop-run.result (2 ^ 32) (2 ^ 32) (omega (arith, c.from.ensures)) (omega (arith, c.from-in-loop-run.ensures)) in
    record {
      time = rw (c.from.ensures, c.from-in-loop-run.ensures) e;
      small = omega (arith, most, loop.invariant.small);
    }

pub returns : goal.returns
returns g c =
    let runs = stts_entries c.args.table.now in
    let all : c.loop-run.run ≡ length runs = omega (arith, c.len-run-end.ensures, c.loop-run-test.false) in
    c.loop-run.invariant.time ∙ ap (sum_before runs) all ∙ sum_before-all runs
