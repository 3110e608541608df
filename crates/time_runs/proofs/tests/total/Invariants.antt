use Rattle.std.proofs.Common.{◌≡◌, ◌*◌, ◌≤◌, ◌^◌}
use Rattle.mp4_model.specs.RunSums.{sum_before}
use Rattle.mp4_tables.specs.Views.{stts_entries}
use Rattle.time_runs.proofs.tests.total.Given as goal

abbrev pub invariant-loop-run : goal.invariant-loop-run
invariant-loop-run g l = record {
  time : l.time ≡ sum_before (stts_entries l.table) l.run;
  small : l.time ≤ 2 ^ 64 * l.run;
}
