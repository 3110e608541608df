use Rattle.std.proofs.Common.{◌≡◌, ◌*◌, ◌≤◌, take, sum_by}
use Rattle.mp4_tables.specs.Views.{stts_entries}
use Rattle.flat_lists.proofs.bandwidths.time_of.Given as goal

abbrev pub invariant-loop-i : goal.invariant-loop-i
invariant-loop-i g l = record {
  total : l.time ≡ sum_by (λ r. r.0 * r.1) (take l.i (stts_entries l.table));
  bound : l.time ≤ 18446744073709551616 * l.i;
}
