use Rattle.std.proofs.Common.{◌≡◌, ◌*◌, ◌≤◌, take, sum}
use Rattle.mp4_tables.specs.Views.{stsz_entries}
use Rattle.flat_lists.proofs.bandwidths.bytes_of.Given as goal

abbrev pub invariant-loop-i : goal.invariant-loop-i
invariant-loop-i g l = record {
  total : l.bytes ≡ sum (take l.i (stsz_entries l.table));
  bound : l.bytes ≤ 4294967295 * l.i;
}
