use Rattle.std.proofs.Common.{◌≡◌, ◌*◌, ◌≤◌, drop}
use Rattle.mp4_model.specs.Validity.{stts_is_good}
use Rattle.mp4_tables.specs.Views.{stts_entries}
use Rattle.mp4_tables.proofs.Passes.{runs_left}
use Rattle.mp4_tables.proofs.validity.times_are_good.Given as goal

abbrev pub invariant-loop-i : goal.invariant-loop-i
invariant-loop-i l = record {
  left : stts_is_good l.samples (stts_entries l.table) ≡ runs_left l.samples l.total (drop l.i (stts_entries l.table));
  fits : l.total ≤ 4294967295 * l.i;
}
