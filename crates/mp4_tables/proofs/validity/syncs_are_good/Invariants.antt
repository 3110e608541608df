use Rattle.std.proofs.Common.{◌≡◌, drop}
use Rattle.mp4_model.specs.Validity.{stss_is_good}
use Rattle.mp4_tables.specs.Views.{stss_entries}
use Rattle.mp4_tables.proofs.Passes.{syncs_left}
use Rattle.mp4_tables.proofs.validity.syncs_are_good.Given as goal

abbrev pub invariant-loop-i : goal.invariant-loop-i
invariant-loop-i l = stss_is_good l.samples (stss_entries l.table) ≡ syncs_left l.samples l.before (drop l.i (stss_entries l.table))
