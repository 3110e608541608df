use Rattle.std.proofs.Common.{◌≡◌, ◌*◌, ◌≤◌, drop}
use Rattle.mp4_model.specs.Validity.{ctts_is_good}
use Rattle.mp4_tables.specs.Views.{ctts_entries}
use Rattle.mp4_tables.proofs.Passes.{offsets_left}
use Rattle.mp4_tables.proofs.validity.offsets_are_good.Given as goal

abbrev pub invariant-loop-i : goal.invariant-loop-i
invariant-loop-i l = record {
  left : ctts_is_good l.samples l.timescale (ctts_entries l.table) ≡ offsets_left l.samples l.timescale l.total (drop l.i (ctts_entries l.table));
  fits : l.total ≤ 4294967295 * l.i;
}
