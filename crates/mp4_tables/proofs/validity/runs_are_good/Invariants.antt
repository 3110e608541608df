use Rattle.std.proofs.Common.{◌≡◌, ◌*◌, ◌≤◌, true, drop}
use Rattle.mp4_model.specs.Validity.{is_up_to, stsc_is_good}
use Rattle.mp4_tables.specs.Views.{stsc_entries}
use Rattle.mp4_tables.proofs.Passes.{chunks_left}
use Rattle.mp4_tables.proofs.validity.runs_are_good.Given as goal

abbrev pub invariant-loop-i : goal.invariant-loop-i
invariant-loop-i l = record {
  left : stsc_is_good l.samples l.chunks (stsc_entries l.table) ≡ chunks_left l.samples l.chunks l.first_chunk l.per_chunk l.total (drop l.i (stsc_entries l.table));
  within : is_up_to l.chunks l.first_chunk ≡ true;
  fits : l.total ≤ 4294967295 * l.first_chunk;
}
