use Rattle.std.proofs.Common.{◌≡◌, ◌++◌, drop, map, All}
use Rattle.flat_segments.specs.RowFaults.{kind_fault, shown, EndsLow}
use Rattle.flat_segments.specs.Segments.{facts_of}
use Rattle.flat_segments.proofs.row_checks.add_rows.Given as goal

abbrev pub invariant-loop-sample : goal.invariant-loop-sample
invariant-loop-sample l = record {
  rows : l.rows.items ++ map (shown l.form) (drop l.sample-index l.samples) ≡ l.fn.rows.items ++ map (shown l.form) l.samples;
  fault : kind_fault l.form l.kind (map facts_of l.files) (drop l.sample-index l.samples) ≡ kind_fault l.form l.kind (map facts_of l.files) l.samples;
  ends : All EndsLow l.rows.items;
}
