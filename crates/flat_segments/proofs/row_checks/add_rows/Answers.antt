use Rattle.std.proofs.Common.{◌≤◌, length, map, sym, ap, ◌∙◌, arith}
use Rattle.std.proofs.lemmas.List.{drop_all}
use Rattle.flat_segments.specs.RowFaults.{kind_fault}
use Rattle.flat_segments.specs.Segments.{facts_of}
use Rattle.flat_segments.proofs.PlacedRows.{placed_at}
use Rattle.flat_segments.proofs.RowFaults.{fault_found, fault_left, rows_more, none_fault_of}
use Rattle.flat_segments.proofs.row_checks.add_rows.Goals as goal

pub add_row-requires-clause-placed : goal.add_row-requires-clause-placed
add_row-requires-clause-placed c = placed_at c.args.samples.now c.requires.placed c.loop-sample.sample-index c.loop-sample-test.true

pub returns-in-Err-clause-refused : goal.returns-in-Err-clause-refused
returns-in-Err-clause-refused c = λ other.
    fault_found c.args.form c.args.samples.now c.loop-sample.sample-index c.loop-sample-test.true c.args.kind (map facts_of c.args.files.now) _ c.loop-sample.invariant.fault
    c.in-Err.refusal (c.in-Err.ensures.refused other)

pub loop-sample-preserved : goal.loop-sample-preserved
loop-sample-preserved c = record {
  rows = rows_more c.args.form c.args.samples.now c.loop-sample.sample-index c.loop-sample-test.true c.loop-sample.rows.items c.add_row.new.rows.items _ c.loop-sample.invariant.rows c.in-Ok.ensures.rows;
  fault = fault_left c.args.form c.args.samples.now c.loop-sample.sample-index c.loop-sample-test.true c.args.kind (map facts_of c.args.files.now) _ c.loop-sample.invariant.fault c.in-Ok.ensures.sound;
  ends = c.in-Ok.ensures.ends;
}

pub returns-clause-sound : goal.returns-clause-sound
returns-clause-sound c =
    let past : length c.args.samples.now ≤ c.loop-sample.sample-index = omega (arith, c.loop-sample-test.false) in
    sym c.loop-sample.invariant.fault ∙ ap (kind_fault c.args.form c.args.kind (map facts_of c.args.files.now)) (drop_all c.loop-sample.sample-index c.args.samples.now past)
    ∙ none_fault_of c.args.form c.args.kind (map facts_of c.args.files.now)
