-- What the rows that are left have yet to give is what all of them give.
use Rattle.std.proofs.Common.{◌≡◌, ◌+◌, ◌*◌, ◌≤◌, max, length, map, fold}
use Rattle.std.specs.List.{AllByRecursion}
use Rattle.media_model.specs.WritingOrder.{TrackRow}
use Rattle.origin_model.specs.Samples.{sizes_of}
use Rattle.vod_plan.specs.Passes.{looks_for, ordered_rows, rows_left, IsPass}
use Rattle.vod_plan.specs.RowFaults.{facts_of, first_fault, largest_in, EndsLow}
use Rattle.vod_plan.specs.Spans.{piece_view}
use Rattle.vod_plan.proofs.passes.passed.Given as goal

abbrev pub invariant-loop-turn : goal.invariant-loop-turn
invariant-loop-turn g l = record {
  pass : IsPass (map piece_view l.pieces) l.pass;
  fault : first_fault l.form (map facts_of l.pieces) (rows_left l.form (map piece_view l.pieces) l.pass) ≡ first_fault l.form (map facts_of l.pieces) (ordered_rows l.form (map piece_view l.pieces));
  ends : AllByRecursion (λ (r : TrackRow). EndsLow r.row) (rows_left l.form (map piece_view l.pieces) l.pass) → AllByRecursion (λ (r : TrackRow). EndsLow r.row) (ordered_rows l.form (map piece_view l.pieces));
  largest : fold max l.pass.largest (map (λ (r : TrackRow). r.row.sample.size) (rows_left l.form (map piece_view l.pieces) l.pass)) ≡ largest_in (ordered_rows l.form (map piece_view l.pieces));
  bytes : l.pass.bytes + sizes_of (rows_left l.form (map piece_view l.pieces) l.pass) ≡ sizes_of (ordered_rows l.form (map piece_view l.pieces));
  few : l.pass.bytes + 4294967295 * length (rows_left l.form (map piece_view l.pieces) l.pass) ≤ 4294967295 * 400000;
  looks : l.steps ≤ l.fn.steps + looks_for l.pass;
}

abbrev pub decreases-loop-turn : goal.decreases-loop-turn
decreases-loop-turn g l = length (rows_left l.form (map piece_view l.pieces) l.pass)
