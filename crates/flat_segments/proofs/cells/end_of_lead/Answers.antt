use Rattle.std.proofs.Common.{◌-◌, ◌^◌, length, sym, ◌∙◌, arith}
use Rattle.std.proofs.lemmas.Int.{ints}
use Rattle.flat_samples.proofs.ListViews.{abs_bounds}
use Rattle.flat_segments.proofs.CellRows.{placed_at, last_end}
use Rattle.flat_segments.proofs.cells.end_of_lead.Goals as goal

pub overflow_cast-result : goal.overflow_cast-result
overflow_cast-result c =
    let row = placed_at c.args.lead.now (length c.args.lead.now - 1) c.in-Some.row.now c.requires c.in-Some.ensures.value in
    omega (arith, ints, row.duration)

pub overflow_add-result : goal.overflow_add-result
overflow_add-result c =
    let row = placed_at c.args.lead.now (length c.args.lead.now - 1) c.in-Some.row.now c.requires c.in-Some.ensures.value in
    let place = abs_bounds c.in-Some.row.now.place (2 ^ 42) row.place in
    omega (arith, ints, row.duration, place.0, place.1)

pub returns-in-Some : goal.returns-in-Some
returns-in-Some c =
    let row = placed_at c.args.lead.now (length c.args.lead.now - 1) c.in-Some.row.now c.requires c.in-Some.ensures.value in
    let place = abs_bounds c.in-Some.row.now.place (2 ^ 42) row.place in
    omega (arith, ints, row.duration, place.0, place.1) ∙ sym (last_end c.args.start c.args.lead.now c.in-Some.row.now c.in-Some.ensures.value)
