use Rattle.std.proofs.Common.{length, ap, arith, rules}
use Rattle.media_model.specs.Fragment.{sizes}
use Rattle.fmp4_writer.proofs.RowsLemmas.{left_before, none_left, sizes-of}
use Rattle.fmp4_writer.proofs.front.sizes.Goals as goal

pub overflow_add-total : goal.overflow_add-total
overflow_add-total g c =
    let left = left_before _ _ _ _ _ c.in-Some.row c.in-Some.ensures.rows c.in-Some.ensures.places c.in-Some.ensures.row in
    omega (arith, sizes-of _ _ _ left)

pub loop-row-smaller : goal.loop-row-smaller
loop-row-smaller g c =
    let left = left_before _ _ _ _ _ c.in-Some.row c.in-Some.ensures.rows c.in-Some.ensures.places c.in-Some.ensures.row in
    omega (arith, ap length left)

pub loop-row-preserved : goal.loop-row-preserved
loop-row-preserved g c =
    let left = left_before _ _ _ _ _ c.in-Some.row c.in-Some.ensures.rows c.in-Some.ensures.places c.in-Some.ensures.row in
    record { rows = search rules; total = omega (arith, sizes-of _ _ _ left) }

pub returns-clause-sizes : goal.returns-clause-sizes
returns-clause-sizes g c =
    let left = none_left c.args.kind (g.R.Rows.rows c.loop-row.rows) (g.R.Rows.places c.loop-row.rows) c.in_default.ensures.row in
    omega (arith, ap sizes left)
