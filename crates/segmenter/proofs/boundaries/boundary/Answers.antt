use Rattle.std.proofs.Common.{subst, ◌≤◌, ◌*◌, ap, ◌∙◌, sum, take, arith, mul-le-mul_left}
use Rattle.segmenter.proofs.GridLemmas.{boundary_fits, boundary_near, front_low, front_small}
use Rattle.segmenter.specs.Ranges.{HasRanges}
use Rattle.segmenter.proofs.boundaries.boundary.Goals as goal

pub overflow_add-result : goal.overflow_add-result
overflow_add-result c =
    let front = c.total.ensures ∙ ap (λ ds. sum (take c.min-first.result ds)) c.deref.ensures.value in
    let few : c.total.result ≤ 9600000 = omega (arith, front, front_small c.grid.inside.bootstrap.items c.min-first.result c.grid.invariant.bootstrap c.grid.invariant.count) in
    let fits = boundary_fits c.total.result c.saturating_sub-steps.result c.from.result few (omega arith) (omega (arith, c.grid.invariant.step.1)) in
    omega (arith, fits)

pub returns-clause-bounded : goal.returns-clause-bounded
returns-clause-bounded c =
    let front = c.total.ensures ∙ ap (λ ds. sum (take c.min-first.result ds)) c.deref.ensures.value in
    let low = front_low c.grid.inside.bootstrap.items c.min-first.result c.grid.invariant.bootstrap in
    let times : c.saturating_sub-steps.result * c.from.result ≤ c.saturating_sub-steps.result * 600000 = mul-le-mul_left c.saturating_sub-steps.result (omega (arith, c.grid.invariant.step.1)) in
    omega (arith, front, low, times)

pub returns-clause-short : goal.returns-clause-short
returns-clause-short c = boundary_near c.args.grid.now (subst HasRanges c.grid.view_is c.grid.invariant) c.args.k
