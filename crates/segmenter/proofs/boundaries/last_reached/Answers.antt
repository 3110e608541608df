use Rattle.std.proofs.Common.{arith, get_or, ap, ◌∙◌}
use Rattle.segmenter.proofs.GridLemmas.{reached_inside}
use Rattle.segmenter.proofs.boundaries.last_reached.Goals as goal

pub returns-then-rest-duration : goal.returns-then-rest-duration
returns-then-rest-duration c =
    rw (← c.grid.view_is) (reached_inside _ c.grid.invariant _ _ _ _ (omega arith)
    (c.from-duration.ensures ∙ ap (λ items. get_or items c.loop-cell.cell 0) c.deref-duration-items.ensures.value)
    c.loop-cell.invariant.passed c.loop-cell.invariant.small c.if-rest-duration.true)
