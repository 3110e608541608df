use Rattle.std.proofs.Common.{sym, ◌∙◌, refl}
use Rattle.segment_model.specs.Grid.{cells}
use Rattle.segmenter.proofs.GridLemmas.{cells-short_exact, cells-short_more, cells-long, cells-rounded_up, cells-rounded_down}
use Rattle.segmenter.proofs.boundaries.cells.Goals as goal

pub returns-then-ms-eq0 : goal.returns-then-ms-eq0
unfolding cells
returns-then-ms-eq0 c = rw c.if-ms-eq0.true refl

pub returns-in-LastShort : goal.returns-in-LastShort
returns-in-LastShort c =
    rw (← c.grid.view_is) (sym (cells-short_exact _ c.grid.invariant _ _ _ _ (rw (← c.grid.view_is) at c.last_reached-last.ensures) c.if-ms-eq0.false c.in-LastShort.is c.if-last-eq0.true))

pub returns-in-LastShort-2 : goal.returns-in-LastShort-2
returns-in-LastShort-2 c =
    rw (← c.grid.view_is) (sym (cells-short_more _ c.grid.invariant _ _ _ _ (rw (← c.grid.view_is) at c.last_reached-last.ensures) c.if-ms-eq0.false c.in-LastShort-2.is c.if-last-eq0.false))

pub returns-in-LastLong : goal.returns-in-LastLong
returns-in-LastLong c =
    c.max.ensures ∙ rw (← c.grid.view_is) (sym (cells-long _ c.grid.invariant _ _ _ _ (rw (← c.grid.view_is) at c.last_reached-last.ensures) c.if-ms-eq0.false c.in-LastLong.is))

pub returns-in-LastRounded : goal.returns-in-LastRounded
returns-in-LastRounded c =
    rw (← c.grid.view_is) (sym (cells-rounded_up _ c.grid.invariant _ _ _ _ (rw (← c.grid.view_is) at c.last_reached-last.ensures) c.if-ms-eq0.false c.in-LastRounded.is c.if-last.true))

pub returns-in-LastRounded-2 : goal.returns-in-LastRounded-2
returns-in-LastRounded-2 c =
    c.max-in-LastRounded-2.ensures ∙ rw (← c.grid.view_is) (sym (cells-rounded_down _ c.grid.invariant _ _ _ _ (rw (← c.grid.view_is) at c.last_reached-last.ensures) c.if-ms-eq0.false c.in-LastRounded-2.is c.if-last.false))
