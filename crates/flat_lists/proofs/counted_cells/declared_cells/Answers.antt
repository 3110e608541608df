use Rattle.std.proofs.Common.{◌≤◌, ◌^◌, ℕ, ap, ◌∙◌, sym, subst}
use Rattle.segment_model.specs.Grid.{cells}
use Rattle.flat_lists.proofs.CountLemmas.{declared_low}
use Rattle.flat_lists.proofs.counted_cells.declared_cells.Goals as goal

pub returns-clause-cells : goal.returns-clause-cells
returns-clause-cells c = c.cells.ensures ∙ ap (cells c.args.grid.now) c.unwrap_or.ensures

pub returns-clause-bound : goal.returns-clause-bound
returns-clause-bound c = subst (λ (n : ℕ). n ≤ 2 ^ 42) (sym (returns-clause-cells c)) (declared_low c.args.grid.now c.args.part.now c.requires)
