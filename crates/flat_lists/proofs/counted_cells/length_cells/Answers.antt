use Rattle.std.proofs.Common.{map, ap, ◌∙◌, sym, subst, ◌≤◌, ◌^◌}
use Rattle.std.specs.Prelude.{ℕ}
use Rattle.segment_model.specs.Grid.{cells}
use Rattle.flat_samples.specs.Rows.{timed_view}
use Rattle.flat_lists.proofs.CountLemmas.{length_low}
use Rattle.flat_lists.proofs.counted_cells.length_cells.Goals as goal

pub returns-clause-cells : goal.returns-clause-cells
returns-clause-cells c = c.cells.ensures ∙ ap (cells c.args.grid.now) c.track_length.ensures

pub returns-clause-bound : goal.returns-clause-bound
returns-clause-bound c = subst (λ (n : ℕ). n ≤ 2 ^ 42) (sym (returns-clause-cells c)) (length_low c.args.grid.now c.args.part.now (map timed_view c.args.lead.now) c.requires.part c.requires.placed)
