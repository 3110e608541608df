use Rattle.std.proofs.Common.{◌^◌, ◌≤◌, ap, ◌∙◌, sym, subst, rules, FitsSigned, w64}
use Rattle.std.proofs.lemmas.Int.{to_z-of_z}
use Rattle.segment_model.specs.Grid.{cells}
use Rattle.seq_cells.proofs.CellPlaces.{open_small}
use Rattle.seq_cells.proofs.cells.open_cells.Goals as goal

pub returns-clause-bounded : goal.returns-clause-bounded
returns-clause-bounded c =
    let fits : FitsSigned w64 c.args.end = search rules in
    let is = c.cells.ensures ∙ ap (cells c.args.grid.now) (simp to_z-of_z at c.milliseconds_of.ensures) in
    subst (λ n. n ≤ 2 ^ 42) (sym is) (open_small c.args.grid.now c.args.end c.requires)
