use Rattle.std.proofs.Common.{rules, FitsSigned, w64, length, unwrap_or, ap, ◌∙◌}
use Rattle.std.proofs.lemmas.Int.{to_z-of_z}
use Rattle.flat_segments.specs.Cells.{part_grid_of}
use Rattle.flat_segments.proofs.CellRows.{first_row_behind, first_row_found}
use Rattle.flat_segments.proofs.cells.PartCells.first.Goals as goal

pub returns-then-k-self-clause-index : goal.returns-then-k-self-clause-index
returns-then-k-self-clause-index c = first_row_behind (part_grid_of c.args.self.now) c.args.lead.now c.args.k c.if-k-self.true

pub returns-clause-index : goal.returns-clause-index
returns-clause-index c =
    let fits : FitsSigned w64 c.time.result = search rules in
    let found = rw c.time.ensures at (simp to_z-of_z at c.first_from.ensures) in
    c.unwrap_or.ensures ∙ ap (λ i. unwrap_or i (length c.args.lead.now)) found
    ∙ first_row_found (part_grid_of c.args.self.now) c.args.lead.now c.args.k c.if-k-self.false
