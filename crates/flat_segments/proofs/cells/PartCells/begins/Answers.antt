use Rattle.std.proofs.Common.{rules, FitsSigned, w64, ap, ◌∙◌}
use Rattle.std.specs.Prelude.{is_some}
use Rattle.std.proofs.lemmas.Int.{to_z-of_z}
use Rattle.flat_segments.specs.Cells.{part_grid_of}
use Rattle.flat_segments.proofs.CellRows.{may_begin_any}
use Rattle.flat_segments.proofs.cells.PartCells.begins.Goals as goal

pub returns : goal.returns
returns c =
    let fits : FitsSigned w64 c.time.result = search rules in
    let found = rw c.time.ensures at (simp to_z-of_z at c.first_from.ensures) in
    c.is_some.ensures ∙ ap is_some found ∙ may_begin_any (part_grid_of c.args.self.now) c.args.k c.args.lead.now
