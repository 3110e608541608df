use Rattle.std.proofs.Common.{rules, add-one}
use Rattle.flat_segments.specs.Cells.{part_grid_of}
use Rattle.flat_segments.proofs.CellRows.{cell_is}
use Rattle.flat_segments.proofs.cells.PartCells.rows_of.Goals as goal

pub returns-clause-rows : goal.returns-clause-rows
returns-clause-rows c =
    cell_is (part_grid_of c.args.self.now) c.args.rows.now.lead.items c.args.rows.now.other.items c.in-Ok.own.items c.in_ok-other.other.items c.args.k c.first-from.result c.first-next.result
    (rw c.as_slice-lead.ensures.value at c.first-from.ensures.index)
    (rw (c.as_slice-lead.ensures.value, add-one) at c.first-next.ensures.index)
    (search rules)
    (rw (c.time_at.ensures, c.time_at-2.ensures, c.as_slice-lead.ensures.value, c.deref.ensures.value) at c.in_ok-other.ensures.rows)
