use Rattle.seq_cells.proofs.CellPlaces.{counts_small, counts_many, counts_done}
use Rattle.seq_cells.proofs.parts.counts_of.Goals as goal

pub returns-clause-bounded : goal.returns-clause-bounded
returns-clause-bounded c = counts_small c.args.grid.now c.args.parts.now _ c.requires (counts_done c.args.grid.now c.args.parts.now c.loop-part.part-index _ c.loop-part.invariant.counts c.loop-part-test.false)

pub returns-clause-many : goal.returns-clause-many
returns-clause-many c = counts_many c.args.grid.now c.args.parts.now _ (counts_done c.args.grid.now c.args.parts.now c.loop-part.part-index _ c.loop-part.invariant.counts c.loop-part-test.false)
