-- A short length has few cells.
use Rattle.std.proofs.Common.{arith}
use Rattle.seq_cells.proofs.CellPlaces.{cells_small}
use Rattle.seek_lists.proofs.lengths.length_cells.Goals as goal

pub returns-clause-bound : goal.returns-clause-bound
returns-clause-bound c = let few = cells_small c.args.grid.now c.args.length in omega (arith, few, c.cells.ensures, c.requires)
