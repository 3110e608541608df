use Rattle.std.proofs.Common.{◌^◌, arith}
use Rattle.std.proofs.lemmas.Int.{ints}
use Rattle.seq_cells.proofs.CellPlaces.{abs_bounds}
use Rattle.seq_cells.proofs.cells.PartCells.time.Goals as goal

pub overflow_cast-result : goal.overflow_cast-result
overflow_cast-result c = omega (arith, ints, c.boundary.ensures.bounded, c.requires.few)

pub overflow_mul-result : goal.overflow_mul-result
overflow_mul-result c = omega (arith, ints, c.boundary.ensures.bounded, c.requires.few)

pub overflow_add-result : goal.overflow_add-result
overflow_add-result c =
    let start = abs_bounds c.args.self.now.start (2 ^ 41) c.requires.start in
    omega (arith, ints, c.boundary.ensures.bounded, c.requires.few)

pub returns-clause-time : goal.returns-clause-time
returns-clause-time c =
    let start = abs_bounds c.args.self.now.start (2 ^ 41) c.requires.start in
    omega (arith, ints, c.boundary.ensures.value, c.boundary.ensures.bounded, c.requires.few)

pub returns-clause-bound : goal.returns-clause-bound
returns-clause-bound c =
    let start = abs_bounds c.args.self.now.start (2 ^ 41) c.requires.start in
    omega (arith, ints, c.boundary.ensures.value, c.boundary.ensures.bounded, c.requires.few)
