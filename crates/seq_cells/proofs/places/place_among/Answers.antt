use Rattle.std.proofs.Common.{arith}
use Rattle.seq_cells.proofs.CellPlaces.{place_many, place_found, place_none, located}
use Rattle.seq_cells.proofs.places.place_among.Goals as goal

pub returns-then-all-gt100000-clause-place : goal.returns-then-all-gt100000-clause-place
returns-then-all-gt100000-clause-place c = place_many c.args.counts.now c.args.number _ c.sum_of-all.ensures (omega arith)

pub returns-in-Some-clause-place : goal.returns-in-Some-clause-place
returns-in-Some-clause-place c = place_found c.args.counts.now c.args.number _ c.in-Some.place c.sum_of-all.ensures (omega arith) c.in-Some.ensures

pub returns-in-Some-clause-part : goal.returns-in-Some-clause-part
returns-in-Some-clause-part c = (located c.args.counts.now c.args.number c.in-Some.place c.in-Some.ensures).0

pub returns-in-Some-clause-cell : goal.returns-in-Some-clause-cell
returns-in-Some-clause-cell c = let small = (located c.args.counts.now c.args.number c.in-Some.place c.in-Some.ensures).1 in omega (arith, small, c.sum_of-all.ensures)

pub returns-in-None-clause-place : goal.returns-in-None-clause-place
returns-in-None-clause-place c = place_none c.args.counts.now c.args.number _ c.sum_of-all.ensures (omega arith) c.in-None.ensures
