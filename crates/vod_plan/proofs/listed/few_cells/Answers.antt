-- More than 100,000 cells are too many.
use Rattle.vod_plan.proofs.RowsDue.{cells_many}
use Rattle.vod_plan.proofs.listed.few_cells.Goals as goal

pub returns-then-all-gt100000-clause-many : goal.returns-then-all-gt100000-clause-many
returns-then-all-gt100000-clause-many c = cells_many c.sum_of-all.result _ c.sum_of-all.ensures c.if-all-gt100000.true
