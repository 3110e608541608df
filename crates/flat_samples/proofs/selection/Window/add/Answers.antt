use Rattle.flat_samples.proofs.Selected.{file_row_at}
use Rattle.flat_samples.proofs.selection.Window.add.Goals as goal

pub placed-requires-clause-row : goal.placed-requires-clause-row
placed-requires-clause-row c = file_row_at c.args.samples.now c.loop-sample.sample-index _ c.loop-sample-test.true c.requires.rows
