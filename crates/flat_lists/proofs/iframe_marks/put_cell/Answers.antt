use Rattle.flat_lists.proofs.IframeMarks.{row_placed}
use Rattle.flat_lists.proofs.iframe_marks.put_cell.Goals as goal

pub put_row-requires-clause-placed : goal.put_row-requires-clause-placed
put_row-requires-clause-placed c = row_placed c.args.lead.now c.loop-row.row-index _ c.loop-row-test.true c.requires.placed
