use Rattle.std.proofs.Common.{subst, sym}
use Rattle.flat_samples.specs.Rows.{part_rows, ArePlacedRows}
use Rattle.flat_segments.specs.Cells.{part_grid_of}
use Rattle.flat_segments.proofs.PlacedRows.{placed_cell}
use Rattle.answer_laws.proofs.Due.{answers_may}
use Rattle.flat_segments.specs.Segments.{flat_plan}
use Rattle.flat_segments.proofs.SegmentCalls.{cell_answers, cell_not_failed, cell_writable, wanted_may}
use Rattle.flat_segments.proofs.segment.cell_rows.Goals as goal

pub wanted_rows-requires-clause-placed : goal.wanted_rows-requires-clause-placed
wanted_rows-requires-clause-placed c =
    subst ArePlacedRows (sym c.in-Ok.ensures.rows) (placed_cell (part_grid_of c.args.cells.now) (part_rows c.args.needed.rows) c.args.k c.requires.of.pieces.1.placed)

pub wanted_rows-requires-clause-typed : goal.wanted_rows-requires-clause-typed
wanted_rows-requires-clause-typed c = c.requires.of.pieces.1.typed

pub returns-in-Ok-clause-writable : goal.returns-in-Ok-clause-writable
returns-in-Ok-clause-writable c =
    cell_writable c.args.number c.args.wanted c.args.asked (part_grid_of c.args.cells.now) c.args.k c.args.needed c.requires.of c.wanted_rows.result
    (cell_answers c.args.number c.args.wanted c.args.asked (part_grid_of c.args.cells.now) c.args.k c.args.needed (part_rows c.in-Ok.rows) c.in-Ok.ensures.rows c.wanted_rows.result
    c.wanted_rows.ensures.answers c.requires.of.pieces.1.checked c.requires.of.pieces.1.needed)
    c.wanted_rows.ensures.video_ends c.wanted_rows.ensures.audio_ends c.wanted_rows.ensures.files

pub returns-in-Ok-clause-not_failed : goal.returns-in-Ok-clause-not_failed
returns-in-Ok-clause-not_failed c =
    cell_not_failed c.wanted_rows.result c.args.number c.args.wanted c.args.asked c.requires.of.pieces.1.checked (part_rows c.in-Ok.rows)
    (c.wanted_rows.ensures.answers c.requires.of.pieces.1.checked (sym c.requires.of.pieces.1.needed.files))

pub returns-in-Ok-clause-answers : goal.returns-in-Ok-clause-answers
returns-in-Ok-clause-answers c =
    cell_answers c.args.number c.args.wanted c.args.asked (part_grid_of c.args.cells.now) c.args.k c.args.needed (part_rows c.in-Ok.rows) c.in-Ok.ensures.rows c.wanted_rows.result
    c.wanted_rows.ensures.answers

pub returns-in-Ok-clause-refused : goal.returns-in-Ok-clause-refused
returns-in-Ok-clause-refused c =
    answers_may flat_plan _ (wanted_may c.args.number c.args.wanted c.args.asked c.requires.of.pieces.1.checked (part_rows c.in-Ok.rows)) c.wanted_rows.result
    (c.wanted_rows.ensures.answers c.requires.of.pieces.1.checked (sym c.requires.of.pieces.1.needed.files))
