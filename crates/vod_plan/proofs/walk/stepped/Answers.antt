-- A step to the next row.
use Rattle.std.proofs.Common.{map, Some, sym, ap, ◌∙◌}
use Rattle.std.specs.Prelude.{option_map}
use Rattle.std.proofs.lemmas.Option.{slice_get-map}
use Rattle.segment_model.specs.Rows.{written_row}
use Rattle.vod_plan.specs.Dues.{due_view}
use Rattle.vod_plan.specs.Ranges.{planned_of}
use Rattle.vod_plan.specs.Spans.{piece_view}
use Rattle.vod_plan.proofs.RangeLemmas.{fits_at}
use Rattle.vod_plan.proofs.walk.stepped.Goals as goal

pub row-requires-clause-fits : goal.row-requires-clause-fits
row-requires-clause-fits g c = fits_at (planned_of c.args.kind (map piece_view c.args.pieces.now)) c.args.walk.given (due_view c.due_at.result.0) c.requires.fits c.due_at.ensures.row

pub returns-clause-row : goal.returns-clause-row
returns-clause-row g c =
    slice_get-map (written_row c.args.form) (planned_of c.args.kind (map piece_view c.args.pieces.now)) c.args.walk.given
    ∙ ap (option_map (written_row c.args.form)) c.due_at.ensures.row
    ∙ ap Some (sym c.row.ensures)
