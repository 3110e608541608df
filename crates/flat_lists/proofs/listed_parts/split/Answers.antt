use Rattle.flat_lists.specs.ListedCells.{slices_view}
use Rattle.flat_lists.specs.ListedParts.{rows_before, rows_from}
use Rattle.segment_model.proofs.TrackRowsLemmas.{same_rows}
use Rattle.flat_lists.proofs.ListedParts.{front-view, back-view}
use Rattle.flat_lists.proofs.listed_parts.split.Goals as goal

pub returns-clause-before : goal.returns-clause-before
returns-clause-before c =
    same_rows (slices_view (record { lead = c.split_at.result.0; other = c.split_at-2.result.0 })) (rows_before c.args.place (slices_view c.args.rows))
    (front-view c.args.place c.place_in.result c.args.rows.lead.now c.split_at.result.0.now c.place_in.ensures.index c.split_at.ensures.front)
    (front-view c.args.place c.place_in-2.result c.args.rows.other.now c.split_at-2.result.0.now c.place_in-2.ensures.index c.split_at-2.ensures.front)

pub returns-clause-from : goal.returns-clause-from
returns-clause-from c =
    same_rows (slices_view (record { lead = c.split_at.result.1; other = c.split_at-2.result.1 })) (rows_from c.args.place (slices_view c.args.rows))
    (back-view c.args.place c.place_in.result c.args.rows.lead.now c.split_at.result.1.now c.place_in.ensures.index c.split_at.ensures.back)
    (back-view c.args.place c.place_in-2.result c.args.rows.other.now c.split_at-2.result.1.now c.place_in-2.ensures.index c.split_at-2.ensures.back)
