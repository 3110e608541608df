use Rattle.std.proofs.Common.{map, ap, ◌∙◌}
use Rattle.segment_model.specs.Iframes.{iframes}
use Rattle.segment_model.proofs.TrackRowsLemmas.{same_rows}
use Rattle.origin_model.specs.Sources.{source_piece}
use Rattle.flat_samples.specs.Rows.{part_rows, timed_view}
use Rattle.flat_lists.specs.ListedCells.{slices_view}
use Rattle.flat_lists.specs.ListedParts.{part_over}
use Rattle.flat_lists.specs.Marks.{marks_from}
use Rattle.flat_lists.proofs.CountedIframes.{OfMarks, err_all, marks-few, marks-more}
use Rattle.flat_lists.proofs.ListedTimelines.{ok_all, parts_within, rows_of_parts}
use Rattle.flat_lists.proofs.iframes.counted_rows.Goals as goal

pub marks_of_parts-requires-clause-places : goal.marks_of_parts-requires-clause-places
marks_of_parts-requires-clause-places c = parts_within c.args.cut.timeline.now c.parts_of.result.now c.parts_of.ensures.kept c.parts_of.ensures.parts

pub returns-clause-listed : goal.returns-clause-listed
returns-clause-listed c =
    let cut = c.args.cut in
    let t = cut.timeline.now in
    let rows = same_rows (slices_view (record { lead = c.deref.result; other = c.deref-2.result })) (part_rows c.args.counted.now.needed.rows) (ap (map timed_view) c.deref.ensures.value) (ap (map timed_view) c.deref-2.ensures.value) in
    let are : OfMarks cut.grid.now cut.align t c.args.counted.now c.deref-4.result.now = λ all of needed counts.
    c.deref-4.ensures.value
    ∙ c.in_ok-marks.ensures.marks (map source_piece all)
    (rows_of_parts cut.grid.now cut.align t c.parts_of.result.now c.deref-3.result.now c.args.counted.now.needed _ all c.parts_of.ensures.kept c.parts_of.ensures.parts rows of needed (c.deref-3.ensures.value ∙ counts))
    ∙ ap (λ ps. marks_from 1 (iframes cut.grid.now cut.align (map (part_over (map source_piece all)) ps))) c.parts_of.ensures.parts in
    ok_all c.listed_rows.result _ _ c.listed_rows.ensures.listed (λ out h. marks-few cut.grid.now cut.align t c.args.counted.now c.deref-4.result.now are out.items h)

pub returns-clause-more : goal.returns-clause-more
returns-clause-more c =
    let cut = c.args.cut in
    let t = cut.timeline.now in
    let rows = same_rows (slices_view (record { lead = c.deref.result; other = c.deref-2.result })) (part_rows c.args.counted.now.needed.rows) (ap (map timed_view) c.deref.ensures.value) (ap (map timed_view) c.deref-2.ensures.value) in
    let are : OfMarks cut.grid.now cut.align t c.args.counted.now c.deref-4.result.now = λ all of needed counts.
    c.deref-4.ensures.value
    ∙ c.in_ok-marks.ensures.marks (map source_piece all)
    (rows_of_parts cut.grid.now cut.align t c.parts_of.result.now c.deref-3.result.now c.args.counted.now.needed _ all c.parts_of.ensures.kept c.parts_of.ensures.parts rows of needed (c.deref-3.ensures.value ∙ counts))
    ∙ ap (λ ps. marks_from 1 (iframes cut.grid.now cut.align (map (part_over (map source_piece all)) ps))) c.parts_of.ensures.parts in
    err_all c.listed_rows.result _ _ c.listed_rows.ensures.only (λ e h other. marks-more cut.grid.now cut.align t c.args.counted.now c.deref-4.result.now are e (h other))
