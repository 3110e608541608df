use Rattle.std.proofs.Common.{map, ap, ap₂, ◌∙◌}
use Rattle.segment_model.specs.Cut.{listed}
use Rattle.segment_model.proofs.TrackRowsLemmas.{same_rows}
use Rattle.origin_model.specs.Sources.{source_piece}
use Rattle.flat_lists.specs.ListedCells.{slices_view}
use Rattle.flat_lists.specs.ListedParts.{part_over}
use Rattle.flat_samples.specs.Rows.{part_rows, timed_view}
use Rattle.flat_lists.proofs.ListedTimelines.{ok_all, parts_within, rows_of_parts}
use Rattle.flat_lists.proofs.listed_timeline.needed_rows.Goals as goal

pub list_parts-requires-clause-places : goal.list_parts-requires-clause-places
list_parts-requires-clause-places c = parts_within c.args.cut.timeline.now c.parts_of.result.now c.parts_of.ensures.kept c.parts_of.ensures.parts

pub returns-clause-listed : goal.returns-clause-listed
returns-clause-listed c =
    let cut = c.args.cut in
    let rows = same_rows (slices_view (record { lead = c.deref.result; other = c.deref-2.result })) (part_rows c.args.needed.now.rows) (ap (map timed_view) c.deref.ensures.value) (ap (map timed_view) c.deref-2.ensures.value) in
    ok_all c.list_parts.result _ _ c.list_parts.ensures.listed (λ out are all of needed counts.
    are (map source_piece all) (rows_of_parts cut.grid.now cut.align cut.timeline.now c.parts_of.result.now c.args.counts.now c.args.needed.now _ all c.parts_of.ensures.kept c.parts_of.ensures.parts rows of needed counts)
    ∙ ap₂ (λ leads ps. listed leads cut.grid.now cut.align (map (part_over (map source_piece all)) ps)) c.lead_of.ensures c.parts_of.ensures.parts)
