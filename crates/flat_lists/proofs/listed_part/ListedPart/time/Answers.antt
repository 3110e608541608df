use Rattle.std.proofs.Common.{ap₂, ◌∙◌, FitsSigned, w64, rules, slice_get}
use Rattle.std.specs.Prelude.{unwrap_or}
use Rattle.std.proofs.lemmas.Int.{to_z-of_z}
use Rattle.segment_model.specs.Timeline.{lead_end}
use Rattle.flat_lists.specs.ListedCells.{slices_view}
use Rattle.flat_lists.proofs.ListedCells.{row_time_small, time_is}
use Rattle.flat_lists.proofs.listed_part.ListedPart.time.Goals as goal

pub returns-clause-time : goal.returns-clause-time
returns-clause-time c =
    let fits : FitsSigned w64 c.unwrap_or.result = search rules in
    let end_fits : FitsSigned w64 c.end_of_lead-end.result = search rules in
    let start_fits : FitsSigned w64 c.args.self.now.cells.start = search rules in
    let rows = slices_view c.args.self.now.rows in
    let end = simp to_z-of_z at c.end_of_lead-end.ensures in
    let found = simp to_z-of_z at c.unwrap_or.ensures in
    simp to_z-of_z (found ∙ ap₂ unwrap_or c.time_at.ensures end ∙ time_is (lead_end c.args.self.now.cells.start rows.lead) (slice_get rows.lead c.args.index))

pub returns-clause-small : goal.returns-clause-small
returns-clause-small c =
    let rows = slices_view c.args.self.now.rows in
    rw (returns-clause-time c) (row_time_small c.args.self.now.cells.start rows c.args.index c.requires.start c.requires.placed.lead)
