use Rattle.std.proofs.Common.{slice_get, map, refl, ap, ◌∙◌}
use Rattle.flat_lists.specs.ListedCells.{slices_view}
use Rattle.flat_samples.specs.Rows.{timed_view}
use Rattle.flat_segments.specs.Cells.{is_past}
use Rattle.flat_segments.proofs.CellRows.{is_past-from}
use Rattle.flat_lists.proofs.ListedCells.{other_skipped, slice_from}
use Rattle.flat_lists.proofs.listed_part.ListedPart.first_other.Goals as goal

pub returns-clause-row : goal.returns-clause-row
returns-clause-row c =
    let rows = c.args.self.now.rows in
    other_skipped (slices_view rows) c.args.lead c.args.earlier _ c.time_at.result rows.other.now _ refl (slice_from c.args.earlier rows.other.now)
    (λ time. ap (λ o. is_past o time) c.time_at.ensures ∙ is_past-from (slice_get (map timed_view rows.lead.now) c.args.lead) time) c.first_past.ensures.index
