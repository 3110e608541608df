use Rattle.std.proofs.Common.{map, ap, ◌∙◌}
use Rattle.segment_model.proofs.TrackRowsLemmas.{same_rows}
use Rattle.vod_types.specs.declared.segments.Listed.{Listed}
use Rattle.flat_lists.specs.ListedCells.{slices_view}
use Rattle.flat_samples.specs.Rows.{part_rows, timed_view}
use Rattle.flat_segments.specs.Cells.{part_grid_of}
use Rattle.flat_lists.proofs.ListedTimelines.{ok_all}
use Rattle.flat_lists.proofs.RowTimes.{listed_times}
use Rattle.flat_lists.proofs.TrackRowLemmas.{track_listed}
use Rattle.flat_lists.proofs.track_rows.track_rows.Goals as goal

pub returns-clause-rows : goal.returns-clause-rows
returns-clause-rows c =
    let rows = same_rows (slices_view (record { lead = c.deref.result; other = c.deref-2.result })) (part_rows c.args.rows.now) (ap (map timed_view) c.deref.ensures.value) (ap (map timed_view) c.deref-2.ensures.value) in
    ok_all c.rows_of.result _ _ c.rows_of.ensures.rows
    (λ out is. is ∙ ap (map (λ (l : Listed). l.row)) c.deref-3.ensures.value
    ∙ track_listed c.args.kind c.args.part c.args.number (part_grid_of c.args.cells) (part_rows c.args.rows.now) _ _ _ c.new-listed.ensures.items rows c.requires.order c.in_ok-list.ensures.listed)

pub returns-clause-times : goal.returns-clause-times
returns-clause-times c =
    ok_all c.rows_of.result _ _ (returns-clause-rows c)
    (λ out is. listed_times c.args.kind c.args.part c.args.number (part_grid_of c.args.cells) (part_rows c.args.rows.now) out.items c.requires.start c.requires.low c.requires.placed c.requires.order is)
