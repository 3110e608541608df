-- The rows of the part are listed.
use Rattle.std.proofs.Common.{ap, ◌∙◌, map}
use Rattle.vod_types.specs.declared.segments.Listed.{Listed}
use Rattle.seq_cells.specs.Cells.{part_grid_of}
use Rattle.vod_plan.specs.Selected.{rows_planned}
use Rattle.vod_plan.specs.Spans.{piece_view}
use Rattle.flat_lists.proofs.ListedTimelines.{ok_all}
use Rattle.flat_lists.proofs.TrackRowLemmas.{track_listed}
use Rattle.seek_lists.proofs.PartLemmas.{planned_rows}
use Rattle.seek_lists.proofs.track_rows.track_rows.Goals as goal

pub returns-clause-rows : goal.returns-clause-rows
returns-clause-rows g c =
    ok_all c.rows_of.result _ _ c.rows_of.ensures.rows
    (λ out is. is ∙ ap (map (λ (l : Listed). l.row)) c.deref.ensures.value
    ∙ track_listed c.args.kind c.args.part c.args.number (part_grid_of c.args.cells) (rows_planned c.args.kind (map piece_view c.args.pieces.now)) _ _ _ c.new-listed.ensures.items
    (planned_rows c.args.kind (map piece_view c.args.pieces.now)) c.requires.order c.in_ok-list.ensures.listed)
