-- The cell's rows are those between two places, and between two times.
use Rattle.std.proofs.Common.{◌≡◌, map, subst}
use Rattle.vod_types.specs.declared.tracks.Kind.{Kind}
use Rattle.seq_cells.specs.Cells.{part_grid_of}
use Rattle.vod_plan.specs.Narrowed.{between_times, other_kind}
use Rattle.vod_plan.specs.Ranges.{planned_of}
use Rattle.vod_plan.specs.Spans.{piece_view}
use Rattle.vod_plan.proofs.CellLemmas.{cell_is}
use Rattle.vod_plan.proofs.SoundLemmas.{pieces-trans}
use Rattle.vod_plan.proofs.cell.cut_to_cell.Goals as goal

pub returns-clause-rows : goal.returns-clause-rows
returns-clause-rows g c =
    let old = map piece_view c.args.pieces.now in
    let mid = map piece_view c.cut_by_number.new.pieces in
    let new = map piece_view c.cut_by_time.new.pieces in
    let from = c.time_of-from.result in
    let to = c.time_of-to.result in
    let by_number = c.cut_by_number.ensures in
    let by_time = c.cut_by_time.ensures in
    cell_is (part_grid_of c.args.cells) c.args.leads old mid new c.args.k c.first_row-first.result c.first_row-next.result from to
    c.first_row-first.ensures.row c.first_row-next.ensures.row c.time_of-from.ensures.time c.time_of-to.ensures.time by_number.rows by_number.other
    (subst (λ (kind : Kind). planned_of kind new ≡ between_times from to (planned_of kind mid)) c.other_kind.ensures by_time.rows)
    (subst (λ (kind : Kind). planned_of (other_kind kind) new ≡ planned_of (other_kind kind) mid) c.other_kind.ensures by_time.other)

pub returns-clause-same : goal.returns-clause-same
returns-clause-same g c = pieces-trans c.args.pieces.now c.cut_by_number.new.pieces c.cut_by_time.new.pieces c.cut_by_number.ensures.same c.cut_by_time.ensures.same
