-- A search finds the first row; behind the last cell the part's end stands for it.
use Rattle.std.proofs.Common.{◌≡◌, ℤ, w64, of_z, to_z, map, ap, ◌∙◌, arith}
use Rattle.std.specs.List.{position_or_len}
use Rattle.std.proofs.lemmas.Int.{ints}
use Rattle.seq_cells.specs.Cells.{part_grid_of}
use Rattle.vod_plan.specs.Ranges.{planned_of}
use Rattle.vod_plan.specs.Selected.{begins_by}
use Rattle.vod_plan.specs.Spans.{piece_view}
use Rattle.vod_plan.proofs.CellLemmas.{first_is, end_is}
use Rattle.vod_plan.proofs.cell.first_row.Goals as goal

pub returns-then-k-cells-clause-row : goal.returns-then-k-cells-clause-row
returns-then-k-cells-clause-row g c =
    let rows = planned_of c.args.leads (map piece_view c.args.pieces.now) in
    let same : to_z w64 (of_z w64 c.time.result) ≡ c.time.result = omega (arith, ints, c.time.ensures.bound) in
    let found = c.first_beginning.ensures.row ∙ ap (λ (t : ℤ). position_or_len (begins_by c.args.cells.align t) rows) same in
    first_is (part_grid_of c.args.cells) c.args.k rows c.time.result c.first_beginning.result c.if-k-cells.true c.time.ensures.time found

pub returns-else-k-cells-clause-row : goal.returns-else-k-cells-clause-row
returns-else-k-cells-clause-row g c =
    end_is (part_grid_of c.args.cells) c.args.k (planned_of c.args.leads (map piece_view c.args.pieces.now)) c.count_of.result c.if-k-cells.false c.count_of.ensures.count
