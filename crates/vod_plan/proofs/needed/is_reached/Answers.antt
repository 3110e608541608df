-- No row, or one that may begin the cell at a number below that of all rows.
use Rattle.std.proofs.Common.{◌<◌, ℤ, ap, ◌∙◌, arith, rules, FitsSigned, w64}
use Rattle.std.specs.List.{list_any}
use Rattle.std.proofs.lemmas.Int.{to_z-of_z}
use Rattle.segment_model.specs.Grid.{may_begin}
use Rattle.seq_cells.specs.Cells.{part_grid_of}
use Rattle.vod_plan.specs.Needed.{piece_rows}
use Rattle.vod_plan.specs.Selected.{begins_by}
use Rattle.vod_plan.specs.Spans.{piece_view}
use Rattle.vod_plan.proofs.FoundLemmas.{reached_none, reached_some}
use Rattle.vod_plan.proofs.needed.is_reached.Goals as goal

pub returns-then-rows-eq0-clause-reached : goal.returns-then-rows-eq0-clause-reached
returns-then-rows-eq0-clause-reached g c =
    rw c.in-Some.is (reached_none c.args.kind (may_begin (part_grid_of c.in-Some.cells) c.in-Some.k) c.args.piece.now c.requires.piece (omega (arith, c.rows-rows.ensures, c.if-rows-eq0.true)))

pub returns-clause-reached : goal.returns-clause-reached
returns-clause-reached g c =
    let fits : FitsSigned w64 c.time.result = search rules in
    let some : 0 < c.rows-rows.result = omega (arith, c.if-rows-eq0.false) in
    rw c.in-Some.is
    (reached_some c.args.kind (begins_by c.in-Some.cells.align c.time.result) c.args.piece.now c.rows_before.result c.rows-rows.result c.requires.piece
    (simp to_z-of_z at c.rows_before.ensures.count) c.rows-rows.ensures some
    ∙ ap (λ (time : ℤ). list_any (begins_by c.in-Some.cells.align time) (piece_rows c.args.kind 0 (piece_view c.args.piece.now))) c.time.ensures.time)
