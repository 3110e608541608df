-- From cell to cell.
use Rattle.std.proofs.Common.{◌≡◌, ◌+◌, ℕ, List, length, map, drop, ℤ, pos, w64, of_z, to_z, ap, ap₂, ◌∙◌, subst, arith, length-append}
use Rattle.std.proofs.lemmas.Int.{ints}
use Rattle.std.proofs.lemmas.List.{length-map}
use Rattle.segment_model.specs.Iframes.{lone_iframes}
use Rattle.segment_model.specs.Lone.{first_row}
use Rattle.segment_model.specs.Rows.{TimedRow}
use Rattle.segment_model.specs.Timeline.{lead_end}
use Rattle.seq_cells.specs.Cells.{part_grid_of}
use Rattle.vod_plan.specs.declared.iframe_marks.Mark.{Mark}
use Rattle.vod_plan.specs.IframeMarks.{cell_marks, first_sync, mark_at, rows_before, AreAdded}
use Rattle.vod_plan.specs.ListingCells.{part_rows}
use Rattle.vod_plan.specs.ListingReach.{place_of}
use Rattle.vod_plan.specs.Spans.{piece_view}
use Rattle.vod_plan.proofs.CellLemmas.{planned_lead}
use Rattle.vod_plan.proofs.IframeCells.{cells_ended, cells_from, cells_next, lead_order, lead_within, left_more, left_none, left_same, sync_at}
use Rattle.vod_plan.proofs.listed_part.ListedPart.put_cells.Goals as goal

pub put_cell-requires-clause-sync : goal.put_cell-requires-clause-sync
put_cell-requires-clause-sync g c = sync_at (part_rows c.args.self.now).lead _ (place_of c.loop-k.at) c.loop-k.invariant.next

pub returns-in_err-at-clause-few : goal.returns-in_err-at-clause-few
returns-in_err-at-clause-few g c =
    let p = c.args.self.now in
    let grid = part_grid_of p.cells in
    let rows = part_rows p in
    let was = c.loop-k.invariant in
    let end : ℤ = lead_end p.cells.start rows.lead in
    let start : to_z w64 (of_z w64 p.cells.start) ≡ p.cells.start = omega (arith, ints, c.requires.start) in
    let same : to_z w64 (of_z w64 c.end_of_lead-end.result) ≡ end = (let e : to_z w64 (of_z w64 c.end_of_lead-end.result) ≡ c.end_of_lead-end.result = omega (arith, ints, c.end_of_lead-end.ensures.bound) in e) ∙ c.end_of_lead-end.ensures.end ∙ ap₂ (λ (start : ℤ) (lead : List TimedRow). lead_end start lead) start (planned_lead p.leads (map piece_view p.pieces.now)) in
    let order = lead_order grid rows c.loop-k.k c.loop-k-test.true in
    let found : place_of c.first_lead-next.result ≡ first_row grid rows.lead (c.loop-k.k + 1) = c.first_lead-next.ensures.row (omega (arith, was.begins, order)) in
    let own : List Mark = cell_marks (record { part = p.part; end = end; number = p.number + c.loop-k.k; index = 0; start = pos 0 }) (rows_before (place_of c.loop-k.at) c.place.result rows.lead) in
    let step = cells_next p.part end p.number grid rows c.loop-k.k (place_of c.loop-k.at) c.place.result 0 (pos 0) c.loop-k-test.true was.next (c.place.ensures ∙ found) in
    let many = ap (λ (ms : List Mark). length ms) step ∙ length-append own (cells_from p.part end p.number grid rows (c.loop-k.k + 1)) in
    let all = length-map (lone_iframes p.number grid rows) (mark_at p.part end) in
    let here : length (cell_marks (record { part = p.part; end = to_z w64 (of_z w64 c.end_of_lead-end.result); number = p.number + c.loop-k.k; index = 0; start = pos 0 }) (rows_before (place_of c.loop-k.at) c.place.result rows.lead)) ≡ length own =
    ap (λ (end : ℤ). length (cell_marks (record { part = p.part; end = end; number = p.number + c.loop-k.k; index = 0; start = pos 0 }) (rows_before (place_of c.loop-k.at) c.place.result rows.lead))) same in
    omega (arith, was.left.count, many, all, c.put_cell.ensures.few, here)

pub loop-k-preserved : goal.loop-k-preserved
loop-k-preserved g c =
    let p = c.args.self.now in
    let grid = part_grid_of p.cells in
    let rows = part_rows p in
    let was = c.loop-k.invariant in
    let end : ℤ = lead_end p.cells.start rows.lead in
    let start : to_z w64 (of_z w64 p.cells.start) ≡ p.cells.start = omega (arith, ints, c.requires.start) in
    let same : to_z w64 (of_z w64 c.end_of_lead-end.result) ≡ end = (let e : to_z w64 (of_z w64 c.end_of_lead-end.result) ≡ c.end_of_lead-end.result = omega (arith, ints, c.end_of_lead-end.ensures.bound) in e) ∙ c.end_of_lead-end.ensures.end ∙ ap₂ (λ (start : ℤ) (lead : List TimedRow). lead_end start lead) start (planned_lead p.leads (map piece_view p.pieces.now)) in
    let order = lead_order grid rows c.loop-k.k c.loop-k-test.true in
    let found : place_of c.first_lead-next.result ≡ first_row grid rows.lead (c.loop-k.k + 1) = c.first_lead-next.ensures.row (omega (arith, was.begins, order)) in
    let to : c.place.result ≡ first_row grid rows.lead (c.loop-k.k + 1) = c.place.ensures ∙ found in
    let within = lead_within grid rows (c.loop-k.k + 1) (omega (arith, c.loop-k-test.true)) in
    let next : place_of c.in_ok-at.at ≡ c.place.result + first_sync (drop c.place.result rows.lead) = c.in_ok-at.ensures.next (first_row grid rows.lead c.loop-k.k) (omega (arith, to, order)) (omega (arith, to, within)) was.next in
    let step = cells_next p.part end p.number grid rows c.loop-k.k (place_of c.loop-k.at) c.place.result 0 (pos 0) c.loop-k-test.true was.next to in
    record {
      begun = c.first_lead-next.ensures.reached;
      begins = found;
      reached = c.in_ok-at.ensures.reached;
      next = next ∙ ap (λ (t : ℕ). t + first_sync (drop t rows.lead)) to;
      kept = c.in_ok-at.ensures.kept;
      left = left_more c.args.out.now c.loop-k.out c.put_cell.new.out _ _ _ (left_same c.args.out.now c.loop-k.out _ _ _ step was.left)
          (subst (λ (end : ℤ). AreAdded (cell_marks (record { part = p.part; end = end; number = p.number + c.loop-k.k; index = 0; start = pos 0 }) (rows_before (place_of c.loop-k.at) c.place.result rows.lead)) c.loop-k.out c.put_cell.new.out) same
          c.in_ok-at.ensures.marks);
      looks = omega (arith, was.looks, c.first_lead-next.ensures.looks, c.in_ok-at.ensures.looks);
    }

pub returns-clause-marks : goal.returns-clause-marks
returns-clause-marks g c =
    let p = c.args.self.now in
    let rows = part_rows p in
    left_none c.args.out.now c.loop-k.out _
    (left_same c.args.out.now c.loop-k.out _ _ _ (cells_ended p.part (lead_end p.cells.start rows.lead) p.number (part_grid_of p.cells) rows c.loop-k.k (omega (arith, c.loop-k-test.false))) c.loop-k.invariant.left)
    c.loop-k.invariant.kept
