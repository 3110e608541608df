use Rattle.std.proofs.Common.{◌≡◌, ◌++◌, ◌+◌, ◌-◌, ◌≤◌, ◌^◌, pos, suc, map, take, drop, unsigned_abs, refl, ap, ◌∙◌, FitsSigned, w64, rules, arith}
use Rattle.std.proofs.lemmas.Int.{to_z-of_z}
use Rattle.segment_model.specs.Lone.{first_row}
use Rattle.segment_model.specs.Timeline.{lead_end}
use Rattle.flat_samples.specs.Rows.{timed_view}
use Rattle.flat_segments.specs.Cells.{part_grid_of}
use Rattle.flat_lists.specs.ListedCells.{slices_view}
use Rattle.flat_lists.specs.Marks.{cell_marks}
use Rattle.flat_lists.proofs.IframeMarks.{cells_next, own_cell, slice_placed}
use Rattle.flat_lists.proofs.ListedCells.{end_small, lead_order}
use Rattle.flat_lists.proofs.iframe_marks.put_part.Goals as goal

pub put_cell-requires-clause-end : goal.put_cell-requires-clause-end
put_cell-requires-clause-end c =
    let fits : FitsSigned w64 c.end_of_lead-end.result = search rules in
    let start_fits : FitsSigned w64 c.args.part.now.cells.start = search rules in
    let end = simp to_z-of_z at c.end_of_lead-end.ensures in
    let rows = slices_view c.args.part.now.rows in
    let small : unsigned_abs (lead_end c.args.part.now.cells.start rows.lead) ≤ 2 ^ 43 = end_small c.args.part.now.cells.start rows.lead (let start = c.requires.start in omega (arith, start)) c.requires.placed.lead in
    simp to_z-of_z (rw end small)

pub put_cell-requires-clause-placed : goal.put_cell-requires-clause-placed
put_cell-requires-clause-placed c = slice_placed (c.max.result - c.loop-k.from) c.loop-k.from c.args.part.now.rows.lead.now c.requires.placed.lead

pub loop-k-preserved : goal.loop-k-preserved
loop-k-preserved c =
    let fits : FitsSigned w64 c.end_of_lead-end.result = search rules in
    let start_fits : FitsSigned w64 c.args.part.now.cells.start = search rules in
    let end = simp to_z-of_z at c.end_of_lead-end.ensures in
    let p = c.args.part.now in
    let g = part_grid_of p.cells in
    let rows = slices_view p.rows in
    let was = c.loop-k.invariant in
    let own = map timed_view (take (c.max.result - c.loop-k.from) (drop c.loop-k.from p.rows.lead.now)) in
    let now : c.put_cell.new.out.items ≡ c.loop-k.out.items ++ cell_marks (record { part = p.part; end = lead_end p.cells.start rows.lead; number = p.number + c.loop-k.k; index = 0; start = pos 0 }) own =
    rw end at (simp to_z-of_z at c.in_ok-put_cell.ensures.marks) in
    record {
      within = c.first_lead-next.ensures.within;
      small = λ before. c.in_ok-put_cell.ensures.small (was.small before);
      marks = λ s lead.
          let before = was.marks s lead in
          let one : c.loop-k.k + 1 ≡ suc c.loop-k.k = omega arith in
          let order = lead_order g rows c.loop-k.k c.loop-k-test.true in
          let found : c.first_lead-next.result ≡ first_row g rows.lead (c.loop-k.k + 1) = c.first_lead-next.ensures.row (omega (arith, before.0, order)) in (
            found,
            cells_next p.part (lead_end p.cells.start rows.lead) p.number g rows c.loop-k.k c.loop-k-test.true own
                (own_cell g rows p.rows.lead.now c.loop-k.k c.loop-k.from c.first_lead-next.result c.max.result refl before.0 (found ∙ ap (first_row g rows.lead) one) (omega (arith, before.0, order, found)) c.max.ensures)
                c.loop-k.out.items c.put_cell.new.out.items _ before.1 now,
          );
    }
