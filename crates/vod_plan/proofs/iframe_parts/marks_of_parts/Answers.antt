-- From part to part.
use Rattle.std.proofs.Common.{◌≡◌, ◌+◌, ◌-◌, ◌<◌, ◌≤◌, ℕ, List, drop, get_or, length, map, refl, ap, subst, ◌∙◌, arith, length-append}
use Rattle.std.specs.Prelude.{sum}
use Rattle.std.proofs.lemmas.List.{length-map}
use Rattle.segment_model.specs.Grid.{PartGrid}
use Rattle.segment_model.specs.Iframes.{iframes, lone_iframes}
use Rattle.segment_model.specs.Timeline.{lead_end}
use Rattle.origin_model.specs.Sources.{source_piece}
use Rattle.seq_cells.specs.Cells.{part_grid_of}
use Rattle.vod_plan.specs.declared.iframe_marks.Mark.{Mark}
use Rattle.vod_plan.specs.declared.listed_part.ListedPart.{ListedPart}
use Rattle.vod_plan.specs.IframeMarks.{mark_at, marks_from}
use Rattle.vod_plan.specs.ListingCells.{part_rows}
use Rattle.vod_plan.specs.ListingParts.{part_over}
use Rattle.vod_plan.proofs.IframeParts.{left_marks, looks_all, looks_next, marks_last, marks_next, own_marks, rest_all, rest_begin, rest_more, AreMarkLooks, AreRest}
use Rattle.vod_plan.proofs.ListingRests.{sum_left}
use Rattle.vod_plan.proofs.iframe_parts.marks_of_parts.Goals as goal

pub loop-place-init : goal.loop-place-init
loop-place-init g c = record {
  first = omega arith;
  numbers = refl;
  kept = omega (arith, c.new-out.ensures.count, ap (λ (ms : List Mark). length ms) c.new-out.ensures.kept);
  rest = λ cs h counts. rest_begin c.new-out.result _ c.new-out.ensures.count c.new-out.ensures.kept;
  looks = λ cs n h follow. record { at = 0; follow = follow; looks = omega arith };
}

pub returns-in-Err-clause-looks : goal.returns-in-Err-clause-looks
returns-in-Err-clause-looks g c = λ cs n h counts follow.
    let place = c.loop-place.place in
    let parts = c.args.parts.now in
    let lt : place < length parts = omega (arith, c.loop-place-test.true) in
    let numbers = sum_left c.args.counts.now place c.loop-place.number _ (omega (arith, lt, c.requires.counts)) c.loop-place.invariant.numbers in
    let count = get_or c.args.counts.now place 0 in
    let cells : c.cells.result.cells ≡ count = ap (λ (g : PartGrid). g.cells) c.cells.ensures in
    let p : ListedPart = record { part = place + 1; number = c.loop-place.number; leads = c.lead_of-leads.result; cells = c.cells.result; pieces = c.pieces_in.result } in
    let was = c.loop-place.invariant.rest cs h counts in
    let step = marks_next c.args.cut.grid.now c.args.cut.align c.args.asked c.args.pieces.now cs h parts c.args.counts.now place c.loop-place.number p lt counts c.lead_of-leads.ensures c.pieces_in.ensures.pieces refl refl c.cells.ensures in
    let later : List Mark = left_marks c.args.cut.grid.now c.args.cut.align c.args.asked c.args.pieces.now cs h (place + 1) (c.loop-place.number + count) (drop (place + 1) parts) in
    let own : List Mark = own_marks c.args.cut.grid.now c.args.cut.align c.args.asked c.args.pieces.now cs h p in
    let many = ap (λ (ms : List Mark). length ms) step ∙ length-append own later in
    let all = length-map (lone_iframes p.number (part_grid_of p.cells) (part_rows p)) (mark_at p.part (lead_end p.cells.start (part_rows p).lead)) in
    let top : ℕ = length (marks_from 1 (iframes c.args.cut.grid.now c.args.cut.align (map (part_over (map source_piece cs)) parts))) in
    looks_all c.args.asked c.args.pieces.now cs h _ n (c.loop-place.number - 1 + count) (sum c.args.counts.now) top top c.args.steps.now c.put_iframes.new.steps
    (looks_next c.args.asked c.args.pieces.now cs h parts place n (c.loop-place.number - 1) count c.loop-place.out.count c.put_iframes.new.out.count top c.lead_of-leads.result c.pieces_in.result.now c.args.steps.now c.loop-place.steps c.put_iframes.new.steps lt
    (c.loop-place.invariant.looks cs n h follow) c.lead_of-leads.ensures c.pieces_in.ensures.pieces (omega (arith, c.in-Err.ensures.looks, cells)) c.in-Err.ensures.none
    (omega (arith, was.count)) (omega (arith, was.count, many, all, c.in-Err.ensures.few)))
    (omega (arith, numbers.1, c.loop-place.invariant.first)) (omega arith)

pub loop-place-preserved : goal.loop-place-preserved
loop-place-preserved g c =
    let place = c.loop-place.place in
    let parts = c.args.parts.now in
    let lt : place < length parts = omega (arith, c.loop-place-test.true) in
    let numbers = sum_left c.args.counts.now place c.loop-place.number _ (omega (arith, lt, c.requires.counts)) c.loop-place.invariant.numbers in
    let count = get_or c.args.counts.now place 0 in
    let cells : c.cells.result.cells ≡ count = ap (λ (g : PartGrid). g.cells) c.cells.ensures in
    let p : ListedPart = record { part = place + 1; number = c.loop-place.number; leads = c.lead_of-leads.result; cells = c.cells.result; pieces = c.pieces_in.result } in
    let more = c.in-Ok.ensures.marks.count in
    record {
      first = omega (arith, c.loop-place.invariant.first);
      numbers = numbers.0;
      kept = c.in-Ok.ensures.kept;
      rest = λ cs h counts.
          rest_more c.loop-place.out c.put_iframes.new.out _ _ _
          (subst (λ (left : List Mark). AreRest c.loop-place.out left (marks_from 1 (iframes c.args.cut.grid.now c.args.cut.align (map (part_over (map source_piece cs)) parts))))
          (marks_next c.args.cut.grid.now c.args.cut.align c.args.asked c.args.pieces.now cs h parts c.args.counts.now place c.loop-place.number p lt counts c.lead_of-leads.ensures c.pieces_in.ensures.pieces refl refl c.cells.ensures)
          (c.loop-place.invariant.rest cs h counts))
          c.in-Ok.ensures.marks;
      looks = λ cs n h follow. (
          let more_cells : c.loop-place.number - 1 + count ≡ c.loop-place.number + count - 1 = omega (arith, c.loop-place.invariant.first) in
          subst (λ (m : ℕ). AreMarkLooks (drop (place + 1) parts) n m c.put_iframes.new.out.count c.args.steps.now c.put_iframes.new.steps) more_cells
          (looks_next c.args.asked c.args.pieces.now cs h parts place n (c.loop-place.number - 1) count c.loop-place.out.count c.put_iframes.new.out.count c.put_iframes.new.out.count c.lead_of-leads.result c.pieces_in.result.now c.args.steps.now
          c.loop-place.steps c.put_iframes.new.steps lt (c.loop-place.invariant.looks cs n h follow) c.lead_of-leads.ensures c.pieces_in.ensures.pieces (omega (arith, c.in-Ok.ensures.looks, cells)) c.in-Ok.ensures.none
          (omega (arith, more)) (omega arith)));
    }

pub returns-clause-marks : goal.returns-clause-marks
returns-clause-marks g c = λ cs h counts.
    rest_all c.loop-place.out _ _ (marks_last c.args.cut.grid.now c.args.cut.align c.args.asked c.args.pieces.now cs h c.args.parts.now c.loop-place.place c.loop-place.number (let past : length c.args.parts.now ≤ c.loop-place.place = omega (arith, c.loop-place-test.false) in past))
    (c.loop-place.invariant.rest cs h counts) c.loop-place.invariant.kept

pub returns-clause-looks : goal.returns-clause-looks
returns-clause-looks g c = λ cs n h counts follow.
    looks_all c.args.asked c.args.pieces.now cs h _ n (c.loop-place.number - 1) (sum c.args.counts.now) c.loop-place.out.count (length (marks_from 1 (iframes c.args.cut.grid.now c.args.cut.align (map (part_over (map source_piece cs)) c.args.parts.now))))
    c.args.steps.now c.loop-place.steps (c.loop-place.invariant.looks cs n h follow) (omega (arith, c.loop-place.invariant.numbers)) (let was = c.loop-place.invariant.rest cs h counts in omega (arith, was.count))
