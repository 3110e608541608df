use Rattle.std.proofs.Common.{◌<◌, ◌+◌, length, get_or, sym, subst, arith}
use Rattle.flat_lists.specs.ListedCells.{slices_view}
use Rattle.flat_segments.specs.Cells.{part_grid_of}
use Rattle.flat_samples.specs.Rows.{ArePlacedRows}
use Rattle.flat_lists.proofs.IframeMarks.{left_loop}
use Rattle.flat_lists.proofs.ListedParts.{no_part, sum_left, placed_from}
use Rattle.flat_lists.proofs.iframe_marks.marks_of_parts.Goals as goal

pub loop-place-preserved : goal.loop-place-preserved
loop-place-preserved c =
    let lt : c.loop-place.place < length c.args.parts.now = omega arith in
    let numbers = sum_left c.args.counts.now c.loop-place.place c.loop-place.number _ (omega (arith, c.requires.counts)) c.loop-place.invariant.numbers in
    let part = get_or c.args.parts.now c.loop-place.place no_part in
    record {
      numbers = numbers.0;
      small = c.in_ok-put_part.ensures.small c.loop-place.invariant.small;
      placed = subst ArePlacedRows (sym c.split.ensures.from) (placed_from (part.first + part.count) (slices_view c.loop-place.rest) c.loop-place.invariant.placed);
      rest = λ pieces are.
          left_loop c.args.cut.grid.now c.args.cut.align pieces c.args.parts.now c.args.counts.now c.loop-place.place c.loop-place.number (slices_view c.loop-place.rest)
          (slices_view c.split.result.0) (slices_view c.split.result.1) c.loop-place.out.items c.put_part.new.out.items _ (part_grid_of c.cells.result) lt c.requires.counts
          (c.loop-place.invariant.rest pieces are) are.order c.cells.ensures c.split.ensures.before c.split.ensures.from c.in_ok-put_part.ensures.marks;
    }
