-- One more, or all.
use Rattle.std.proofs.Common.{◌<◌, List, get_or, length, ap, ◌∙◌, arith}
use Rattle.flat_lists.specs.CountedCells.{part_cells}
use Rattle.seek_lists.specs.Looked.{IsLookedPart, looked_seen}
use Rattle.flat_lists.proofs.CountLemmas.{at_item, sum_on}
use Rattle.seek_lists.proofs.counted_cells.sequence_cells.Goals as goal

pub part_cells-all-requires : goal.part_cells-all-requires
part_cells-all-requires g c =
    let lt : c.loop-part.part-index < length c.args.sequence.now.parts.items = omega arith in
    at_item IsLookedPart c.args.sequence.now.parts.items c.loop-part.part-index c.part-item.result lt (c.part-item.is ∙ ap (λ (xs : List _). get_or xs c.loop-part.part-index c.part-item.result) c.deref-part-items.ensures.value) c.loop-part.invariant.each

pub loop-part-preserved : goal.loop-part-preserved
loop-part-preserved g c =
    let lt : c.loop-part.part-index < length c.args.sequence.now.parts.items = omega arith in
    record {
      left = sum_on (λ p. part_cells c.args.grid.now (looked_seen p)) c.args.sequence.now.parts.items c.loop-part.part-index c.part-item.result c.loop-part.all c.part_cells-all.result lt (c.part-item.is ∙ ap (λ (xs : List _). get_or xs c.loop-part.part-index c.part-item.result) c.deref-part-items.ensures.value) c.part_cells-all.ensures.cells c.loop-part.invariant.left;
      each = c.loop-part.invariant.each;
      few = c.loop-part.invariant.few;
      small = omega (arith, c.part_cells-all.ensures.bound, c.loop-part.invariant.small);
    }
