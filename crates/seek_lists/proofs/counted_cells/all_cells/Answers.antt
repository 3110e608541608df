-- One more, or all.
use Rattle.std.proofs.Common.{◌<◌, length, arith}
use Rattle.seek_lists.specs.Looked.{sequence_cells}
use Rattle.seek_lists.specs.Looked.{IsLookedSequence}
use Rattle.flat_lists.proofs.CountLemmas.{at_item, sum_on}
use Rattle.seek_lists.proofs.counted_cells.all_cells.Goals as goal

pub sequence_cells-all-requires : goal.sequence_cells-all-requires
sequence_cells-all-requires g c =
    let lt : c.loop-sequence.sequence-index < length c.args.sequences.now = omega arith in
    at_item IsLookedSequence c.args.sequences.now c.loop-sequence.sequence-index c.sequence-item.result lt c.sequence-item.is c.loop-sequence.invariant.each

pub loop-sequence-preserved : goal.loop-sequence-preserved
loop-sequence-preserved g c =
    let lt : c.loop-sequence.sequence-index < length c.args.sequences.now = omega arith in
    record {
      left = sum_on (sequence_cells c.args.grid.now) c.args.sequences.now c.loop-sequence.sequence-index c.sequence-item.result c.loop-sequence.all c.sequence_cells-all.result lt c.sequence-item.is c.sequence_cells-all.ensures.cells c.loop-sequence.invariant.left;
      each = c.loop-sequence.invariant.each;
      few = c.loop-sequence.invariant.few;
      small = omega (arith, c.sequence_cells-all.ensures.bound, c.loop-sequence.invariant.small);
    }
