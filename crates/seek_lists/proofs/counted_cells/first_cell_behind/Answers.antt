-- One more, or all.
use Rattle.std.proofs.Common.{◌<◌, ◌+◌, length, drop, ap, arith}
use Rattle.std.specs.Prelude.{sum_by}
use Rattle.std.proofs.lemmas.List.Sums.{sum_by-cons}
use Rattle.seq_timeline.proofs.PieceLemmas.{drop_item}
use Rattle.seek_lists.specs.Looked.{IsLookedPart}
use Rattle.seek_lists.specs.declared.looked_sequences.LookedPart.{LookedPart}
use Rattle.flat_lists.specs.Written.{declared_cells}
use Rattle.flat_lists.proofs.CountLemmas.{at_item}
use Rattle.seek_lists.proofs.counted_cells.first_cell_behind.Goals as goal

pub declared_cells-number-requires : goal.declared_cells-number-requires
declared_cells-number-requires c =
    let lt : c.loop-looked.looked-index < length c.args.parts.now = omega arith in
    let own = at_item IsLookedPart c.args.parts.now c.loop-looked.looked-index c.looked-item.result lt c.looked-item.is c.loop-looked.invariant.each in own.part

pub loop-looked-preserved : goal.loop-looked-preserved
loop-looked-preserved c =
    let lt : c.loop-looked.looked-index < length c.args.parts.now = omega arith in
    let f = λ (p : LookedPart). declared_cells c.args.grid.now p.part in
    let next = ap (sum_by f) (drop_item c.args.parts.now c.loop-looked.looked-index c.looked-item.result lt c.looked-item.is) in
    let more = sum_by-cons f c.looked-item.result (drop (c.loop-looked.looked-index + 1) c.args.parts.now) in
    record {
      left = omega (arith, c.declared_cells-number.ensures.cells, c.loop-looked.invariant.left, next, more);
      each = c.loop-looked.invariant.each;
      few = c.loop-looked.invariant.few;
      small = omega (arith, c.declared_cells-number.ensures.bound, c.loop-looked.invariant.small);
    }
