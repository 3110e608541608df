-- One more, or all.
use Rattle.std.proofs.Common.{◌≤◌, ◌<◌, length, arith}
use Rattle.seq_timeline.proofs.PieceLemmas.{drop_item}
use Rattle.seek_lists.specs.Looked.{sequence_seen}
use Rattle.flat_lists.specs.Written.{sequence_reps}
use Rattle.seek_lists.specs.declared.looked_sequences.LookedSequence.{LookedSequence}
use Rattle.flat_lists.proofs.PeriodLemmas.{joined_all, joined_on}
use Rattle.seek_lists.proofs.periods.reps_at.Goals as goal

pub loop-sequence-preserved : goal.loop-sequence-preserved
loop-sequence-preserved g c =
    let lt : c.loop-sequence.sequence-index < length c.args.looked.now = omega arith in
    record {
      left = joined_on (λ (s : LookedSequence). sequence_reps c.args.writing.mapping.now c.args.writing.grid.now c.args.writing.align c.args.place (sequence_seen s)) c.args.looked.now c.loop-sequence.sequence-index c.sequence-item.result
          c.loop-sequence.reps.items c.add_sequence.new.reps.items (drop_item c.args.looked.now c.loop-sequence.sequence-index c.sequence-item.result lt c.sequence-item.is) c.in_ok-add_sequence.ensures.reps c.loop-sequence.invariant.left;
      each = c.in_ok-add_sequence.ensures.each c.loop-sequence.invariant.each;
    }

pub returns-clause-reps : goal.returns-clause-reps
returns-clause-reps g c =
    let past : length c.args.looked.now ≤ c.loop-sequence.sequence-index = omega arith in
    joined_all (sequence_reps c.args.writing.mapping.now c.args.writing.grid.now c.args.writing.align c.args.place) sequence_seen c.args.looked.now c.loop-sequence.sequence-index c.loop-sequence.reps.items past c.loop-sequence.invariant.left
