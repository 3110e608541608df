use Rattle.std.proofs.Common.{sym}
use Rattle.mp4_tables.proofs.Passes.{syncs_begin, syncs_more, syncs_stop_low, syncs_stop_high}
use Rattle.mp4_tables.proofs.validity.syncs_are_good.Goals as goal
use Rattle.mp4_tables.proofs.validity.syncs_are_good.Goals.{then-number-before-via-then-number-before, then-number-before-via-else-number-before+then-not-is_up_to}

pub loop-i-init : goal.loop-i-init
loop-i-init c = syncs_begin c.args.samples _

pub returns-then-number-before : goal.returns-then-number-before
returns-then-number-before c =
    elim c.then-number-before.branch [
      | then-number-before-via-then-number-before w ↦ sym (syncs_stop_low c.args.samples c.loop-i.before c.loop-i.i c.at-number.result _ _ c.loop-i.invariant c.at-number.ensures w.if-number-before.true)
      | then-number-before-via-else-number-before+then-not-is_up_to w ↦ sym (syncs_stop_high c.args.samples c.loop-i.before c.loop-i.i c.at-number.result _ _ c.loop-i.invariant c.at-number.ensures (cc))
    ]

pub loop-i-preserved : goal.loop-i-preserved
loop-i-preserved c = syncs_more c.args.samples c.loop-i.before c.loop-i.i c.at-number.result _ _ c.loop-i.invariant c.at-number.ensures c.if-number-before.false (cc)
