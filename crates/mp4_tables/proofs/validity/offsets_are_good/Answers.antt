use Rattle.std.proofs.Common.{sym, arith}
use Rattle.mp4_tables.proofs.Passes.{offsets_begin, offsets_more, offsets_stop_empty, offsets_stop_far}
use Rattle.mp4_tables.proofs.validity.offsets_are_good.Goals as goal
use Rattle.mp4_tables.proofs.validity.offsets_are_good.Goals.{then-run-eq0-via-then-run-eq0, then-run-eq0-via-else-run-eq0+then-not-is_within}

pub loop-i-init : goal.loop-i-init
loop-i-init c = record { left = offsets_begin c.args.samples c.args.timescale _; fits = omega arith }

pub returns-then-run-eq0 : goal.returns-then-run-eq0
returns-then-run-eq0 c =
    elim c.then-run-eq0.branch [
      | then-run-eq0-via-then-run-eq0 w ↦ sym (offsets_stop_empty c.args.samples c.args.timescale c.loop-i.total c.loop-i.i c.at-run.result _ _ c.loop-i.invariant.left c.at-run.ensures w.if-run-eq0.true)
      | then-run-eq0-via-else-run-eq0+then-not-is_within w ↦ sym (offsets_stop_far c.args.samples c.args.timescale c.loop-i.total c.loop-i.i c.at-run.result _ _ c.loop-i.invariant.left c.at-run.ensures (cc))
    ]

pub loop-i-preserved : goal.loop-i-preserved
loop-i-preserved c = rw c.from-total.ensures (record {
  left = offsets_more c.args.samples c.args.timescale c.loop-i.total c.loop-i.i c.at-run.result _ _ c.loop-i.invariant.left c.at-run.ensures (omega arith) (cc);
  fits = omega arith;
})
