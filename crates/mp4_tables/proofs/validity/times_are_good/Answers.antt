use Rattle.std.proofs.Common.{sym, arith}
use Rattle.mp4_tables.proofs.Passes.{times_begin, times_more, times_stop}
use Rattle.mp4_tables.proofs.validity.times_are_good.Goals as goal

pub loop-i-init : goal.loop-i-init
loop-i-init c = record { left = times_begin c.args.samples _; fits = omega arith }

pub returns-then-count-eq0 : goal.returns-then-count-eq0
returns-then-count-eq0 c = sym (times_stop c.args.samples c.loop-i.total c.loop-i.i c.at-count.result _ _ c.loop-i.invariant.left c.at-count.ensures c.if-count-eq0.true)

pub loop-i-preserved : goal.loop-i-preserved
loop-i-preserved c = rw c.from-total.ensures (record {
  left = times_more c.args.samples c.loop-i.total c.loop-i.i c.at-count.result _ _ c.loop-i.invariant.left c.at-count.ensures (omega arith);
  fits = omega arith;
})
