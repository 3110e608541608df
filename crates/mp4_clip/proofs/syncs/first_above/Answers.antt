use Rattle.std.proofs.Common.{◌+◌, ◌-◌, ◌/◌, arith}
use Rattle.mp4_tables.specs.Views.{stss_entries}
use Rattle.time_runs.proofs.RisingLemmas.{halved, few_halvings, not_above_before, above_from}
use Rattle.mp4_clip.proofs.syncs.first_above.Goals as goal

pub loop-low-preserved-then-entry-i : goal.loop-low-preserved-then-entry-i
loop-low-preserved-then-entry-i g c =
    let numbers = stss_entries c.args.table.now in
    let loop = c.loop-low in
    let middle = loop.low + (loop.high - loop.low) / 2 in
    let spent = loop.steps - c.args.steps.now in
    let few = few_halvings (loop.high - loop.low) spent (omega arith) loop.invariant.halves in
    record {
      order = omega arith;
      within = loop.invariant.within;
      passed = λ k h. not_above_before numbers c.args.i c.entry.result middle k c.requires c.entry.ensures.value c.if-entry-i.true h;
      ahead = loop.invariant.ahead;
      later = omega arith;
      looks = omega (arith, few);
      halves = halved (loop.high - loop.low) (loop.high - (middle + 1)) spent (c.entry.new.steps - c.args.steps.now) loop.invariant.halves (omega arith) (omega arith);
    }

pub loop-low-preserved : goal.loop-low-preserved
loop-low-preserved g c =
    let numbers = stss_entries c.args.table.now in
    let loop = c.loop-low in
    let middle = loop.low + (loop.high - loop.low) / 2 in
    let spent = loop.steps - c.args.steps.now in
    let few = few_halvings (loop.high - loop.low) spent (omega arith) loop.invariant.halves in
    record {
      order = omega arith;
      within = omega arith;
      passed = loop.invariant.passed;
      ahead = λ k h lt. above_from numbers c.args.i c.entry.result middle k c.requires c.entry.ensures.value c.if-entry-i.false h lt;
      later = omega arith;
      looks = omega (arith, few);
      halves = halved (loop.high - loop.low) (middle - loop.low) spent (c.entry.new.steps - c.args.steps.now) loop.invariant.halves (omega arith) (omega arith);
    }
