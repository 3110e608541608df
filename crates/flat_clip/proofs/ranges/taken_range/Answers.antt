use Rattle.flat_clip.proofs.PartLemmas.{taken-none, taken-some}
use Rattle.flat_clip.proofs.ranges.taken_range.Goals as goal

pub returns-then-first-length-clause-part : goal.returns-then-first-length-clause-part
returns-then-first-length-clause-part c = taken-some c.args.range c.args.length _ _ c.range_first-first.ensures c.range_last.ensures.last c.if-first-length.true

pub returns-else-first-length-clause-part : goal.returns-else-first-length-clause-part
returns-else-first-length-clause-part c = taken-none c.args.range c.args.length _ c.range_first-first.ensures c.if-first-length.false
