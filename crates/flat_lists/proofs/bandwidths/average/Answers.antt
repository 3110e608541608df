use Rattle.flat_lists.proofs.BandwidthLemmas.{average-zero, average-some}
use Rattle.flat_lists.proofs.bandwidths.average.Goals as goal

pub returns-then-time-eq0-clause-value : goal.returns-then-time-eq0-clause-value
returns-then-time-eq0-clause-value c = average-zero c.args.bytes c.args.timescale c.args.time c.if-time-eq0.true

pub returns-clause-value : goal.returns-clause-value
returns-clause-value c =
    average-some c.args.bytes c.args.timescale c.args.time c.bits_by-bits.result c.max.result c.if-time-eq0.false c.bits_by-bits.ensures.value c.max.ensures
