use Rattle.std.proofs.Common.{◌≡◌, drop}
use Rattle.segment_model.specs.Grid.{locate_from, locate}
use Rattle.segmenter.proofs.numbers.locate.Given as goal

abbrev pub invariant-loop-part : goal.invariant-loop-part
invariant-loop-part l = locate_from l.part (drop l.part l.counts) l.cell ≡ locate l.fn.counts l.fn.number
