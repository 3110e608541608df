use Rattle.std.proofs.Common.{◌≡◌, drop, map}
use Rattle.flat_segments.specs.RowFaults.{has_hevc, mixed_with}
use Rattle.flat_segments.specs.Segments.{facts_of}
use Rattle.flat_segments.proofs.codecs.check_others.Given as goal

abbrev pub invariant-loop-other : goal.invariant-loop-other
invariant-loop-other l = record {
  left : mixed_with (facts_of l.first) (map facts_of (drop l.other-index l.others)) ≡ mixed_with (facts_of l.first) (map facts_of l.others);
  hevc : l.hevc ≡ has_hevc (facts_of l.first);
}
