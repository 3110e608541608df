-- The pieces before this one have the codec of the first.
use Rattle.std.proofs.Common.{◌≡◌, true, drop, map}
use Rattle.std.specs.Prelude.{is_some}
use Rattle.vod_plan.specs.RowFaults.{facts_of, has_hevc, mixed_with}
use Rattle.vod_plan.proofs.codecs.check_others.Given as goal

abbrev pub invariant-loop-other : goal.invariant-loop-other
invariant-loop-other l = record {
  left : mixed_with (facts_of l.first) (map facts_of (drop l.other-index l.others)) ≡ mixed_with (facts_of l.first) (map facts_of l.others);
  hevc : l.hevc ≡ has_hevc (facts_of l.first);
  there : l.hevc ≡ true → is_some l.first.video ≡ true;
}
