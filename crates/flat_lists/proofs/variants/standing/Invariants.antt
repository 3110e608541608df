use Rattle.std.proofs.Common.{◌≡◌, take, All}
use Rattle.std.specs.Prelude.{flat_map}
use Rattle.flat_lists.specs.Shown.{HasBandwidths, out_of_group}
use Rattle.flat_lists.proofs.variants.standing.Given as goal

abbrev pub invariant-loop-one : goal.invariant-loop-one
invariant-loop-one l = record {
  sound : All HasBandwidths l.shown;
  variants : l.variants.items ≡ flat_map (out_of_group l.group) (take l.one-index l.shown);
}
