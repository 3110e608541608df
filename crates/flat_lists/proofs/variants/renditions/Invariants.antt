use Rattle.std.proofs.Common.{◌≡◌, length, take, All}
use Rattle.std.specs.Prelude.{flat_map}
use Rattle.flat_lists.specs.Shown.{IsShown, in_group}
use Rattle.flat_lists.proofs.variants.renditions.Given as goal

abbrev pub invariant-loop-one : goal.invariant-loop-one
invariant-loop-one l = record {
  sound : All (IsShown (length l.mapping.sequences)) l.shown;
  renditions : l.renditions.items ≡ flat_map (in_group l.mapping l.group) (take l.one-index l.shown);
}
