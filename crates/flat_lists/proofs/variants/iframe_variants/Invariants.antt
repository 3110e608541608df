use Rattle.std.proofs.Common.{◌≡◌, map, take}
use Rattle.flat_lists.specs.Shown.{iframe_variant_by}
use Rattle.flat_lists.proofs.variants.iframe_variants.Given as goal

abbrev pub invariant-loop-one : goal.invariant-loop-one
invariant-loop-one l = l.variants.items ≡ map iframe_variant_by (take l.one-index l.shown)
