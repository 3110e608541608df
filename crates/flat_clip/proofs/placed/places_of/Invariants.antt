use Rattle.std.proofs.Common.{◌≡◌, map, take}
use Rattle.flat_clip.specs.Tracks.{placed_view, places_in}
use Rattle.flat_clip.proofs.placed.places_of.Given as goal

abbrev pub invariant-loop-sample : goal.invariant-loop-sample
invariant-loop-sample l = l.places.items ≡ places_in l.kind (map placed_view (take l.sample-index l.samples))
