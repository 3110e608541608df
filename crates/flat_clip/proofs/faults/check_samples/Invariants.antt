use Rattle.std.proofs.Common.{◌≡◌, drop, map}
use Rattle.flat_clip.specs.Parts.{first_fault}
use Rattle.flat_clip.specs.Tracks.{placed_view}
use Rattle.flat_clip.proofs.faults.check_samples.Given as goal

abbrev pub invariant-loop-sample : goal.invariant-loop-sample
invariant-loop-sample l =
    first_fault l.name l.part l.file_size (map placed_view (drop l.sample-index l.samples)) ≡ first_fault l.name l.part l.file_size (map placed_view l.samples)
