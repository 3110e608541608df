use Rattle.std.proofs.Common.{◌≡◌, take}
use Rattle.mp4_model.specs.Samples.{chunks_from}
use Rattle.flat_samples.proofs.tables.chunks_of_samples.Given as goal

abbrev pub invariant-loop-chunk : goal.invariant-loop-chunk
invariant-loop-chunk l = l.list.items ≡ chunks_from 0 (take l.chunk l.counts)
