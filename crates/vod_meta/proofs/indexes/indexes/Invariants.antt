-- The checkpoints of the tracks so far.
use Rattle.std.proofs.Common.{◌≡◌, take}
use Rattle.vod_meta.specs.Held.{tracks_in}
use Rattle.vod_meta.specs.Kept.{indexes_of}
use Rattle.vod_meta.proofs.indexes.indexes.Given as goal

abbrev pub invariant-loop-before : goal.invariant-loop-before
invariant-loop-before l = l.list.items ≡ take l.before (indexes_of l.kind (tracks_in l.moov))
