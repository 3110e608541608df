use Rattle.std.proofs.Common.{◌≡◌, vec_len}
use Rattle.vod_source.specs.Memory.{skipped, cut, pieces_in}
use Rattle.vod_source.proofs.memory.pieces.skip.Given as goal

abbrev pub invariant-loop-pieces : goal.invariant-loop-pieces
invariant-loop-pieces l = skipped (cut l.at (pieces_in l.pieces.items)) ≡ skipped (cut l.initial.at (pieces_in l.initial.pieces.items))

abbrev pub decreases-loop-pieces : goal.decreases-loop-pieces
decreases-loop-pieces l = vec_len l.pieces
