use Rattle.std.proofs.Common.{◌≡◌, drop}
use Rattle.vod_types.specs.Lists.{from_first}
use Rattle.flat_segments.specs.Planned.{piece_ends_after}
use Rattle.flat_segments.proofs.segment.ending_after.Given as goal

abbrev pub invariant-loop-place : goal.invariant-loop-place
invariant-loop-place l = record {
  left : from_first (piece_ends_after l.time) (drop l.place l.pieces) ≡ from_first (piece_ends_after l.time) l.pieces;
}
