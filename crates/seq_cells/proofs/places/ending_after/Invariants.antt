use Rattle.std.proofs.Common.{◌≡◌, drop}
use Rattle.vod_types.specs.Lists.{from_first}
use Rattle.seq_cells.specs.Cells.{piece_ends_after}
use Rattle.seq_cells.proofs.places.ending_after.Given as goal

abbrev pub invariant-loop-place : goal.invariant-loop-place
invariant-loop-place l = record {
  left : from_first (piece_ends_after l.time) (drop l.place l.pieces) ≡ from_first (piece_ends_after l.time) l.pieces;
}
