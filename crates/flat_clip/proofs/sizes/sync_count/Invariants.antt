use Rattle.std.proofs.Common.{◌≡◌, ◌+◌, ◌≤◌, drop, length}
use Rattle.media_model.specs.Clip.{sync_numbers}
use Rattle.flat_clip.specs.Tracks.{sync_numbers_from}
use Rattle.flat_clip.proofs.sizes.sync_count.Given as goal

abbrev pub invariant-loop-row : goal.invariant-loop-row
invariant-loop-row l = record {
  few : l.count ≤ l.row-index;
  left : l.count + length (sync_numbers_from (l.row-index + 1) (drop l.row-index l.rows)) ≡ length (sync_numbers l.rows);
}
