-- The rows that were taken and those that are left are all rows.
use Rattle.std.proofs.Common.{◌≡◌, ◌++◌, length}
use Rattle.mp4_clip.specs.Kept.{kept_rows}
use Rattle.mp4_clip.proofs.written.written_rows.Given as goal

abbrev pub invariant-loop-row : goal.invariant-loop-row
invariant-loop-row l = l.samples.items ++ l.left ≡ kept_rows l.fn.kind l.rows

abbrev pub decreases-loop-row : goal.decreases-loop-row
decreases-loop-row l = length l.left
