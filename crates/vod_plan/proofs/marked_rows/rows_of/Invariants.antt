use Rattle.std.proofs.Common.{◌≡◌, ◌++◌, drop}
use Rattle.vod_plan.specs.IframeMarks.{rows_of_marks}
use Rattle.vod_plan.proofs.marked_rows.rows_of.Given as goal

abbrev pub invariant-loop-place : goal.invariant-loop-place
invariant-loop-place l = l.out.items ++ rows_of_marks l.part (drop l.place l.marks) ≡ rows_of_marks 0 l.marks
