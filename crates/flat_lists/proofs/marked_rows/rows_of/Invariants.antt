use Rattle.std.proofs.Common.{◌≡◌, ◌++◌, drop}
use Rattle.flat_lists.specs.Marks.{rows_of_marks}
use Rattle.flat_lists.proofs.marked_rows.rows_of.Given as goal

abbrev pub invariant-loop-place : goal.invariant-loop-place
invariant-loop-place l = l.out.items ++ rows_of_marks l.part (drop l.place l.marks) ≡ rows_of_marks 0 l.marks
