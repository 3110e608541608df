-- Too many, or the rows of those that are kept, which are all.
use Rattle.std.proofs.Common.{ap, ◌∙◌, arith}
use Rattle.vod_plan.specs.IframeMarks.{rows_of_marks}
use Rattle.vod_plan.proofs.IframeRows.{err_all, kept_rows, more_rows, ok_all}
use Rattle.vod_plan.proofs.marked_rows.listed_rows.Goals as goal

pub returns-then-marks-gt100000-clause-only : goal.returns-then-marks-gt100000-clause-only
returns-then-marks-gt100000-clause-only c = λ other all is. more_rows all c.args.marks.now is c.if-marks-gt100000.true

pub returns-clause-listed : goal.returns-clause-listed
returns-clause-listed c =
    ok_all c.rows_of.result _ _ c.rows_of.ensures.rows
    (λ rows e all is. kept_rows all c.args.marks.now is (omega (arith, c.if-marks-gt100000.false)) rows.items (e ∙ ap (rows_of_marks 0) c.deref.ensures.value))

pub returns-clause-only : goal.returns-clause-only
returns-clause-only c = err_all c.rows_of.result _ _ c.rows_of.ensures.only (λ e is other. absurd (other is))
