-- The rows of the clip that was planned.
use Rattle.std.proofs.Common.{Ok, sym, ap, ◌∙◌}
use Rattle.flat_clip.specs.Rows.{as_facts}
use Rattle.mp4_clip.proofs.part.rows_in.Goals as goal

pub returns-in-Ok-written-clause-answers : goal.returns-in-Ok-written-clause-answers
returns-in-Ok-written-clause-answers g c = ap as_facts c.in-Ok.ensures.planned ∙ sym (ap Ok c.in-Ok-written.ensures.rows)

pub returns-in-Err-clause-answers : goal.returns-in-Err-clause-answers
returns-in-Err-clause-answers g c = λ memory. ap as_facts (c.in-Err.ensures.planned memory)
