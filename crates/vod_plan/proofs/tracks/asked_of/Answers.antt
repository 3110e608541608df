-- No track of the kind is asked.
use Rattle.vod_plan.proofs.CheckLemmas.{pair-none}
use Rattle.vod_plan.proofs.tracks.asked_of.Goals as goal

pub returns-in_default-clause-answers : goal.returns-in_default-clause-answers
returns-in_default-clause-answers c = rw c.in_default.is (pair-none c.args.piece.now c.args.meta.now.movie c.args.edits c.args.kind)
