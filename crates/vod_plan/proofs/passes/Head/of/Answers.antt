-- The rows that are left at a walk.
use Rattle.vod_plan.proofs.PassLemmas.{none_behind, one_behind}
use Rattle.vod_plan.proofs.passes.Head.of.Goals as goal

pub returns-then-walk-clause-rows : goal.returns-then-walk-clause-rows
returns-then-walk-clause-rows g c = λ form. none_behind c.args.kind c.args.pieces.now c.requires.pieces form c.args.walk c.requires.walk c.if-walk.true

pub returns-clause-rows : goal.returns-clause-rows
returns-clause-rows g c = λ form. one_behind c.args.kind c.args.pieces.now c.requires.pieces form c.args.walk c.due_at.result.1 c.due_at.result.0 c.due_at.ensures.row c.due_at.ensures.given
