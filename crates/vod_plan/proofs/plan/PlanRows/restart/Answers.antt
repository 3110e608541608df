-- The rows stay.
use Rattle.std.proofs.Common.{ap}
use Rattle.vod_plan.specs.Planned.{Planned}
use Rattle.vod_plan.proofs.PlanLemmas.{same_plan}
use Rattle.vod_plan.proofs.plan.PlanRows.restart.Goals as goal

pub returns-clause-rows : goal.returns-clause-rows
returns-clause-rows c = same_plan _ c.args.self.now (ap (λ (p : Planned). p.form) c.self.view_is) (ap (λ (p : Planned). p.pieces) c.self.view_is)
