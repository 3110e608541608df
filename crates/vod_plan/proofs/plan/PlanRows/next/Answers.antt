-- The rows stay.
use Rattle.std.proofs.Common.{ap}
use Rattle.vod_plan.specs.Planned.{Planned}
use Rattle.vod_plan.proofs.PlanLemmas.{same_plan}
use Rattle.vod_plan.proofs.plan.PlanRows.next.Goals as goal

pub returns-in-Video-clause-rows : goal.returns-in-Video-clause-rows
returns-in-Video-clause-rows c = same_plan _ c.args.self.now (ap (λ (p : Planned). p.form) c.self.view_is) (ap (λ (p : Planned). p.pieces) c.self.view_is)

pub returns-in-Audio-clause-rows : goal.returns-in-Audio-clause-rows
returns-in-Audio-clause-rows c = same_plan _ c.args.self.now (ap (λ (p : Planned). p.form) c.self.view_is) (ap (λ (p : Planned). p.pieces) c.self.view_is)
