use Rattle.vod_app.specs.Commands.{requested}
use Rattle.vod_app.proofs.RunLemmas.{plan_at, planned_of, planned_with}
use Rattle.vod_source.proofs.CallLemmas.{told_with_all, told_with_other}
use Rattle.vod_app.proofs.plans.plan.Goals as goal

pub returns-in-Err-clause-planned : goal.returns-in-Err-clause-planned
returns-in-Err-clause-planned g c =
    told_with_all (g.S.Store.content c.args.store) _ _ c.in-Err.ensures.told
    (λ files a. planned_of files (requested c.args.request) _ c.in-Err.refusal _ _ _ c.refused.ensures a)

pub returns-in-Ok-clause-planned : goal.returns-in-Ok-clause-planned
returns-in-Ok-clause-planned g c =
    told_with_other _ _ _ _ _ c.in-Ok.ensures.content c.in-Ok.ensures.told c.plan_with.ensures.planned
    (λ files a w. planned_with files (requested c.args.request) c.in-Ok.settings _ _ _ _ _ _ a (plan_at _ _ _ _ _ _ _ _ c.as_bytes.ensures.value w))
