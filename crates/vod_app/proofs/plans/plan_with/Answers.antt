-- Memory ran out before the request.
use Rattle.vod_app.proofs.RunLemmas.{plan_unmade}
use Rattle.vod_source.proofs.CallLemmas.{told_all}
use Rattle.vod_app.proofs.plans.plan_with.Goals as goal

pub returns-in_default-clause-planned : goal.returns-in_default-clause-planned
returns-in_default-clause-planned g c = told_all (g.S.Store.content c.args.store) _ (λ files. plan_unmade _ _ _ _)
