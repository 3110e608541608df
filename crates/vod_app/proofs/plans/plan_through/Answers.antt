-- The rows that were listed are written, or what they were refused with ends it.
use Rattle.vod_app.proofs.RunLemmas.{plan_refused, plan_written}
use Rattle.vod_source.proofs.CallLemmas.{told_with_all}
use Rattle.vod_app.proofs.plans.plan_through.Goals as goal

pub returns-in-Err-clause-planned : goal.returns-in-Err-clause-planned
returns-in-Err-clause-planned g c =
    told_with_all (g.S.Store.content c.args.origin.now.store) _ _ c.in-Err.ensures.lists
    (λ files lists. plan_refused (λ rows. rows.items) _ c.args.path.now _ _ _ c.requires.new _ _ _ c.in-Err.refusal c.refused.ensures lists)

pub returns-in-Ok-clause-planned : goal.returns-in-Ok-clause-planned
returns-in-Ok-clause-planned g c =
    told_with_all (g.S.Store.content c.args.origin.now.store) _ _ c.in-Ok.ensures.lists
    (λ files lists. plan_written (λ rows. rows.items) _ c.args.path.now _ _ _ c.requires.new _ _ _ c.in-Ok.rows _ _ c.deref.ensures.value c.put_plan.ensures.wrote lists)
