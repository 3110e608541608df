-- The reply gives the answer by the plan, or why there is none.
use Rattle.std.proofs.Common.{Err, ap, arith, ◌∙◌, subst}
use Rattle.vod_source.proofs.CallLemmas.{told_with_all, told_with_other}
use Rattle.flat_lists.specs.Asked.{setup_of}
use Rattle.vod_plan.specs.Planned.{plan_view}
use Rattle.vod_plan.specs.Writable.{IsWritableBy}
use Rattle.vod_origin.specs.Wanted.{asked_of, form_of}
use Rattle.vod_origin.proofs.PlanReplies.{plan_begins, plan_replies}
use Rattle.vod_origin.proofs.ReplyLemmas.{refused}
use Rattle.vod_origin.proofs.WantedLemmas.{planned_with, unplanned, untimed}
use Rattle.vod_source.proofs.CallLemmas.{told_with_both}
use Rattle.vod_origin.specs.Wanted.{cut_view}
use Rattle.vod_origin.proofs.SoughtReads.{told_pair}
use Rattle.vod_origin.proofs.PlanReads.{plan_begun, plan_refused, plan_untimed}
use Rattle.vod_origin.proofs.requests.planned_reply.Goals as goal

pub returns-in-Err-clause-replies : goal.returns-in-Err-clause-replies
returns-in-Err-clause-replies g c =
    refused c.args.settings.now c.args.root.now c.args.ask (g.S.Store.content c.args.store.now) _ _ c.in-Err.refusal c.in-Err.ensures.refused (λ failed. c.in-Err.ensures.store_failed (ap Err failed))
    (told_with_all (g.S.Store.content c.args.store.now) _ _ c.in-Err.ensures.told
    (λ files is known_memory known_store. untimed (setup_of c.args.settings.now c.args.root.now files) c.args.ask c.args.sequence c.args.wanted c.requires.leaf c.in-Err.refusal (is known_memory known_store)))

pub returns-in-Ok-plan-clause-replies : goal.returns-in-Ok-plan-clause-replies
returns-in-Ok-plan-clause-replies g c =
    let content = c.in-Ok-plan.ensures.content ∙ c.in-Ok.ensures.content in
    plan_replies c.args.settings.now c.args.root.now c.args.ask c.args.sequence c.in-Ok-plan.plan (g.S.Store.content c.args.store.now) c.args.wanted c.requires.leaf
    (told_with_other (g.S.Store.content c.args.store.now) _ _ _ _ c.in-Ok.ensures.content c.in-Ok.ensures.told c.in-Ok-plan.ensures.told
    (λ files is due. planned_with (setup_of c.args.settings.now c.args.root.now files) c.args.ask c.args.sequence c.args.wanted c.requires.leaf _ _ (plan_view c.in-Ok-plan.plan) is due))
    c.in-Ok-plan.ensures.bytes (subst (λ told. IsWritableBy (form_of c.args.wanted) (asked_of c.args.wanted) told c.in-Ok-plan.plan) content c.in-Ok-plan.ensures.writable)
    _ _ c.args.head_only c.plan_reply.result c.plan_reply.ensures

pub returns-in-Ok-plan-clause-begins : goal.returns-in-Ok-plan-clause-begins
returns-in-Ok-plan-clause-begins g c =
    let content = c.in-Ok-plan.ensures.content ∙ c.in-Ok.ensures.content in
    plan_begins c.args.settings.now c.args.root.now c.args.ask c.args.sequence c.in-Ok-plan.plan (g.S.Store.content c.args.store.now) c.args.wanted c.requires.leaf
    (told_with_other (g.S.Store.content c.args.store.now) _ _ _ _ c.in-Ok.ensures.content c.in-Ok.ensures.told c.in-Ok-plan.ensures.told
    (λ files is due. planned_with (setup_of c.args.settings.now c.args.root.now files) c.args.ask c.args.sequence c.args.wanted c.requires.leaf _ _ (plan_view c.in-Ok-plan.plan) is due))
    c.in-Ok-plan.ensures.bytes (subst (λ told. IsWritableBy (form_of c.args.wanted) (asked_of c.args.wanted) told c.in-Ok-plan.plan) content c.in-Ok-plan.ensures.writable)
    c.args.head_only c.plan_reply.result c.plan_reply.ensures

pub returns-clause-replies : goal.returns-clause-replies
returns-clause-replies g c =
    refused c.args.settings.now c.args.root.now c.args.ask (g.S.Store.content c.args.store.now) _ _ c.in-Err-plan.refusal c.in-Err-plan.ensures.refused
    (λ failed. let rose = c.in-Err-plan.ensures.store_failed (ap Err failed) in omega (arith, rose, c.in-Ok.ensures.later))
    (told_with_other (g.S.Store.content c.args.store.now) _ _ _ _ c.in-Ok.ensures.content c.in-Ok.ensures.told c.in-Err-plan.ensures.told
    (λ files is due known_memory known_store. unplanned (setup_of c.args.settings.now c.args.root.now files) c.args.ask c.args.sequence c.args.wanted c.requires.leaf _ _ c.in-Err-plan.refusal is (due known_memory known_store)))

pub returns-in-Err-clause-reads : goal.returns-in-Err-clause-reads
returns-in-Err-clause-reads g c = λ range.
    told_with_both (g.S.Store.content c.args.store.now) _ _ _ c.in-Err.ensures.told c.in-Err.ensures.logged
    (λ files due logged. plan_untimed (setup_of c.args.settings.now c.args.root.now files) range c.args.ask c.args.sequence c.args.wanted c.requires.leaf c.args.head_only _ _ _ c.in-Err.refusal due logged)

pub returns-in-Ok-plan-clause-reads : goal.returns-in-Ok-plan-clause-reads
returns-in-Ok-plan-clause-reads g c = λ range.
    told_with_other (g.S.Store.content c.args.store.now) _ _ _ _ c.in-Ok.ensures.content
    (told_pair (g.S.Store.content c.args.store.now) _ _ c.in-Ok.ensures.told c.in-Ok.ensures.logged)
    (told_pair _ _ _ c.in-Ok-plan.ensures.told c.in-Ok-plan.ensures.turned)
    (λ files cut found.
    plan_begun (setup_of c.args.settings.now c.args.root.now files) range c.args.ask c.args.sequence c.args.wanted c.requires.leaf (cut_view files c.in-Ok.cut) cut.0 c.args.head_only _ _ _ _ _ cut.1
    c.in-Ok-plan.plan c.in-Ok-plan.plan found.0 found.1 c.plan_reply.result c.plan_reply.ensures)

pub returns-clause-reads : goal.returns-clause-reads
returns-clause-reads g c = λ range.
    told_with_other (g.S.Store.content c.args.store.now) _ _ _ _ c.in-Ok.ensures.content
    (told_pair (g.S.Store.content c.args.store.now) _ _ c.in-Ok.ensures.told c.in-Ok.ensures.logged)
    (told_pair _ _ _ c.in-Err-plan.ensures.told c.in-Err-plan.ensures.turned)
    (λ files cut found.
    plan_refused (setup_of c.args.settings.now c.args.root.now files) range c.args.ask c.args.sequence c.args.wanted c.requires.leaf (cut_view files c.in-Ok.cut) cut.0 c.args.head_only _ _ _ _ _ cut.1
    c.in-Err-plan.refusal found.0 found.1)
