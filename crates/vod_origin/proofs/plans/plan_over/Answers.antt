-- The turns of an I-frame are those of its segment.
use Rattle.std.proofs.Common.{◌≡◌, ℕ, Some, ap, sym, ◌∙◌}
use Rattle.vod_types.specs.declared.tracks.Asked.{Asked}
use Rattle.origin_model.specs.Iframes.{planned_iframe}
use Rattle.origin_model.specs.Plans.{segment_looks}
use Rattle.vod_plan.specs.Looks.{names_of}
use Rattle.vod_plan.specs.Planned.{cutting_of, plan_view}
use Rattle.vod_source.specs.Stored.{Files}
use Rattle.vod_origin.specs.Wanted.{asked_of, number_of}
use Rattle.vod_origin.proofs.PlanReads.{turns_told}
use Rattle.vod_origin.proofs.plans.plan_over.Goals as goal

pub returns-clause-turned : goal.returns-clause-turned
returns-clause-turned g c =
    let cut = c.args.cut.now in
    let asked : c.asked.result ≡ asked_of c.args.wanted = c.asked.ensures ∙ sym (ap asked_of c.in-Iframe.is) in
    let number : c.in-Iframe.number ≡ number_of c.args.wanted = sym (ap number_of c.in-Iframe.is) in
    let video : c.asked.result.video ≡ Some c.in-Iframe.video = ap (λ (a : Asked). a.video) c.asked.ensures in
    rw (asked, number) at (turns_told plan_view (g.S.Store.content c.args.store.now) c.asked.result c.in-Iframe.video c.iframe.result
    (λ (files : Files). names_of (segment_looks (cutting_of files cut.grid cut.align cut.edits) c.asked.result cut.timeline c.in-Iframe.number))
    (λ (files : Files) (v : ℕ). planned_iframe (cutting_of files cut.grid cut.align cut.edits) v cut.timeline c.in-Iframe.number c.in-Iframe.index) _ _ _ _ video c.iframe.ensures.told c.iframe.ensures.cache)
