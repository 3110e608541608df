use Rattle.std.proofs.Common.{refl, sym, subst}
use Rattle.vod_source.proofs.CallLemmas.{told_with_all}
use Rattle.flat_lists.specs.Asked.{asking_view, setup_of}
use Rattle.flat_lists.specs.Described.{AreFound}
use Rattle.flat_lists.proofs.DescriptionLemmas.{description_refused, description_taken}
use Rattle.flat_lists.proofs.LookedLemmas.{not_failed_by}
use Rattle.flat_lists.proofs.description.presentation_description.Goals as goal

pub returns-in-Ok-clause-told : goal.returns-in-Ok-clause-told
returns-in-Ok-clause-told g c =
    told_with_all (g.S.Store.content c.args.files.now) _ _ c.in-Ok.ensures.told
    (λ known looked.
    let o = setup_of c.args.settings.now c.args.root.now known in
    let a = asking_view c.args.asking.now in
    description_taken o a (λ ss. ss.items) (λ text. text.items) _ _ c.in-Ok.looked c.described.result looked
    (λ fs found. c.described.ensures.text o fs refl (subst (λ ss. AreFound o a fs ss) (sym c.deref.ensures.value) found)))

pub returns-in-Ok-clause-store_failed : goal.returns-in-Ok-clause-store_failed
returns-in-Ok-clause-store_failed g c = λ failed. absurd (not_failed_by c.described.result c.described.ensures.not_failed failed)

pub returns-in-Err-clause-told : goal.returns-in-Err-clause-told
returns-in-Err-clause-told g c =
    told_with_all (g.S.Store.content c.args.files.now) _ _ c.in-Err.ensures.told
    (λ known looked. description_refused (setup_of c.args.settings.now c.args.root.now known) (asking_view c.args.asking.now) (λ ss. ss.items) (λ text. text.items) _ _ c.in-Err.refusal looked)
