-- The text over the sequences, or the first refusal.
use Rattle.std.proofs.Common.{ℕ, List, refl, sym, subst}
use Rattle.vod_source.proofs.CallLemmas.{told_with_all}
use Rattle.flat_lists.specs.Asked.{asking_view, setup_of}
use Rattle.seek_lists.specs.Looked.{AreFound}
use Rattle.seek_lists.proofs.DescriptionLemmas.{description_refused, description_taken}
use Rattle.seek_lists.proofs.LookedLemmas.{not_failed_by}
use Rattle.seek_lists.proofs.Turns.{tells_came, tells_cache}
use Rattle.seek_lists.proofs.description.presentation_description.Goals as goal

pub returns-in-Ok-clause-told : goal.returns-in-Ok-clause-told
returns-in-Ok-clause-told g c =
    tells_came (g.S.Store.content c.args.store.now) (λ text. text.items) _ _ c.described.result _ _ _ _
    (told_with_all (g.S.Store.content c.args.store.now) _ _ c.in-Ok.ensures.told
    (λ known looked.
    let o = setup_of c.args.settings.now c.args.root.now known in
    let a = asking_view c.args.asking.now in
    description_taken o a (λ ss. ss.items) (λ text. text.items) _ _ _ _ c.in-Ok.looked c.described.result looked
    (λ fs found. c.described.ensures.text o fs refl (subst (λ ss. AreFound o a fs ss) (sym c.deref.ensures.value) found))))

pub returns-in-Ok-clause-cache : goal.returns-in-Ok-clause-cache
returns-in-Ok-clause-cache g c =
    tells_cache (g.S.Store.content c.args.store.now) (λ text. text.items) _ _ c.described.result _ _ _ _
    (told_with_all (g.S.Store.content c.args.store.now) _ _ c.in-Ok.ensures.told
    (λ known looked.
    let o = setup_of c.args.settings.now c.args.root.now known in
    let a = asking_view c.args.asking.now in
    description_taken o a (λ ss. ss.items) (λ text. text.items) _ _ _ _ c.in-Ok.looked c.described.result looked
    (λ fs found. c.described.ensures.text o fs refl (subst (λ ss. AreFound o a fs ss) (sym c.deref.ensures.value) found))))

pub returns-in-Ok-clause-store_failed : goal.returns-in-Ok-clause-store_failed
returns-in-Ok-clause-store_failed g c = λ failed. absurd (not_failed_by c.described.result c.described.ensures.not_failed failed)

pub returns-in-Err-clause-told : goal.returns-in-Err-clause-told
returns-in-Err-clause-told g c =
    tells_came (g.S.Store.content c.args.store.now) (λ text. text.items) _ _ _ _ _ _ _
    (told_with_all (g.S.Store.content c.args.store.now) _ _ c.in-Err.ensures.told
    (λ known looked. description_refused (setup_of c.args.settings.now c.args.root.now known) (asking_view c.args.asking.now) (λ ss. ss.items) (λ text. text.items) _ _ _ _ c.in-Err.refusal looked))

pub returns-in-Err-clause-cache : goal.returns-in-Err-clause-cache
returns-in-Err-clause-cache g c =
    tells_cache {X = List ℕ} (g.S.Store.content c.args.store.now) (λ text. text) _ _ _ _ _ _ _
    (told_with_all (g.S.Store.content c.args.store.now) _ _ c.in-Err.ensures.told
    (λ known looked. description_refused (setup_of c.args.settings.now c.args.root.now known) (asking_view c.args.asking.now) (λ ss. ss.items) (λ text. text) _ _ _ _ c.in-Err.refusal looked))
