-- The text of the sequences that are shown, or their first refusal.
use Rattle.std.proofs.Common.{◌≡◌, ℕ, List, IfOk, ap, subst}
use Rattle.flat_lists.specs.declared.shown.Shown.{Shown}
use Rattle.flat_lists.specs.Asked.{asking_view, setup_of}
use Rattle.flat_lists.specs.Shown.{text_by}
use Rattle.vod_source.proofs.CallLemmas.{told_with_all}
use Rattle.seek_lists.proofs.ShownLemmas.{master_refused, master_written}
use Rattle.seek_lists.proofs.Turns.{tells_came, tells_cache}
use Rattle.seek_lists.proofs.master.master_playlist.Goals as goal

pub returns-in-Ok-clause-told : goal.returns-in-Ok-clause-told
returns-in-Ok-clause-told g c =
    let text = subst (λ (shown : List Shown). IfOk c.text_of.result (λ text. text.items ≡ text_by c.args.asking.now.mapping c.settings.inside.iframes shown)) c.deref.ensures.value c.text_of.ensures.text in
    tells_came (g.S.Store.content c.args.store.now) (λ text. text.items) _ _ c.text_of.result _ _ _ _
    (told_with_all (g.S.Store.content c.args.store.now) _ _ c.in-Ok.ensures.told
    (λ known step. master_written (λ shown. shown.items) (λ text. text.items) (setup_of c.args.settings.now c.args.root.now known) (asking_view c.args.asking.now) _ _ _ _ c.in-Ok.shown c.text_of.result
    c.settings.inside.iframes step (ap (λ s. s.iframes) c.settings.view_is) text c.text_of.ensures.only))

pub returns-in-Ok-clause-cache : goal.returns-in-Ok-clause-cache
returns-in-Ok-clause-cache g c =
    let text = subst (λ (shown : List Shown). IfOk c.text_of.result (λ text. text.items ≡ text_by c.args.asking.now.mapping c.settings.inside.iframes shown)) c.deref.ensures.value c.text_of.ensures.text in
    tells_cache (g.S.Store.content c.args.store.now) (λ text. text.items) _ _ c.text_of.result _ _ _ _
    (told_with_all (g.S.Store.content c.args.store.now) _ _ c.in-Ok.ensures.told
    (λ known step. master_written (λ shown. shown.items) (λ text. text.items) (setup_of c.args.settings.now c.args.root.now known) (asking_view c.args.asking.now) _ _ _ _ c.in-Ok.shown c.text_of.result
    c.settings.inside.iframes step (ap (λ s. s.iframes) c.settings.view_is) text c.text_of.ensures.only))

pub returns-in-Err-clause-told : goal.returns-in-Err-clause-told
returns-in-Err-clause-told g c =
    tells_came (g.S.Store.content c.args.store.now) (λ text. text.items) _ _ _ _ _ _ _
    (told_with_all (g.S.Store.content c.args.store.now) _ _ c.in-Err.ensures.told
    (λ known step. master_refused (λ shown. shown.items) (λ text. text.items) (setup_of c.args.settings.now c.args.root.now known) (asking_view c.args.asking.now) _ _ _ _ c.in-Err.refusal step))

pub returns-in-Err-clause-cache : goal.returns-in-Err-clause-cache
returns-in-Err-clause-cache g c =
    tells_cache {X = List ℕ} (g.S.Store.content c.args.store.now) (λ text. text) _ _ _ _ _ _ _
    (told_with_all (g.S.Store.content c.args.store.now) _ _ c.in-Err.ensures.told
    (λ known step. master_refused (λ shown. shown.items) (λ text. text) (setup_of c.args.settings.now c.args.root.now known) (asking_view c.args.asking.now) _ _ _ _ c.in-Err.refusal step))
