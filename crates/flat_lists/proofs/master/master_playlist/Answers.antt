use Rattle.std.proofs.Common.{◌≡◌, List, IfOk, ap, subst}
use Rattle.flat_lists.specs.declared.shown.Shown.{Shown}
use Rattle.flat_lists.specs.Asked.{asking_view, setup_of}
use Rattle.flat_lists.specs.Shown.{text_by}
use Rattle.vod_source.proofs.CallLemmas.{told_with_all}
use Rattle.flat_lists.proofs.MasterLemmas.{master_refused, master_written}
use Rattle.flat_lists.proofs.master.master_playlist.Goals as goal

pub returns-in-Ok-clause-told : goal.returns-in-Ok-clause-told
returns-in-Ok-clause-told g c =
    let text = subst (λ (shown : List Shown). IfOk c.text_of.result (λ text. text.items ≡ text_by c.args.asking.now.mapping c.settings.inside.iframes shown)) c.deref.ensures.value c.text_of.ensures.text in
    told_with_all (g.S.Store.content c.args.files.now) _ _ c.in-Ok.ensures.told
    (λ known came. master_written (setup_of c.args.settings.now c.args.root.now known) (asking_view c.args.asking.now) (λ shown. shown.items) (λ text. text.items) _ _ c.in-Ok.shown c.text_of.result
    c.settings.inside.iframes came (ap (λ s. s.iframes) c.settings.view_is) text c.text_of.ensures.only)

pub returns-in-Err-clause-told : goal.returns-in-Err-clause-told
returns-in-Err-clause-told g c =
    told_with_all (g.S.Store.content c.args.files.now) _ _ c.in-Err.ensures.told
    (λ known came. master_refused (setup_of c.args.settings.now c.args.root.now known) (asking_view c.args.asking.now) (λ shown. shown.items) (λ text. text.items) _ _ c.in-Err.refusal came)
