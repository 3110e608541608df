-- A sequence by its timeline.
use Rattle.std.proofs.Common.{List, ap, sym, ◌∙◌, slice_get}
use Rattle.clip_model.specs.declared.Piece.{Piece}
use Rattle.clip_model.specs.Timeline.{Timeline}
use Rattle.flat_lists.specs.Asked.{asking_view, setup_of}
use Rattle.vod_source.proofs.CallLemmas.{told_all, told_with_all}
use Rattle.seek_lists.proofs.ShownLemmas.{untimed, unselected, stepped}
use Rattle.seek_lists.proofs.shown.look.Goals as goal

pub returns-in-Err-clause-told : goal.returns-in-Err-clause-told
returns-in-Err-clause-told g c =
    told_all (g.S.Store.content c.args.store.now) _
    (λ known. untimed (setup_of c.args.settings.now c.args.root.now known) (asking_view c.args.asking.now) c.args.sequence _ _ c.in-Err.refusal c.in-Err.ensures.answers)

pub returns-in-Some-clause-told : goal.returns-in-Some-clause-told
returns-in-Some-clause-told g c =
    let at = ap (λ (t : Timeline). slice_get t.pieces 0) (sym c.timeline-2.view_is) ∙ ap (λ (ps : List Piece). slice_get ps 0) (sym c.deref.ensures.value) ∙ sym c.in-Some.ensures.value in
    told_with_all (g.S.Store.content c.args.store.now) _ _ c.look_at.ensures.told
    (λ known step. stepped (setup_of c.args.settings.now c.args.root.now known) (asking_view c.args.asking.now) c.args.sequence _ _ c.in-Ok.timeline c.in-Some.piece.now _ _ _
    c.in-Ok.ensures.answers at step)

pub returns-clause-told : goal.returns-clause-told
returns-clause-told g c =
    let at = ap (λ (t : Timeline). slice_get t.pieces 0) (sym c.timeline-2.view_is) ∙ ap (λ (ps : List Piece). slice_get ps 0) (sym c.deref.ensures.value) ∙ sym c.in-None.ensures.value in
    told_all (g.S.Store.content c.args.store.now) _
    (λ known. unselected (setup_of c.args.settings.now c.args.root.now known) (asking_view c.args.asking.now) c.args.sequence _ _ c.in-Ok.timeline c.in-Ok.ensures.answers at)
