-- A sequence by its first piece.
use Rattle.std.proofs.Common.{ap, not}
use Rattle.std.specs.Rc.{rc_value}
use Rattle.flat_lists.specs.Asked.{asking_view, setup_of}
use Rattle.vod_meta.specs.Held.{HeldMovie}
use Rattle.vod_source.proofs.CallLemmas.{told_with_both}
use Rattle.seek_lists.proofs.ShownLemmas.{piece_looked, piece_unlooked}
use Rattle.seek_lists.proofs.shown.look_at.Goals as goal

pub returns-in-Err-clause-told : goal.returns-in-Err-clause-told
returns-in-Err-clause-told g c =
    told_with_both (g.S.Store.content c.args.store.now) _ _ _ c.in-Err.ensures.answers c.in-Err.ensures.turned
    (λ known load turned. piece_unlooked (setup_of c.args.settings.now c.args.root.now known) (asking_view c.args.asking.now) c.args.sequence c.args.piece.now _ _ _ _ c.in-Err.refusal load turned)

pub returns-clause-told : goal.returns-clause-told
returns-clause-told g c =
    told_with_both (g.S.Store.content c.args.store.now) _ _ _ c.in-Ok.ensures.answers c.in-Ok.ensures.turned
    (λ known load turned. piece_looked (setup_of c.args.settings.now c.args.root.now known) (asking_view c.args.asking.now) c.args.sequence c.args.piece.now _ _ _ _
    _ c.in-Ok.meta (rc_value {X = HeldMovie} c.in-Ok.meta).movie c.shown_in.result (ap (λ s. not s.ignore_edits) c.settings.view_is) load turned c.shown_in.ensures.answers)
