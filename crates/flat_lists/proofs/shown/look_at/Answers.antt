use Rattle.std.proofs.Common.{ap, not}
use Rattle.flat_lists.specs.Asked.{asking_view, setup_of}
use Rattle.vod_source.proofs.CallLemmas.{told_with_all}
use Rattle.flat_lists.proofs.ShownLemmas.{piece_refused, piece_looked}
use Rattle.flat_lists.proofs.shown.look_at.Goals as goal

pub returns-in-Err-clause-told : goal.returns-in-Err-clause-told
returns-in-Err-clause-told g c =
    told_with_all (g.S.Store.content c.args.files.now) _ _ c.in-Err.ensures.told
    (λ known turned true. piece_refused (setup_of c.args.settings.now c.args.root.now known) (asking_view c.args.asking.now) c.args.sequence c.args.piece.now _ _ _ _ c.as_str.result.now c.as_str.ensures
    c.in-Err.refusal (turned true))

pub returns-clause-told : goal.returns-clause-told
returns-clause-told g c =
    told_with_all (g.S.Store.content c.args.files.now) _ _ c.in-Ok.ensures.told
    (λ known turned true. piece_looked (setup_of c.args.settings.now c.args.root.now known) (asking_view c.args.asking.now) c.args.sequence c.args.piece.now _ _ _ _ c.as_str.result.now c.as_str.ensures
    _ c.in-Ok.field-0 _ c.shown_in.result (ap (λ s. not s.ignore_edits) c.settings.view_is) c.front.ensures (turned true) c.shown_in.ensures.answers)
