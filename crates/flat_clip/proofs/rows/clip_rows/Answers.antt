use Rattle.std.proofs.Common.{sym, subst}
use Rattle.vod_source.proofs.CallLemmas.{told_all, told_with_all}
use Rattle.flat_samples.specs.Checks.{checked_view}
use Rattle.flat_samples.specs.Movies.{AreTrue}
use Rattle.flat_clip.proofs.ClipCalls.{check-not_failed, clip-checked, clip-none, clip-unchecked, clip-unloaded, held-size, renamed, same_err}
use Rattle.flat_clip.proofs.rows.clip_rows.Goals as goal

pub returns-in-Err-clause-told : goal.returns-in-Err-clause-told
returns-in-Err-clause-told g c =
    told_all (g.S.Store.content c.args.files.now) _
    (λ known grid align. clip-none known c.args.edits c.args.asked c.args.timeline.now c.args.sequence grid align c.in-Err.refusal _ c.in-Err.ensures.fault)

pub returns-in-Err-turn-clause-told : goal.returns-in-Err-turn-clause-told
returns-in-Err-turn-clause-told g c =
    told_with_all (g.S.Store.content c.args.files.now) _ _ c.in-Err-turn.ensures.told
    (λ known turned grid align. clip-unloaded known c.args.edits c.args.asked c.args.timeline.now c.args.sequence grid align c.in-Ok.piece.now c.in-Ok.ensures.piece _ _ _ c.in-Err-turn.refusal
    (renamed known c.as_str.result.now c.in-Ok.piece.now.name _ _ _ _ _ c.as_str.ensures c.new-movies.ensures (turned (subst (AreTrue known) (sym c.new-movies.ensures) tt))))

pub returns-in-Ok-check-clause-told : goal.returns-in-Ok-check-clause-told
returns-in-Ok-check-clause-told g c =
    told_with_all (g.S.Store.content c.args.files.now) _ _ c.in-Ok-turn.ensures.told
    (λ known turned grid align. clip-checked known c.args.edits c.args.asked c.args.timeline.now c.args.sequence grid align c.in-Ok.piece.now c.in-Ok.ensures.piece _ _ _ _ _ c.front.ensures
    (renamed known c.as_str.result.now c.in-Ok.piece.now.name _ _ _ _ _ c.as_str.ensures c.new-movies.ensures (turned (subst (AreTrue known) (sym c.new-movies.ensures) tt)))
    (checked_view c.in-Ok.piece.now c.in-Ok-check.tracks) c.checked_clip.result c.in-Ok-check.ensures.answers c.checked_clip.ensures.answers)

pub returns-in-Ok-check-clause-sized : goal.returns-in-Ok-check-clause-sized
returns-in-Ok-check-clause-sized g c =
    held-size (g.S.Store.content c.args.files.now) c.args.edits c.args.asked c.in-Ok.piece.now _ _ _ (checked_view c.in-Ok.piece.now c.in-Ok-check.tracks) c.checked_clip.result _ _
    (told_with_all (g.S.Store.content c.args.files.now) _ _ c.in-Ok-turn.ensures.told
    (λ known turned. (renamed known c.as_str.result.now c.in-Ok.piece.now.name _ _ _ _ _ c.as_str.ensures c.new-movies.ensures (turned (subst (AreTrue known) (sym c.new-movies.ensures) tt)))))
    c.front.ensures c.in-Ok-check.ensures.answers c.checked_clip.ensures.file c.checked_clip.ensures.named

pub returns-clause-told : goal.returns-clause-told
returns-clause-told g c =
    told_with_all (g.S.Store.content c.args.files.now) _ _ c.in-Ok-turn.ensures.told
    (λ known turned grid align. clip-unchecked known c.args.edits c.args.asked c.args.timeline.now c.args.sequence grid align c.in-Ok.piece.now c.in-Ok.ensures.piece _ _ _ _ _ c.front.ensures
    (renamed known c.as_str.result.now c.in-Ok.piece.now.name _ _ _ _ _ c.as_str.ensures c.new-movies.ensures (turned (subst (AreTrue known) (sym c.new-movies.ensures) tt)))
    c.in-Err-check.refusal c.in-Err-check.ensures.answers)

pub returns-clause-store_failed : goal.returns-clause-store_failed
returns-clause-store_failed g c = λ failed.
    absurd (check-not_failed c.args.edits c.args.asked c.in-Ok.piece.now _ c.in-Err-check.refusal c.in-Err-check.ensures.answers (same_err _ _ failed))
