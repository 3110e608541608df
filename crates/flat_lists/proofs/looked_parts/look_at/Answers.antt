use Rattle.vod_source.proofs.CallLemmas.{told_with_all}
use Rattle.flat_lists.specs.PartTracks.{part_seen}
use Rattle.flat_lists.proofs.LookedLemmas.{look_unloaded, look_unchecked, look_taken, piece_refused, same_err, with_piece}
use Rattle.flat_lists.proofs.Tours.{renamed}
use Rattle.flat_lists.proofs.looked_parts.look_at.Goals as goal

pub returns-in-Err-clause-told : goal.returns-in-Err-clause-told
returns-in-Err-clause-told g c =
    told_with_all (g.S.Store.content c.args.files.now) _ _ c.in-Err.ensures.told
    (λ known turned true. look_unloaded known c.args.edits c.args.asked c.args.place c.args.piece.now (part_seen c.args.part.now) (part_seen c.args.part.now) _ _ _ _ c.in-Err.refusal
    (renamed known c.as_str.result.now c.args.piece.now.name _ _ _ _ _ c.as_str.ensures (turned true)))

pub returns-in-Ok-check-clause-told : goal.returns-in-Ok-check-clause-told
returns-in-Ok-check-clause-told g c =
    told_with_all (g.S.Store.content c.args.files.now) _ _ c.in-Ok.ensures.told
    (λ known turned true. look_taken known c.args.edits c.args.asked c.args.place c.args.piece.now (part_seen c.args.part.now) _ _ _ _ _ _ c.in-Ok-check.tracks c.add.result _ c.front.ensures
    (renamed known c.as_str.result.now c.args.piece.now.name _ _ _ _ _ c.as_str.ensures (turned true)) c.in-Ok-check.ensures.answers c.add.ensures.added c.add.ensures.only)

pub returns-in-Ok-check-clause-of : goal.returns-in-Ok-check-clause-of
returns-in-Ok-check-clause-of g c = with_piece c.add.result c.args.place c.args.piece.now c.in-Ok-check.tracks _ _ c.add.ensures.added

pub returns-in-Err-check-clause-told : goal.returns-in-Err-check-clause-told
returns-in-Err-check-clause-told g c =
    told_with_all (g.S.Store.content c.args.files.now) _ _ c.in-Ok.ensures.told
    (λ known turned true. look_unchecked known c.args.edits c.args.asked c.args.place c.args.piece.now (part_seen c.args.part.now) (part_seen c.args.part.now) _ _ _ _ _ c.in-Err-check.refusal _ c.front.ensures
    (renamed known c.as_str.result.now c.args.piece.now.name _ _ _ _ _ c.as_str.ensures (turned true)) c.in-Err-check.ensures.answers)

pub returns-in-Err-check-clause-store_failed : goal.returns-in-Err-check-clause-store_failed
returns-in-Err-check-clause-store_failed g c = λ failed. absurd (piece_refused c.args.edits c.args.asked c.args.piece.now _ c.in-Err-check.refusal c.in-Err-check.ensures.answers (same_err _ _ failed))
