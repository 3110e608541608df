use Rattle.vod_source.proofs.CallLemmas.{told_with_all}
use Rattle.flat_lists.proofs.LookedLemmas.{first_loaded, first_unloaded, not_failed_by}
use Rattle.flat_lists.proofs.Tours.{renamed}
use Rattle.flat_lists.proofs.looked_parts.look_at_first.Goals as goal

pub returns-in-Ok-clause-told : goal.returns-in-Ok-clause-told
returns-in-Ok-clause-told g c =
    told_with_all (g.S.Store.content c.args.files.now) _ _ c.in-Ok.ensures.told
    (λ known turned true. first_loaded known c.args.looking.edits c.args.looking.mapping.now c.args.looking.sequence c.args.piece.now _ _ _ _ _ c.first_of.result _ c.front.ensures
    (renamed known c.as_str.result.now c.args.piece.now.name _ _ _ _ _ c.as_str.ensures (turned true)) c.first_of.ensures.stands)

pub returns-in-Ok-clause-store_failed : goal.returns-in-Ok-clause-store_failed
returns-in-Ok-clause-store_failed g c = λ failed. absurd (not_failed_by c.first_of.result c.first_of.ensures.not_failed failed)

pub returns-in-Err-clause-told : goal.returns-in-Err-clause-told
returns-in-Err-clause-told g c =
    told_with_all (g.S.Store.content c.args.files.now) _ _ c.in-Err.ensures.told
    (λ known turned true. first_unloaded known c.args.looking.edits c.args.looking.mapping.now c.args.looking.sequence c.args.piece.now _ _ _ _ c.in-Err.refusal
    (renamed known c.as_str.result.now c.args.piece.now.name _ _ _ _ _ c.as_str.ensures (turned true)))
