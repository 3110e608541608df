-- A turn on the file of the first piece, and its tracks.
use Rattle.std.specs.Rc.{rc_value}
use Rattle.vod_meta.specs.Held.{HeldMovie}
use Rattle.vod_source.proofs.CallLemmas.{told_with_both}
use Rattle.seek_lists.proofs.LookedLemmas.{first_loaded, first_unloaded, not_failed_by}
use Rattle.seek_lists.proofs.looked_parts.look_at_first.Goals as goal

pub returns-in-Ok-clause-told : goal.returns-in-Ok-clause-told
returns-in-Ok-clause-told g c =
    told_with_both (g.S.Store.content c.args.store.now) _ _ _ c.in-Ok.ensures.answers c.in-Ok.ensures.turned
    (λ known load turned. first_loaded known c.args.looking.edits c.args.looking.mapping.now c.args.looking.sequence c.args.piece.now _ _ _ _ c.in-Ok.meta (rc_value {X = HeldMovie} c.in-Ok.meta).movie c.first_of.result load turned c.first_of.ensures.stands)

pub returns-in-Ok-clause-store_failed : goal.returns-in-Ok-clause-store_failed
returns-in-Ok-clause-store_failed g c = λ failed. absurd (not_failed_by c.first_of.result c.first_of.ensures.not_failed failed)

pub returns-in-Err-clause-told : goal.returns-in-Err-clause-told
returns-in-Err-clause-told g c =
    told_with_both (g.S.Store.content c.args.store.now) _ _ _ c.in-Err.ensures.answers c.in-Err.ensures.turned
    (λ known load turned. first_unloaded known c.args.looking.edits c.args.looking.mapping.now c.args.looking.sequence c.args.piece.now _ _ _ _ c.in-Err.refusal load turned)
