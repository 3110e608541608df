-- A turn on the file of the piece, and the rows that its metadata give.
use Rattle.std.proofs.Common.{Result, sym, subst}
use Rattle.std.specs.Rc.{rc_value}
use Rattle.vod_types.specs.declared.refusal.Refusal.{Refusal}
use Rattle.vod_types.specs.Results.{Answers}
use Rattle.vod_meta.specs.Held.{HeldMovie}
use Rattle.vod_source.proofs.CallLemmas.{answers_unless, told_with_all}
use Rattle.vod_plan.proofs.CacheLemmas.{turned_all}
use Rattle.flat_clip.specs.Rows.{ClipFacts, facts_of}
use Rattle.mp4_clip.proofs.KeptParts.{rows-loaded, rows-unloaded, sized}
use Rattle.mp4_clip.proofs.part.piece_rows.Goals as goal

told_is : goal.returns-in-Ok-clause-told
told_is g c =
    told_with_all (g.S.Store.content c.args.store.now) _ _ c.in-Ok.ensures.answers
    (λ known load. answers_unless facts_of c.rows_in.result _
    (subst (λ (due : Result ClipFacts Refusal). Answers facts_of c.rows_in.result due)
    (sym (rows-loaded known c.args.edits c.args.asked c.args.piece.now c.args.sequence (rc_value {X = HeldMovie} c.in-Ok.meta).movie load)) c.rows_in.ensures.answers))

pub returns-in-Ok-clause-told : goal.returns-in-Ok-clause-told
returns-in-Ok-clause-told g c = told_is g c

pub returns-in-Ok-clause-turned : goal.returns-in-Ok-clause-turned
returns-in-Ok-clause-turned g c =
    told_with_all (g.S.Store.content c.args.store.now) _ _ c.in-Ok.ensures.turned (λ known turned. turned_all known c.in-Ok.meta c.rows_in.result _ _ _ _ _ turned)

pub returns-in-Ok-clause-sized : goal.returns-in-Ok-clause-sized
returns-in-Ok-clause-sized g c = sized (g.S.Store.content c.args.store.now) c.args.edits c.args.asked c.args.piece.now c.args.sequence c.rows_in.result (told_is g c)

pub returns-in-Err-clause-told : goal.returns-in-Err-clause-told
returns-in-Err-clause-told g c =
    told_with_all (g.S.Store.content c.args.store.now) _ _ c.in-Err.ensures.answers
    (λ known load memory store. rows-unloaded known c.args.edits c.args.asked c.args.piece.now c.args.sequence c.in-Err.refusal (load memory store))

pub returns-in-Err-clause-turned : goal.returns-in-Err-clause-turned
returns-in-Err-clause-turned g c =
    told_with_all (g.S.Store.content c.args.store.now) _ _ c.in-Err.ensures.turned (λ known turned. record { logged = turned.logged; cache = turned.cache })
