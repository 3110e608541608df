-- A turn on the file of the piece, and what its metadata give.
use Rattle.std.proofs.Common.{Result, List, ℕ, sym, subst}
use Rattle.std.specs.Rc.{rc_value}
use Rattle.vod_types.specs.declared.refusal.Refusal.{Refusal}
use Rattle.vod_types.specs.Results.{Answers}
use Rattle.vod_meta.specs.Held.{HeldMovie}
use Rattle.vod_source.proofs.CallLemmas.{told_with_both}
use Rattle.seek_lists.proofs.InitLemmas.{piece_loaded, piece_unloaded}
use Rattle.seek_lists.proofs.Turns.{then_answered, then_refused}
use Rattle.seek_lists.proofs.inits.init_of_piece.Goals as goal

pub returns-in-Ok-clause-told : goal.returns-in-Ok-clause-told
returns-in-Ok-clause-told g c =
    told_with_both (g.S.Store.content c.args.store.now) _ _ _ c.in-Ok.ensures.answers c.in-Ok.ensures.turned
    (λ known load turned. then_answered known (λ bytes. bytes.items) _ _ _ _ _ _ c.in-Ok.meta c.init_in.result turned
    (subst (λ (due : Result (List ℕ) Refusal). Answers (λ bytes. bytes.items) c.init_in.result due)
    (sym (piece_loaded known c.args.edits c.args.asked c.args.piece.now (rc_value {X = HeldMovie} c.in-Ok.meta).movie load)) c.init_in.ensures.answers))

pub returns-in-Err-clause-told : goal.returns-in-Err-clause-told
returns-in-Err-clause-told g c =
    told_with_both (g.S.Store.content c.args.store.now) _ _ _ c.in-Err.ensures.answers c.in-Err.ensures.turned
    (λ known load turned. then_refused known (λ bytes. bytes.items) _ _ _ _ _ _ c.in-Err.refusal turned (λ memory store. piece_unloaded known c.args.edits c.args.asked c.args.piece.now c.in-Err.refusal (load memory store)))
