-- The rows of the clip of the one piece, or why there is none.
use Rattle.std.proofs.Common.{ℕ, List, [], Result, Err, sym, subst}
use Rattle.vod_types.specs.declared.refusal.Refusal.{Refusal}
use Rattle.vod_source.specs.Calls.{AnswersUnlessFailed}
use Rattle.vod_source.proofs.CallLemmas.{told_all, told_with_all}
use Rattle.vod_meta.specs.Held.{names_held}
use Rattle.vod_plan.specs.Turned.{AreTurns}
use Rattle.vod_plan.proofs.CacheLemmas.{turned_all, turned_begin}
use Rattle.flat_clip.specs.declared.rows.ClipRows.{ClipRows}
use Rattle.flat_clip.specs.Rows.{ClipFacts, facts_of}
use Rattle.mp4_clip.proofs.KeptParts.{due-none, due-piece, looks-none, looks-piece}
use Rattle.mp4_clip.proofs.part.clip_rows.Goals as goal

pub returns-in-Err-clause-told : goal.returns-in-Err-clause-told
returns-in-Err-clause-told g c =
    told_all (g.S.Store.content c.args.store.now) _
    (λ known grid align memory store. due-none c.args.sequence c.args.timeline.now known c.args.edits c.args.asked grid align c.in-Err.refusal c.in-Err.ensures.fault)

pub returns-in-Err-clause-turned : goal.returns-in-Err-clause-turned
returns-in-Err-clause-turned g c =
    let held = names_held c.args.metas.now in
    let log = g.S.Store.log c.args.store.now in
    told_all (g.S.Store.content c.args.store.now) _
    (λ known. subst (λ (names : List (List ℕ)). AreTurns {X = ClipRows} known names (Err c.in-Err.refusal) held held log log) (sym (looks-none c.args.sequence c.args.timeline.now c.in-Err.refusal c.in-Err.ensures.fault))
    (turned_all known tt (Err c.in-Err.refusal) [] held held log log (turned_begin known held log)))

pub returns-in-Ok-clause-told : goal.returns-in-Ok-clause-told
returns-in-Ok-clause-told g c =
    told_with_all (g.S.Store.content c.args.store.now) _ _ c.piece_rows.ensures.told
    (λ known told grid align. subst (λ (due : Result ClipFacts Refusal). AnswersUnlessFailed facts_of c.piece_rows.result due)
    (sym (due-piece c.args.sequence c.args.timeline.now known c.args.edits c.args.asked grid align c.in-Ok.piece.now c.in-Ok.ensures.piece)) told)

pub returns-in-Ok-clause-turned : goal.returns-in-Ok-clause-turned
returns-in-Ok-clause-turned g c =
    told_with_all (g.S.Store.content c.args.store.now) _ _ c.piece_rows.ensures.turned
    (λ known turned. subst (λ (names : List (List ℕ)). AreTurns known names c.piece_rows.result (names_held c.args.metas.now) (names_held c.piece_rows.new.metas) (g.S.Store.log c.args.store.now) (g.S.Store.log c.piece_rows.new.store))
    (sym (looks-piece c.args.sequence c.args.timeline.now c.in-Ok.piece.now c.in-Ok.ensures.piece)) turned)
