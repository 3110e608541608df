-- The first piece of the part, or none.
use Rattle.std.proofs.Common.{ℕ, List}
use Rattle.vod_source.proofs.CallLemmas.{told_all, told_with_all}
use Rattle.seek_lists.proofs.InitLemmas.{part_refused, part_turned}
use Rattle.seek_lists.proofs.Turns.{tells_came, tells_cache}
use Rattle.seek_lists.proofs.inits.init.Goals as goal

pub returns-in-Ok-clause-told : goal.returns-in-Ok-clause-told
returns-in-Ok-clause-told g c =
    tells_came (g.S.Store.content c.args.store.now) (λ bytes. bytes.items) _ _ c.init_of_piece.result _ _ _ _
    (told_with_all (g.S.Store.content c.args.store.now) _ _ c.init_of_piece.ensures.told
    (λ known turned. part_turned (λ bytes. bytes.items) known c.args.edits c.args.asked c.args.timeline.now c.args.part _ _ c.in-Ok.piece.now c.init_of_piece.result _ _ c.in-Ok.ensures.piece turned))

pub returns-in-Ok-clause-cache : goal.returns-in-Ok-clause-cache
returns-in-Ok-clause-cache g c =
    tells_cache (g.S.Store.content c.args.store.now) (λ bytes. bytes.items) _ _ c.init_of_piece.result _ _ _ _
    (told_with_all (g.S.Store.content c.args.store.now) _ _ c.init_of_piece.ensures.told
    (λ known turned. part_turned (λ bytes. bytes.items) known c.args.edits c.args.asked c.args.timeline.now c.args.part _ _ c.in-Ok.piece.now c.init_of_piece.result _ _ c.in-Ok.ensures.piece turned))

pub returns-in-Err-clause-told : goal.returns-in-Err-clause-told
returns-in-Err-clause-told g c =
    tells_came (g.S.Store.content c.args.store.now) (λ bytes. bytes.items) _ _ _ _ _ _ _
    (told_all (g.S.Store.content c.args.store.now) _ (λ known. part_refused (λ bytes. bytes.items) known c.args.edits c.args.asked c.args.timeline.now c.args.part _ _ c.in-Err.refusal c.in-Err.ensures.piece))

pub returns-in-Err-clause-cache : goal.returns-in-Err-clause-cache
returns-in-Err-clause-cache g c =
    tells_cache {X = List ℕ} (g.S.Store.content c.args.store.now) (λ bytes. bytes) _ _ _ _ _ (g.S.Store.log c.args.store.now) (g.S.Store.log c.args.store.now)
    (told_all (g.S.Store.content c.args.store.now) _ (λ known. part_refused (λ bytes. bytes) known c.args.edits c.args.asked c.args.timeline.now c.args.part _ _ c.in-Err.refusal c.in-Err.ensures.piece))
