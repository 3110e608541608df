use Rattle.vod_source.proofs.CallLemmas.{told_with_all}
use Rattle.mp4_flat.proofs.InitLemmas.{piece-loaded, piece-refused}
use Rattle.mp4_flat.proofs.init.init_of_piece.Goals as goal

pub returns-in-Ok-clause-told : goal.returns-in-Ok-clause-told
returns-in-Ok-clause-told g c =
    told_with_all (g.S.Store.content c.args.files.now) _ _ c.in-Ok.ensures.told
    (λ known turned. piece-loaded (λ bytes. bytes.items) known c.args.edits c.args.asked c.args.piece.now _ c.as_str.result.now _ _ c.as_str.ensures c.new-movies.ensures
    c.in-Ok.field-0 _ c.init_in.result turned c.front.ensures c.init_in.ensures.answers)

pub returns-clause-told : goal.returns-clause-told
returns-clause-told g c =
    told_with_all (g.S.Store.content c.args.files.now) _ _ c.in-Err.ensures.told
    (λ known turned. piece-refused (λ bytes. bytes.items) known c.args.edits c.args.asked c.args.piece.now _ c.as_str.result.now _ _ c.as_str.ensures c.new-movies.ensures c.in-Err.refusal turned)
