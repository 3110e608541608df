use Rattle.vod_source.proofs.CallLemmas.{told_all}
use Rattle.mp4_flat.proofs.InitLemmas.{part-refused}
use Rattle.mp4_flat.proofs.init.init_of_part.Goals as goal

pub returns-in-Err-clause-told : goal.returns-in-Err-clause-told
returns-in-Err-clause-told g c =
    told_all (g.S.Store.content c.args.files.now) _
    (λ known. part-refused (λ bytes. bytes.items) known c.args.edits c.args.asked c.args.timeline.now c.args.part _ c.in-Err.refusal c.in-Err.ensures.piece)
