use Rattle.vod_source.proofs.CallLemmas.{refusal-not_failed}
use Rattle.mp4_flat.proofs.InitLemmas.{written-answers}
use Rattle.flat_samples.proofs.CheckLemmas.{checked_in-not_failed}
use Rattle.mp4_flat.proofs.init.init_in.Goals as goal

pub returns-in-Ok-clause-answers : goal.returns-in-Ok-clause-answers
returns-in-Ok-clause-answers c =
    written-answers (λ bytes. bytes.items) c.args.edits c.args.asked c.args.piece.now _ c.in-Ok.tracks c.written.result c.in-Ok.ensures.answers c.written.ensures.bytes c.written.ensures.only

pub returns-in-Err-clause-store : goal.returns-in-Err-clause-store
returns-in-Err-clause-store c =
    λ failed. refusal-not_failed _ c.in-Err.refusal (checked_in-not_failed c.args.edits c.args.asked c.args.piece.now _) c.in-Err.ensures.answers cc
