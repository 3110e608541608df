use Rattle.flat_lists.specs.Asked.{setup_of}
use Rattle.vod_source.proofs.CallLemmas.{told_all, told_with_all}
use Rattle.mp4_flat.proofs.AnsweredPaths.{path_answered, path_refused, read_is_ok}
use Rattle.mp4_flat.proofs.requests.answer.Goals as goal

pub returns-in-Err-clause-told : goal.returns-in-Err-clause-told
returns-in-Err-clause-told g c =
    told_all (g.S.Store.content c.args.files.now) _
    (λ known. path_refused (setup_of c.args.settings.now c.args.root.now known) c.args.path.now c.in-Err.refusal _ c.in-Err.ensures.answers)

pub returns-in-Ok-clause-told : goal.returns-in-Ok-clause-told
returns-in-Ok-clause-told g c =
    told_with_all (g.S.Store.content c.args.files.now) _ _ c.answer_ask.ensures.told
    (λ known came. path_answered (setup_of c.args.settings.now c.args.root.now known) c.args.path.now c.in-Ok.ask c.answer_ask.result _ _ c.in-Ok.ensures.answers came)

pub returns-in-Ok-clause-unread : goal.returns-in-Ok-clause-unread
returns-in-Ok-clause-unread g c = λ err. absurd (read_is_ok c.args.path.now c.in-Ok.ask c.in-Ok.ensures.answers err)
