use Rattle.vod_app.specs.Commands.{requested}
use Rattle.vod_app.proofs.BodyLemmas.{written_at}
use Rattle.vod_app.proofs.RunLemmas.{got_of, got_with}
use Rattle.vod_source.proofs.CallLemmas.{told_with_all, told_with_other}
use Rattle.vod_app.proofs.requests.get.Goals as goal

pub returns-in-Err-clause-got : goal.returns-in-Err-clause-got
returns-in-Err-clause-got g c =
    told_with_all (g.S.Store.content c.args.store) _ _ c.in-Err.ensures.told
    (λ files a. got_of files (requested c.args.request) _ c.in-Err.refusal _ _ _ c.refused.ensures a)

pub returns-in-Ok-clause-got : goal.returns-in-Ok-clause-got
returns-in-Ok-clause-got g c =
    told_with_other _ _ _ _ _ c.in-Ok.ensures.content c.in-Ok.ensures.told c.write_answer.ensures.wrote
    (λ files a w. got_with files (requested c.args.request) c.in-Ok.settings _ _ _ _ _ _ a (written_at _ _ _ _ _ _ _ _ c.as_bytes.ensures.value w))
