-- Memory ran out before the request.
use Rattle.vod_source.proofs.CallLemmas.{told_all}
use Rattle.vod_app.proofs.BodyLemmas.{answer_unmade}
use Rattle.vod_app.proofs.answers.write_answer.Goals as goal

pub returns-in_default-clause-wrote : goal.returns-in_default-clause-wrote
returns-in_default-clause-wrote g c = told_all (g.S.Store.content c.args.store) _ (λ files. answer_unmade _ _ _ _)
