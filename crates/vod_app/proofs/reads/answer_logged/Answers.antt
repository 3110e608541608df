use Rattle.vod_app.proofs.ReadsLemmas.{logged_from}
use Rattle.origin_model.specs.Outcomes.{setup_with}
use Rattle.vod_app.specs.Commands.{requested}
use Rattle.vod_app.specs.Runs.{outcome_of}
use Rattle.vod_app.proofs.reads.answer_logged.Goals as goal

pub returns-clause-logged : goal.returns-clause-logged
returns-clause-logged g c =
    logged_from g.S.Store.content (λ files. setup_with files (requested c.args.request) c.args.settings) _ c.args.request.path.now (outcome_of c.write_answer-ran.result.end) (outcome_of c.end_of-end.result) _ _
    c.in_ok-watched.watched c.write_answer-ran.result.store c.into_logged-logged.result c.args.store
    c.in_ok-watched.ensures.fresh c.write_answer-ran.ensures.wrote c.as_bytes-path.ensures.value c.end_of-end.ensures.ends c.into_logged-logged.ensures.same
