use Rattle.std.proofs.Common.{Global}
use Rattle.std.specs.Prelude.{string_bytes}
use Rattle.vod_app.specs.Runs.{outcome_of}
use Rattle.vod_app.proofs.RehearsalLemmas.{unrefused}
use Rattle.vod_app.proofs.rehearsals.rehearse.Goals as goal

pub returns-in-Err-clause-unrefused : goal.returns-in-Err-clause-unrefused
returns-in-Err-clause-unrefused g c = unrefused (string_bytes {Z = Global}) c.args.n c.in-Err.refusal (outcome_of c.refused.result) c.in-Err.ensures c.refused.ensures.outcome
