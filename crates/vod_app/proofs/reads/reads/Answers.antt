use Rattle.vod_source.proofs.CallLemmas.{told_with_all, told_with_other}
use Rattle.vod_app.specs.Commands.{requested}
use Rattle.vod_app.proofs.ReadsLemmas.{reads_refused, reads_with_settings}
use Rattle.vod_app.proofs.reads.reads.Goals as goal

pub returns-in-Err-clause-reads : goal.returns-in-Err-clause-reads
returns-in-Err-clause-reads g c =
    told_with_all (g.S.Store.content c.args.store) _ _ c.in-Err.ensures.told
    (λ files a. reads_refused files (requested c.args.request) _ c.in-Err.refusal _ _ _ c.refused.ensures a)

pub returns-in-Ok-clause-reads : goal.returns-in-Ok-clause-reads
returns-in-Ok-clause-reads g c =
    told_with_other _ _ _ _ _ c.in-Ok.ensures.content c.in-Ok.ensures.told c.reads_with.ensures.reads
    (λ files a w. reads_with_settings files (requested c.args.request) c.in-Ok.settings _ _ _ _ _ a w)
