use Rattle.vod_source.proofs.CallLemmas.{told_all}
use Rattle.vod_app.proofs.ReadsLemmas.{reads_unmade}
use Rattle.vod_app.proofs.reads.reads_with.Goals as goal

pub returns-in-Err-clause-reads : goal.returns-in-Err-clause-reads
returns-in-Err-clause-reads g c =
    told_all (g.S.Store.content c.args.store) _ (λ files. reads_unmade _ c.args.request.path.now (g.K.Sink.written c.args.out.now))
