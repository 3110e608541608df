use Rattle.vod_source.proofs.ToldLemmas.{GrewByPrefix-more}
use Rattle.mp4_flat.proofs.PackLemmas.{grows_by_both}
use Rattle.mp4_flat.proofs.entries.put_both.Goals as goal

pub returns-in-Ok-clause-written : goal.returns-in-Ok-clause-written
returns-in-Ok-clause-written g c = grows_by_both c.put-in-Ok.result _ _ _ c.args.first.now c.args.second.now c.in-Ok.ensures.written c.put-in-Ok.ensures.written

pub returns-in-Err-clause-written : goal.returns-in-Err-clause-written
returns-in-Err-clause-written g c = GrewByPrefix-more c.args.second.now c.in-Err.ensures.written
