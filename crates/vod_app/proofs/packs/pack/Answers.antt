use Rattle.vod_app.specs.Commands.{requested}
use Rattle.vod_app.proofs.RunLemmas.{packed_of, packed_with}
use Rattle.vod_source.proofs.CallLemmas.{told_with_all, told_with_other}
use Rattle.vod_app.proofs.packs.pack.Goals as goal

pub returns-in-Err-clause-packed : goal.returns-in-Err-clause-packed
returns-in-Err-clause-packed g c =
    told_with_all (g.S.Store.content c.args.store.now) _ _ c.in-Err.ensures.told
    (λ files a. packed_of files (requested c.args.request) _ c.in-Err.refusal _ _ _ c.refused.ensures a)

pub returns-in-Ok-clause-packed : goal.returns-in-Ok-clause-packed
returns-in-Ok-clause-packed g c =
    told_with_other _ _ _ _ _ c.in-Ok.ensures.content c.in-Ok.ensures.told c.pack_with.ensures.packed
    (λ files a w. packed_with files (requested c.args.request) c.in-Ok.settings _ _ _ _ _ a w)
