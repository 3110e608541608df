use Rattle.std.proofs.Common.{refl}
use Rattle.vod_source.proofs.CallLemmas.{told_with_all}
use Rattle.flat_lists.proofs.AskingLemmas.{asked-ok, asked-err}
use Rattle.flat_lists.proofs.asking.asking_of.Goals as goal

pub returns-in-Ok-clause-told : goal.returns-in-Ok-clause-told
returns-in-Ok-clause-told g c =
    told_with_all (g.S.Store.content c.args.files.now) _ _ c.in-Ok.ensures.told
    (λ known came settings. asked-ok _ c.args.ask _ _ _ c.in-Ok.mapping _ refl (came settings))

pub returns-in-Err-clause-told : goal.returns-in-Err-clause-told
returns-in-Err-clause-told g c =
    told_with_all (g.S.Store.content c.args.files.now) _ _ c.in-Err.ensures.told
    (λ known came settings. asked-err _ c.args.ask _ _ _ c.in-Err.refusal (came settings))
