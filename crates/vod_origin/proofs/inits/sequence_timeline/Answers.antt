-- The timeline is that of what is asked for.
use Rattle.vod_source.proofs.CallLemmas.{told_with_all}
use Rattle.flat_lists.specs.Asked.{asking_view, setup_of}
use Rattle.vod_origin.proofs.InitLemmas.{timeline_told}
use Rattle.vod_origin.proofs.inits.sequence_timeline.Goals as goal

pub returns-in-Ok-clause-told : goal.returns-in-Ok-clause-told
returns-in-Ok-clause-told g c =
    told_with_all (g.S.Store.content c.args.store.now) _ _ c.in-Ok.ensures.told
    (λ files came settings. timeline_told (setup_of settings c.args.root.now files) c.args.ask c.args.sequence (asking_view c.in-Ok.asking) c.timeline.result (came settings).answered c.timeline.ensures.answers)
