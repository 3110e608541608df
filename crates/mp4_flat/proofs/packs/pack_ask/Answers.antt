use Rattle.flat_lists.specs.Asked.{asking_view, setup_of}
use Rattle.vod_source.proofs.CallLemmas.{told_with_all, told_with_other}
use Rattle.mp4_flat.proofs.PackedPaths.{asked_packed, asked_refused}
use Rattle.mp4_flat.proofs.packs.pack_ask.Goals as goal

pub returns-in-Err-clause-told : goal.returns-in-Err-clause-told
returns-in-Err-clause-told g c =
    told_with_all (g.S.Store.content c.args.files.now) _ _ c.in-Err.ensures.told
    (λ known came. asked_refused (setup_of c.args.settings.now c.args.root.now known) c.args.ask c.in-Err.refusal _ (came c.args.settings.now).answered)

pub returns-in-Ok-clause-told : goal.returns-in-Ok-clause-told
returns-in-Ok-clause-told g c =
    told_with_other (g.S.Store.content c.args.files.now) _ _ _ _ c.in-Ok.ensures.content c.in-Ok.ensures.told c.pack_names.ensures.told
    (λ known came put. asked_packed (setup_of c.args.settings.now c.args.root.now known) c.args.ask (asking_view c.in-Ok.asking) c.pack_names.result _ _ (came c.args.settings.now).answered c.requires.packed c.requires.leaf put)
