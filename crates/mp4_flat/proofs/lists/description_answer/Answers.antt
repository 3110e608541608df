use Rattle.std.proofs.Common.{refl}
use Rattle.vod_types.specs.declared.paths.Leaf.TheVariants.{Mpd}
use Rattle.flat_lists.specs.Asked.{asking_view, setup_of}
use Rattle.flat_lists.specs.Listings.{description_due}
use Rattle.vod_source.proofs.CallLemmas.{told_with_all}
use Rattle.mp4_flat.proofs.Leaves.{text_refused, text_written, description_is, description_sampled}
use Rattle.mp4_flat.proofs.lists.description_answer.Goals as goal

pub returns-in-Ok-clause-told : goal.returns-in-Ok-clause-told
returns-in-Ok-clause-told g c =
    told_with_all (g.S.Store.content c.args.files.now) _ _ c.in-Ok.ensures.told
    (λ known came. let o = setup_of c.args.settings.now c.args.root.now known in
    let a = asking_view c.args.asking.now in
    text_written o a Mpd (description_due o a) (λ text. text) (description_is o a) (description_sampled o a) (λ text. text.items) c.in-Ok.bytes _ _ _ came refl)

pub returns-in-Err-clause-told : goal.returns-in-Err-clause-told
returns-in-Err-clause-told g c =
    told_with_all (g.S.Store.content c.args.files.now) _ _ c.in-Err.ensures.told
    (λ known came. let o = setup_of c.args.settings.now c.args.root.now known in
    let a = asking_view c.args.asking.now in
    text_refused o a Mpd (description_due o a) (λ text. text) (description_is o a) (description_sampled o a) (λ text. text.items) c.in-Err.refusal _ _ came)
