use Rattle.std.proofs.Common.{◌∙◌}
use Rattle.vod_types.specs.declared.paths.Leaf.TheVariants.{Iframes}
use Rattle.origin_model.specs.Answers.{sequence_iframes}
use Rattle.flat_lists.specs.Listings.{leaf_turns}
use Rattle.flat_lists.specs.Asked.{asking_view, setup_of}
use Rattle.vod_source.proofs.CallLemmas.{told_all, told_with_all}
use Rattle.mp4_flat.proofs.Sequences.{recut_as, timed, untimed, iframes_are, iframes_looks, iframes_plan, iframes_turns}
use Rattle.mp4_flat.proofs.lists.sequence_iframes.Goals as goal

pub returns-in-Err-clause-told : goal.returns-in-Err-clause-told
returns-in-Err-clause-told g c =
    told_all (g.S.Store.content c.args.files.now) _
    (λ known. let o = setup_of c.args.settings.now c.args.root.now known in
    let a = asking_view c.args.asking.now in
    untimed o a c.args.sequence (sequence_iframes o a c.args.sequence c.args.video) (leaf_turns o a (Iframes c.args.sequence c.args.video)) (iframes_plan o a c.args.sequence c.args.video) (iframes_looks o a c.args.sequence c.args.video) (λ rows. rows.items) (iframes_are o a c.args.sequence c.args.video) (iframes_turns o a c.args.sequence c.args.video) c.in-Err.refusal _ c.in-Err.ensures.timeline)

pub returns-clause-told : goal.returns-clause-told
returns-clause-told g c =
    told_with_all (g.S.Store.content c.args.files.now) _ _ c.iframe_rows.ensures.told
    (λ known came. let o = setup_of c.args.settings.now c.args.root.now known in
    let a = asking_view c.args.asking.now in
    timed o a c.args.sequence (sequence_iframes o a c.args.sequence c.args.video) (leaf_turns o a (Iframes c.args.sequence c.args.video)) (iframes_plan o a c.args.sequence c.args.video) (iframes_looks o a c.args.sequence c.args.video) (λ rows. rows.items) (iframes_are o a c.args.sequence c.args.video) (iframes_turns o a c.args.sequence c.args.video) _ _ _ c.iframe_rows.result _ _
    c.in-Ok.ensures.timeline c.cut.ensures.timeline (recut_as known _ _ _ _ _ _ (c.cut.ensures.grid ∙ c.in-Ok.ensures.grid) (c.cut.ensures.align ∙ c.in-Ok.ensures.align) (c.cut.ensures.edits ∙ c.in-Ok.ensures.edits)) came)
