use Rattle.std.proofs.Common.{Ok, Err, refl, ◌∙◌}
use Rattle.vod_types.specs.declared.paths.Leaf.TheVariants.{Iframe}
use Rattle.vod_types.specs.declared.segments.Form.TheVariants.{Ts}
use Rattle.vod_types.specs.Tracks.{video_alone}
use Rattle.origin_model.specs.Answers.{lone_iframe}
use Rattle.flat_lists.specs.Asked.{asking_view, setup_of}
use Rattle.flat_lists.specs.Listings.{leaf_turns}
use Rattle.flat_segments.specs.Segments.{flat_plan}
use Rattle.vod_source.proofs.CallLemmas.{told_all, told_with_all, told_with_other}
use Rattle.mp4_flat.proofs.Leaves.{rows_refused, rows_written, iframe_is, iframe_sampled}
use Rattle.mp4_flat.proofs.Sequences.{recut_as, timed, untimed, iframe_looked, iframe_plan, iframe_planned, iframe_turned}
use Rattle.mp4_flat.proofs.segments.iframe_answer.Goals as goal

pub returns-in-Err-clause-told : goal.returns-in-Err-clause-told
returns-in-Err-clause-told g c =
    told_all (g.S.Store.content c.args.files.now) _
    (λ known. let o = setup_of c.args.settings.now c.args.root.now known in
    let a = asking_view c.args.asking.now in
    rows_refused o a (Iframe c.args.number c.args.index c.args.sequence c.args.video) (lone_iframe o a c.args.number c.args.index c.args.sequence c.args.video) c.args.number (video_alone c.args.video) Ts (iframe_is o a c.args.number c.args.index c.args.sequence c.args.video) (iframe_sampled o a c.args.number c.args.index c.args.sequence c.args.video) c.in-Err.refusal _ _
    (untimed o a c.args.sequence (lone_iframe o a c.args.number c.args.index c.args.sequence c.args.video) (leaf_turns o a (Iframe c.args.number c.args.index c.args.sequence c.args.video)) (iframe_plan o a c.args.sequence c.args.number c.args.index c.args.video) (iframe_looked o a c.args.sequence c.args.number c.args.index c.args.video) flat_plan (iframe_planned o a c.args.sequence c.args.number c.args.index c.args.video) (iframe_turned o a c.args.sequence c.args.number c.args.index c.args.video) c.in-Err.refusal _ c.in-Err.ensures.timeline))

pub returns-in-Err-iframe_row-clause-told : goal.returns-in-Err-iframe_row-clause-told
returns-in-Err-iframe_row-clause-told g c =
    told_with_all (g.S.Store.content c.args.files.now) _ _ c.in-Err-iframe_row.ensures.told
    (λ known came. let o = setup_of c.args.settings.now c.args.root.now known in
    let a = asking_view c.args.asking.now in
    rows_refused o a (Iframe c.args.number c.args.index c.args.sequence c.args.video) (lone_iframe o a c.args.number c.args.index c.args.sequence c.args.video) c.args.number (video_alone c.args.video) Ts (iframe_is o a c.args.number c.args.index c.args.sequence c.args.video) (iframe_sampled o a c.args.number c.args.index c.args.sequence c.args.video) c.in-Err-iframe_row.refusal _ _
    (timed o a c.args.sequence (lone_iframe o a c.args.number c.args.index c.args.sequence c.args.video) (leaf_turns o a (Iframe c.args.number c.args.index c.args.sequence c.args.video)) (iframe_plan o a c.args.sequence c.args.number c.args.index c.args.video) (iframe_looked o a c.args.sequence c.args.number c.args.index c.args.video) flat_plan (iframe_planned o a c.args.sequence c.args.number c.args.index c.args.video) (iframe_turned o a c.args.sequence c.args.number c.args.index c.args.video) _ _ _ (Err c.in-Err-iframe_row.refusal) _ _
    c.in-Ok.ensures.timeline c.cut.ensures.timeline (recut_as known _ _ _ _ _ _ (c.cut.ensures.grid ∙ c.in-Ok.ensures.grid) (c.cut.ensures.align ∙ c.in-Ok.ensures.align) (c.cut.ensures.edits ∙ c.in-Ok.ensures.edits)) came))

pub returns-clause-told : goal.returns-clause-told
returns-clause-told g c =
    told_with_other (g.S.Store.content c.args.files.now) _ _ _ _ c.in-Ok-iframe_row.ensures.content c.in-Ok-iframe_row.ensures.told c.segment_body.ensures.told
    (λ known came body. let o = setup_of c.args.settings.now c.args.root.now known in
    let a = asking_view c.args.asking.now in
    rows_written o a (Iframe c.args.number c.args.index c.args.sequence c.args.video) (lone_iframe o a c.args.number c.args.index c.args.sequence c.args.video) c.args.number (video_alone c.args.video) Ts (iframe_is o a c.args.number c.args.index c.args.sequence c.args.video) (iframe_sampled o a c.args.number c.args.index c.args.sequence c.args.video) c.in-Ok-iframe_row.row c.segment_body.result _ _ _
    (timed o a c.args.sequence (lone_iframe o a c.args.number c.args.index c.args.sequence c.args.video) (leaf_turns o a (Iframe c.args.number c.args.index c.args.sequence c.args.video)) (iframe_plan o a c.args.sequence c.args.number c.args.index c.args.video) (iframe_looked o a c.args.sequence c.args.number c.args.index c.args.video) flat_plan (iframe_planned o a c.args.sequence c.args.number c.args.index c.args.video) (iframe_turned o a c.args.sequence c.args.number c.args.index c.args.video) _ _ _ (Ok c.in-Ok-iframe_row.row) _ _
    c.in-Ok.ensures.timeline c.cut.ensures.timeline (recut_as known _ _ _ _ _ _ (c.cut.ensures.grid ∙ c.in-Ok.ensures.grid) (c.cut.ensures.align ∙ c.in-Ok.ensures.align) (c.cut.ensures.edits ∙ c.in-Ok.ensures.edits)) came) body)

pub returns-clause-packets : goal.returns-clause-packets
returns-clause-packets g c = c.segment_body.ensures.packets refl
