use Rattle.std.proofs.Common.{Ok, Err, ◌∙◌}
use Rattle.vod_types.specs.declared.paths.Leaf.TheVariants.{Segment}
use Rattle.origin_model.specs.Answers.{lone_segment}
use Rattle.flat_lists.specs.Asked.{asking_view, setup_of}
use Rattle.flat_lists.specs.Listings.{leaf_turns}
use Rattle.flat_segments.specs.Segments.{flat_plan}
use Rattle.vod_source.proofs.CallLemmas.{told_all, told_with_all, told_with_other}
use Rattle.mp4_flat.proofs.Leaves.{rows_refused, rows_written, segment_is, segment_sampled}
use Rattle.mp4_flat.proofs.Sequences.{recut_as, timed, untimed, segment_looked, segment_plan, segment_planned, segment_turned}
use Rattle.mp4_flat.proofs.segments.segment_answer.Goals as goal

pub returns-in-Err-clause-told : goal.returns-in-Err-clause-told
returns-in-Err-clause-told g c =
    told_all (g.S.Store.content c.args.files.now) _
    (λ known. let o = setup_of c.args.settings.now c.args.root.now known in
    let a = asking_view c.args.asking.now in
    rows_refused o a (Segment c.args.number c.args.sequence c.args.asked c.args.form) (lone_segment o a c.args.number c.args.sequence c.args.asked c.args.form) c.args.number c.args.asked c.args.form (segment_is o a c.args.number c.args.sequence c.args.asked c.args.form) (segment_sampled o a c.args.number c.args.sequence c.args.asked c.args.form) c.in-Err.refusal _ _
    (untimed o a c.args.sequence (lone_segment o a c.args.number c.args.sequence c.args.asked c.args.form) (leaf_turns o a (Segment c.args.number c.args.sequence c.args.asked c.args.form)) (segment_plan o a c.args.sequence c.args.number c.args.asked c.args.form) (segment_looked o a c.args.sequence c.args.number c.args.asked c.args.form) flat_plan (segment_planned o a c.args.sequence c.args.number c.args.asked c.args.form) (segment_turned o a c.args.sequence c.args.number c.args.asked c.args.form) c.in-Err.refusal _ c.in-Err.ensures.timeline))

pub returns-in-Err-segment_rows-clause-told : goal.returns-in-Err-segment_rows-clause-told
returns-in-Err-segment_rows-clause-told g c =
    told_with_all (g.S.Store.content c.args.files.now) _ _ c.in-Err-segment_rows.ensures.told
    (λ known came. let o = setup_of c.args.settings.now c.args.root.now known in
    let a = asking_view c.args.asking.now in
    rows_refused o a (Segment c.args.number c.args.sequence c.args.asked c.args.form) (lone_segment o a c.args.number c.args.sequence c.args.asked c.args.form) c.args.number c.args.asked c.args.form (segment_is o a c.args.number c.args.sequence c.args.asked c.args.form) (segment_sampled o a c.args.number c.args.sequence c.args.asked c.args.form) c.in-Err-segment_rows.refusal _ _
    (timed o a c.args.sequence (lone_segment o a c.args.number c.args.sequence c.args.asked c.args.form) (leaf_turns o a (Segment c.args.number c.args.sequence c.args.asked c.args.form)) (segment_plan o a c.args.sequence c.args.number c.args.asked c.args.form) (segment_looked o a c.args.sequence c.args.number c.args.asked c.args.form) flat_plan (segment_planned o a c.args.sequence c.args.number c.args.asked c.args.form) (segment_turned o a c.args.sequence c.args.number c.args.asked c.args.form) _ _ _ (Err c.in-Err-segment_rows.refusal) _ _
    c.in-Ok.ensures.timeline c.cut.ensures.timeline (recut_as known _ _ _ _ _ _ (c.cut.ensures.grid ∙ c.in-Ok.ensures.grid) (c.cut.ensures.align ∙ c.in-Ok.ensures.align) (c.cut.ensures.edits ∙ c.in-Ok.ensures.edits)) came))

pub returns-clause-told : goal.returns-clause-told
returns-clause-told g c =
    told_with_other (g.S.Store.content c.args.files.now) _ _ _ _ c.in-Ok-segment_rows.ensures.content c.in-Ok-segment_rows.ensures.told c.segment_body.ensures.told
    (λ known came body. let o = setup_of c.args.settings.now c.args.root.now known in
    let a = asking_view c.args.asking.now in
    rows_written o a (Segment c.args.number c.args.sequence c.args.asked c.args.form) (lone_segment o a c.args.number c.args.sequence c.args.asked c.args.form) c.args.number c.args.asked c.args.form (segment_is o a c.args.number c.args.sequence c.args.asked c.args.form) (segment_sampled o a c.args.number c.args.sequence c.args.asked c.args.form) c.in-Ok-segment_rows.rows c.segment_body.result _ _ _
    (timed o a c.args.sequence (lone_segment o a c.args.number c.args.sequence c.args.asked c.args.form) (leaf_turns o a (Segment c.args.number c.args.sequence c.args.asked c.args.form)) (segment_plan o a c.args.sequence c.args.number c.args.asked c.args.form) (segment_looked o a c.args.sequence c.args.number c.args.asked c.args.form) flat_plan (segment_planned o a c.args.sequence c.args.number c.args.asked c.args.form) (segment_turned o a c.args.sequence c.args.number c.args.asked c.args.form) _ _ _ (Ok c.in-Ok-segment_rows.rows) _ _
    c.in-Ok.ensures.timeline c.cut.ensures.timeline (recut_as known _ _ _ _ _ _ (c.cut.ensures.grid ∙ c.in-Ok.ensures.grid) (c.cut.ensures.align ∙ c.in-Ok.ensures.align) (c.cut.ensures.edits ∙ c.in-Ok.ensures.edits)) came) body)
