use Rattle.vod_source.proofs.CallLemmas.{told_with_all}
use Rattle.flat_segments.specs.Planned.{cutting_of}
use Rattle.flat_segments.proofs.LoneIframes.{planned_whole, same_due}
use Rattle.flat_segments.proofs.segment.segment_rows.Goals as goal

pub returns-clause-told : goal.returns-clause-told
returns-clause-told g c =
    let cut = c.args.cut in
    told_with_all (g.S.Store.content c.args.files.now) _ _ c.wanted_segment.ensures.told (λ known came.
    same_due c.wanted_segment.result _ _ _ _ _ (planned_whole (cutting_of known cut.grid.now cut.align cut.edits) c.args.asked cut.timeline.now c.args.number c.args.form) came)
