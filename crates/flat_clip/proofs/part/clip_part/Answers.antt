use Rattle.vod_source.proofs.CallLemmas.{told_with_all, told_with_other}
use Rattle.flat_clip.specs.Answers.{part_reads_of}
use Rattle.flat_clip.specs.Rows.{cutting_of}
use Rattle.flat_clip.proofs.WholeCalls.{whole-found, whole-refused}
use Rattle.flat_clip.proofs.part.clip_part.Goals as goal

pub returns-in-Ok-clause-told : goal.returns-in-Ok-clause-told
unfolding part_reads_of
returns-in-Ok-clause-told g c =
    told_with_other (g.S.Store.content c.args.files.now) (g.S.Store.content c.clip_rows.new.files) _ _ _ c.in-Ok.ensures.content c.in-Ok.ensures.told c.rows_part.ensures.told
    (λ known came later grid align. whole-found (cutting_of known c.args.edits grid align) c.args.asked c.args.timeline.now c.args.sequence c.args.range _ c.in-Ok.rows c.rows_part.result _ _ _
    (came grid align) c.in-Ok.ensures.small later)

pub returns-in-Err-clause-told : goal.returns-in-Err-clause-told
unfolding part_reads_of
returns-in-Err-clause-told g c =
    told_with_all (g.S.Store.content c.args.files.now) _ _ c.in-Err.ensures.told
    (λ known came grid align. whole-refused (cutting_of known c.args.edits grid align) c.args.asked c.args.timeline.now c.args.sequence c.args.range _ c.in-Err.refusal _ _ (came grid align))
