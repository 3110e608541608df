-- The part of the clip whose rows were found.
use Rattle.std.proofs.Common.{length, ◌≡◌, Bool, Option, IfSome, Ok, sym, subst}
use Rattle.segment_model.specs.Grid.{SegmentGrid}
use Rattle.vod_source.specs.Calls.{Came}
use Rattle.vod_source.specs.Stored.{Files, bytes_of}
use Rattle.vod_source.proofs.CallLemmas.{told_with_all, told_with_both, told_with_other}
use Rattle.origin_model.specs.Clips.{planned_clip}
use Rattle.origin_model.specs.Reads.{turns}
use Rattle.vod_meta.specs.Held.{names_held}
use Rattle.vod_plan.proofs.CacheLemmas.{leaves_all}
use Rattle.flat_clip.specs.Rows.{as_facts, clip_looks, cutting_of, facts_of}
use Rattle.flat_clip.proofs.WholeCalls.{whole-found, whole-refused}
use Rattle.mp4_clip.proofs.part.kept_clip_part.Goals as goal

pub rows_part-requires-clause-sized : goal.rows_part-requires-clause-sized
rows_part-requires-clause-sized g c =
    subst (λ (o : Option Files). IfSome o (λ known. length (bytes_of known c.in-Ok.rows.name) ≡ c.in-Ok.rows.file_size)) (sym c.in-Ok.ensures.content) c.in-Ok.ensures.sized

pub returns-in-Ok-clause-told : goal.returns-in-Ok-clause-told
returns-in-Ok-clause-told g c =
    let content = g.S.Store.content c.args.store.now in
    let sequence = c.args.sequence in
    let t = c.args.timeline.now in
    let came : IfSome content (λ known. (grid : SegmentGrid) (align : Bool) →
    Came facts_of (Ok c.in-Ok.rows) (as_facts (planned_clip (cutting_of known c.args.edits grid align) c.args.asked t sequence))
    (turns known (names_held c.args.metas.now) (clip_looks sequence t)).reads (g.S.Store.log c.args.store.now) (g.S.Store.log c.clip_rows.new.store)) =
    told_with_both content _ _ _ c.in-Ok.ensures.told c.in-Ok.ensures.turned (λ known told turned grid align. record { answered = told grid align; logged = turned.logged }) in
    told_with_other content (g.S.Store.content c.clip_rows.new.store) _ _ _ c.in-Ok.ensures.content came c.rows_part.ensures.told
    (λ known came later grid align. whole-found (cutting_of known c.args.edits grid align) c.args.asked t sequence c.args.range _ c.in-Ok.rows c.rows_part.result _ _ _
    (came grid align) c.in-Ok.ensures.small later)

pub returns-in-Ok-clause-cache : goal.returns-in-Ok-clause-cache
returns-in-Ok-clause-cache g c =
    told_with_all (g.S.Store.content c.args.store.now) _ _ c.in-Ok.ensures.turned (λ known turned. leaves_all known c.rows_part.result _ _ _ turned.cache)

pub returns-in-Err-clause-told : goal.returns-in-Err-clause-told
returns-in-Err-clause-told g c =
    told_with_both (g.S.Store.content c.args.store.now) _ _ _ c.in-Err.ensures.told c.in-Err.ensures.turned
    (λ known told turned grid align. whole-refused (cutting_of known c.args.edits grid align) c.args.asked c.args.timeline.now c.args.sequence c.args.range _ c.in-Err.refusal _ _
    (record { answered = told grid align; logged = turned.logged }))

pub returns-in-Err-clause-cache : goal.returns-in-Err-clause-cache
returns-in-Err-clause-cache g c =
    told_with_all (g.S.Store.content c.args.store.now) _ _ c.in-Err.ensures.turned (λ known turned. turned.cache)
