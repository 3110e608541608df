-- The I-frames of a timeline whose lengths are declared.
use Rattle.std.proofs.Common.{◌≡◌, List, [], ap, sym, ◌∙◌}
use Rattle.vod_types.specs.Tracks.{video_alone}
use Rattle.segment_model.specs.Listing.{ListedSegment}
use Rattle.seq_cells.specs.Cells.{declared_counts}
use Rattle.vod_source.proofs.CallLemmas.{told_all, told_with_both}
use Rattle.answer_laws.proofs.Due.{memory_may}
use Rattle.vod_plan.proofs.IframesDue.{iframes_parts, iframes_refused}
use Rattle.vod_plan.proofs.RowsDue.{declared_all, done_many, done_refused, done_unbegun, few_found, few_same, sound_found}
use Rattle.vod_plan.proofs.SegmentLemmas.{no_more}
use Rattle.vod_plan.proofs.timeline_iframes.declared_iframes.Goals as goal

pub returns-in-Err-clause-done : goal.returns-in-Err-clause-done
returns-in-Err-clause-done g c =
    let cut = c.args.cut in
    told_all (g.S.Store.content c.args.store.now) _
    (λ known. iframes_refused known cut.edits cut.grid.now cut.align c.args.video cut.timeline.now (λ rows. rows.items) c.args.metas.now c.args.metas.now (g.S.Store.log c.args.store.now) (g.S.Store.log c.args.store.now)
    c.in-Err.refusal c.args.steps.now c.args.steps.now
    (done_unbegun known cut.edits cut.grid.now cut.align (video_alone c.args.video) cut.timeline.now (λ rows. []) c.args.metas.now c.args.metas.now (g.S.Store.log c.args.store.now) (g.S.Store.log c.args.store.now)
    c.in-Err.refusal c.args.steps.now c.in-Err.ensures.only))

pub returns-in-Err-few_cells-clause-done : goal.returns-in-Err-few_cells-clause-done
returns-in-Err-few_cells-clause-done g c =
    let cut = c.args.cut in
    let t = cut.timeline.now in
    let counts : c.deref.result.now ≡ declared_counts cut.grid.now t.parts = c.deref.ensures.value ∙ c.in-Ok.ensures.counts ∙ ap (declared_counts cut.grid.now) c.parts_of.ensures.parts in
    told_all (g.S.Store.content c.args.store.now) _
    (λ known. iframes_refused known cut.edits cut.grid.now cut.align c.args.video t (λ rows. rows.items) c.args.metas.now c.args.metas.now (g.S.Store.log c.args.store.now) (g.S.Store.log c.args.store.now)
    c.in-Err-few_cells.refusal c.args.steps.now c.args.steps.now
    (done_many known cut.edits cut.grid.now cut.align (video_alone c.args.video) t (λ rows. []) c.args.metas.now c.args.metas.now (g.S.Store.log c.args.store.now) (g.S.Store.log c.args.store.now)
    c.in-Err-few_cells.refusal c.deref.result.now c.args.steps.now c.requires.declared counts c.in-Err-few_cells.ensures.many))

pub iframes_of_parts-requires-clause-pieces : goal.iframes_of_parts-requires-clause-pieces
iframes_of_parts-requires-clause-pieces g c =
    sound_found (video_alone c.args.video) c.pieces_of-pieces.result.now c.in-Ok-needed_of.needed.pieces.items c.deref-in-Ok-needed_of-2.result.now c.deref-in-Ok-needed_of-2.ensures.value c.in-Ok-needed_of.ensures.found
    c.in-Ok-needed_of.ensures.pieces

pub iframes_of_parts-requires-clause-looked : goal.iframes_of_parts-requires-clause-looked
iframes_of_parts-requires-clause-looked g c =
    few_found (video_alone c.args.video) c.pieces_of-pieces.result.now c.in-Ok-needed_of.needed.pieces.items c.deref-in-Ok-needed_of-2.result.now c.deref-in-Ok-needed_of-2.ensures.value c.in-Ok-needed_of.ensures.found
    c.pieces_of-pieces.ensures.few

pub returns-in-Ok-needed_of-clause-done : goal.returns-in-Ok-needed_of-clause-done
returns-in-Ok-needed_of-clause-done g c =
    let cut = c.args.cut in
    let t = cut.timeline.now in
    let same : c.deref-in-Ok-needed_of.result.now ≡ c.deref.result.now = c.deref-in-Ok-needed_of.ensures.value ∙ sym c.deref.ensures.value in
    let counts : c.deref.result.now ≡ declared_counts cut.grid.now t.parts = c.deref.ensures.value ∙ c.in-Ok.ensures.counts ∙ ap (declared_counts cut.grid.now) c.parts_of.ensures.parts in
    told_with_both (g.S.Store.content c.args.store.now) _ _ _ c.in-Ok-needed_of.ensures.told c.in-Ok-needed_of.ensures.looks
    (λ known looks most.
    let all = declared_all known cut.edits cut.grid.now cut.align (video_alone c.args.video) t (λ (ls : List ListedSegment). ls) c.args.metas.now c.needed_of.new.metas (g.S.Store.log c.args.store.now) (g.S.Store.log c.needed_of.new.store)
    c.deref.result.now c.requires.declared counts c.in-Ok-few_cells.ensures.few in
    iframes_parts known cut.edits cut.grid.now cut.align c.args.video t (λ rows. rows.items) c.args.metas.now c.needed_of.new.metas (g.S.Store.log c.args.store.now) (g.S.Store.log c.needed_of.new.store)
    all.1 c.pieces_of-pieces.result.now c.pieces_of-pieces.ensures.pieces c.in-Ok-needed_of.needed looks c.iframes_of_parts.result c.deref-in-Ok-needed_of.result.now c.parts_of-in-Ok-needed_of.result.now c.deref-in-Ok-needed_of-2.result.now
    c.args.steps.now c.needed_of.new.steps c.needed_of.new.steps c.iframes_of_parts.new.steps c.parts_of.ensures.kept c.parts_of-in-Ok-needed_of.ensures.parts c.deref-in-Ok-needed_of-2.ensures.value (same ∙ all.0)
    (few_same c.deref-in-Ok-needed_of.result.now c.deref.result.now same c.in-Ok-few_cells.ensures.few)
    c.iframes_of_parts.ensures.rows c.iframes_of_parts.ensures.more most (no_more c.needed_of.new.steps _) c.iframes_of_parts.ensures.looks)

pub returns-clause-done : goal.returns-clause-done
returns-clause-done g c =
    let cut = c.args.cut in
    let t = cut.timeline.now in
    let counts : c.deref.result.now ≡ declared_counts cut.grid.now t.parts = c.deref.ensures.value ∙ c.in-Ok.ensures.counts ∙ ap (declared_counts cut.grid.now) c.parts_of.ensures.parts in
    told_with_both (g.S.Store.content c.args.store.now) _ _ _ c.in-Err-needed_of.ensures.told c.in-Err-needed_of.ensures.looks
    (λ known looks most.
    let all = declared_all known cut.edits cut.grid.now cut.align (video_alone c.args.video) t (λ (ls : List ListedSegment). ls) c.args.metas.now c.needed_of.new.metas (g.S.Store.log c.args.store.now) (g.S.Store.log c.needed_of.new.store)
    c.deref.result.now c.requires.declared counts c.in-Ok-few_cells.ensures.few in
    iframes_refused known cut.edits cut.grid.now cut.align c.args.video t (λ rows. rows.items) c.args.metas.now c.needed_of.new.metas (g.S.Store.log c.args.store.now) (g.S.Store.log c.needed_of.new.store)
    c.in-Err-needed_of.refusal c.args.steps.now c.needed_of.new.steps
    (done_refused known cut.edits cut.grid.now cut.align (video_alone c.args.video) t (λ rows. []) c.args.metas.now c.needed_of.new.metas (g.S.Store.log c.args.store.now) (g.S.Store.log c.needed_of.new.store)
    all.1 c.pieces_of-pieces.result.now c.pieces_of-pieces.ensures.pieces c.in-Err-needed_of.refusal c.args.steps.now c.needed_of.new.steps looks most))

pub returns-in-Err-clause-refused : goal.returns-in-Err-clause-refused
returns-in-Err-clause-refused g c = memory_may c.in-Err.refusal c.in-Err.ensures.only
