-- The I-frames of a timeline of one part without a declared length.
use Rattle.std.proofs.Common.{◌∷◌, [], ℕ, List, length, ap, sym, ◌∙◌, rules, FitsSigned, w64}
use Rattle.std.specs.Prelude.{sum}
use Rattle.std.proofs.lemmas.Int.{to_z-of_z}
use Rattle.clip_model.specs.declared.Part.{Part}
use Rattle.segment_model.specs.Grid.{cells, milliseconds}
use Rattle.vod_types.specs.Tracks.{video_alone}
use Rattle.segment_model.specs.Listing.{ListedSegment}
use Rattle.vod_source.proofs.CallLemmas.{told_with_both}
use Rattle.origin_model.specs.Plans.{few_cells}
use Rattle.origin_model.proofs.PieceOrder.{no_length, undeclared_part}
use Rattle.origin_model.proofs.SoundPieces.{all_sound}
use Rattle.vod_plan.specs.declared.lone.Wanted.TheVariants.{Iframe}
use Rattle.vod_plan.proofs.CellPlans.{end_steps, open_end}
use Rattle.vod_plan.proofs.IframesDue.{iframes_parts, iframes_refused}
use Rattle.vod_plan.proofs.RowsDue.{all_open, done_late, done_refused, few_found, sound_found}
use Rattle.vod_plan.proofs.SegmentLemmas.{counts_is}
use Rattle.vod_plan.proofs.timeline_iframes.open_iframes.Goals as goal

pub returns-in-Err-clause-done : goal.returns-in-Err-clause-done
returns-in-Err-clause-done g c =
    let cut = c.args.cut in
    let t = cut.timeline.now in
    let shown = c.part_at.ensures.pieces ∙ (undeclared_part t 0 c.part_at.result.0 c.part_at.ensures.kept c.requires.declared c.part_at.ensures.part).1 in
    told_with_both (g.S.Store.content c.args.store.now) _ _ _ c.in-Err.ensures.told c.in-Err.ensures.looks
    (λ known looks most.
    let all = all_open known cut.edits cut.grid.now cut.align (video_alone c.args.video) t (λ (ls : List ListedSegment). ls) c.args.metas.now c.needed_of.new.metas (g.S.Store.log c.args.store.now) (g.S.Store.log c.needed_of.new.store) c.requires.declared in
    iframes_refused known cut.edits cut.grid.now cut.align c.args.video t (λ rows. rows.items) c.args.metas.now c.needed_of.new.metas (g.S.Store.log c.args.store.now) (g.S.Store.log c.needed_of.new.store)
    c.in-Err.refusal c.args.steps.now c.needed_of.new.steps
    (done_refused known cut.edits cut.grid.now cut.align (video_alone c.args.video) t (λ rows. []) c.args.metas.now c.needed_of.new.metas (g.S.Store.log c.args.store.now) (g.S.Store.log c.needed_of.new.store)
    all c.part_at.result.1.now shown c.in-Err.refusal c.args.steps.now c.needed_of.new.steps looks most))

pub end_of-end-requires-clause-few : goal.end_of-end-requires-clause-few
end_of-end-requires-clause-few g c = few_found (video_alone c.args.video) c.part_at.result.1.now c.in-Ok.needed.pieces.items c.deref.result.now c.deref.ensures.value c.in-Ok.ensures.found c.part_at.ensures.few

pub iframes_of_parts-requires-clause-counts : goal.iframes_of_parts-requires-clause-counts
iframes_of_parts-requires-clause-counts g c =
    let t = c.args.cut.timeline.now in
    sym (ap (λ (ps : List Part). length ps) c.parts_of.ensures.parts ∙ no_length t.parts t.parts c.part_at.ensures.kept.open_lengths c.requires.declared)

pub iframes_of_parts-requires-clause-pieces : goal.iframes_of_parts-requires-clause-pieces
iframes_of_parts-requires-clause-pieces g c =
    sound_found (video_alone c.args.video) c.part_at.result.1.now c.in-Ok.needed.pieces.items c.deref-in-Ok-few_cells.result.now c.deref-in-Ok-few_cells.ensures.value c.in-Ok.ensures.found c.in-Ok.ensures.pieces

pub iframes_of_parts-requires-clause-looked : goal.iframes_of_parts-requires-clause-looked
iframes_of_parts-requires-clause-looked g c =
    few_found (video_alone c.args.video) c.part_at.result.1.now c.in-Ok.needed.pieces.items c.deref-in-Ok-few_cells.result.now c.deref-in-Ok-few_cells.ensures.value c.in-Ok.ensures.found c.part_at.ensures.few

pub returns-in-Ok-few_cells-clause-done : goal.returns-in-Ok-few_cells-clause-done
returns-in-Ok-few_cells-clause-done g c =
    let fits : FitsSigned w64 c.end_of-end.result = search rules in
    let start : FitsSigned w64 c.part_at.result.0.start = search rules in
    let cut = c.args.cut in
    let t = cut.timeline.now in
    let part = c.part_at.result.0 in
    let shown = c.part_at.ensures.pieces ∙ (undeclared_part t 0 part c.part_at.ensures.kept c.requires.declared c.part_at.ensures.part).1 in
    let end = open_end (video_alone c.args.video) part.start c.end_of-end.result c.lead_of.result c.deref.result.now c.in-Ok.needed.pieces.items c.lead_of.ensures c.deref.ensures.value (simp to_z-of_z at c.end_of-end.ensures.end) in
    let counted = (simp to_z-of_z at c.open_cells.ensures.count) ∙ ap (λ end. cells cut.grid.now (milliseconds end)) end in
    told_with_both (g.S.Store.content c.args.store.now) _ _ _ c.in-Ok.ensures.told c.in-Ok.ensures.looks
    (λ known looks most.
    let all = all_open known cut.edits cut.grid.now cut.align (video_alone c.args.video) t (λ (ls : List ListedSegment). ls) c.args.metas.now c.needed_of.new.metas (g.S.Store.log c.args.store.now) (g.S.Store.log c.needed_of.new.store) c.requires.declared in
    let counts = counts_is known cut.edits cut.grid.now cut.align (video_alone c.args.video) t 0 (Iframe 0) part c.part_at.ensures.kept c.requires.declared c.part_at.ensures.part c.part_at.result.1.now c.part_at.ensures.pieces
    c.args.metas.now c.needed_of.new.metas (g.S.Store.log c.args.store.now) (g.S.Store.log c.needed_of.new.store) c.in-Ok.needed c.open_cells.result looks counted in
    iframes_parts known cut.edits cut.grid.now cut.align c.args.video t (λ rows. rows.items) c.args.metas.now c.needed_of.new.metas (g.S.Store.log c.args.store.now) (g.S.Store.log c.needed_of.new.store)
    all c.part_at.result.1.now shown c.in-Ok.needed looks c.iframes_of_parts.result (c.open_cells.result ∷ []) c.parts_of.result.now c.deref-in-Ok-few_cells.result.now
    c.args.steps.now c.needed_of.new.steps c.end_of-end.new.steps c.iframes_of_parts.new.steps c.part_at.ensures.kept c.parts_of.ensures.parts c.deref-in-Ok-few_cells.ensures.value (sym counts)
    c.in-Ok-few_cells.ensures.few c.iframes_of_parts.ensures.rows c.iframes_of_parts.ensures.more most
    (end_steps (video_alone c.args.video) looks.answered.0 c.in-Ok.needed.pieces.items c.deref.result.now c.lead_of.result c.needed_of.new.steps c.end_of-end.new.steps (all_sound known cut.edits (video_alone c.args.video) _ looks.answered.0 looks.answered.1) looks.answered.2
    c.lead_of.ensures c.deref.ensures.value c.end_of-end.ensures.looks c.end_of-end.ensures.none)
    c.iframes_of_parts.ensures.looks)

pub returns-clause-done : goal.returns-clause-done
returns-clause-done g c =
    let fits : FitsSigned w64 c.end_of-end.result = search rules in
    let start : FitsSigned w64 c.part_at.result.0.start = search rules in
    let cut = c.args.cut in
    let t = cut.timeline.now in
    let part = c.part_at.result.0 in
    let shown = c.part_at.ensures.pieces ∙ (undeclared_part t 0 part c.part_at.ensures.kept c.requires.declared c.part_at.ensures.part).1 in
    let end = open_end (video_alone c.args.video) part.start c.end_of-end.result c.lead_of.result c.deref.result.now c.in-Ok.needed.pieces.items c.lead_of.ensures c.deref.ensures.value (simp to_z-of_z at c.end_of-end.ensures.end) in
    let counted = (simp to_z-of_z at c.open_cells.ensures.count) ∙ ap (λ end. cells cut.grid.now (milliseconds end)) end in
    told_with_both (g.S.Store.content c.args.store.now) _ _ _ c.in-Ok.ensures.told c.in-Ok.ensures.looks
    (λ known looks most.
    let all = all_open known cut.edits cut.grid.now cut.align (video_alone c.args.video) t (λ (ls : List ListedSegment). ls) c.args.metas.now c.needed_of.new.metas (g.S.Store.log c.args.store.now) (g.S.Store.log c.needed_of.new.store) c.requires.declared in
    let counts = counts_is known cut.edits cut.grid.now cut.align (video_alone c.args.video) t 0 (Iframe 0) part c.part_at.ensures.kept c.requires.declared c.part_at.ensures.part c.part_at.result.1.now c.part_at.ensures.pieces
    c.args.metas.now c.needed_of.new.metas (g.S.Store.log c.args.store.now) (g.S.Store.log c.needed_of.new.store) c.in-Ok.needed c.open_cells.result looks counted in
    iframes_refused known cut.edits cut.grid.now cut.align c.args.video t (λ rows. rows.items) c.args.metas.now c.needed_of.new.metas (g.S.Store.log c.args.store.now) (g.S.Store.log c.needed_of.new.store)
    c.in-Err-few_cells.refusal c.args.steps.now c.end_of-end.new.steps
    (done_late known cut.edits cut.grid.now cut.align (video_alone c.args.video) t (λ rows. []) c.args.metas.now c.needed_of.new.metas (g.S.Store.log c.args.store.now) (g.S.Store.log c.needed_of.new.store)
    all c.part_at.result.1.now shown c.in-Ok.needed looks c.in-Err-few_cells.refusal c.args.steps.now c.needed_of.new.steps c.end_of-end.new.steps
    (ap (λ (ns : List ℕ). few_cells (sum ns)) counts ∙ c.in-Err-few_cells.ensures.many) most
    (end_steps (video_alone c.args.video) looks.answered.0 c.in-Ok.needed.pieces.items c.deref.result.now c.lead_of.result c.needed_of.new.steps c.end_of-end.new.steps (all_sound known cut.edits (video_alone c.args.video) _ looks.answered.0 looks.answered.1) looks.answered.2
    c.lead_of.ensures c.deref.ensures.value c.end_of-end.ensures.looks c.end_of-end.ensures.none)))
