-- A timeline of one part without a declared length.
use Rattle.std.proofs.Common.{length, ap, ◌∙◌, arith, rules, FitsSigned, w64}
use Rattle.std.proofs.lemmas.Int.{to_z-of_z}
use Rattle.vod_types.specs.declared.tracks.Kind.TheVariants.{Video, Audio}
use Rattle.vod_source.proofs.CallLemmas.{told_with_all, told_with_both}
use Rattle.vod_plan.specs.Wanted.{form_of}
use Rattle.segment_model.specs.Grid.{cells, milliseconds}
use Rattle.origin_model.proofs.SoundPieces.{all_sound}
use Rattle.vod_plan.proofs.CellPlans.{end_steps, found_few, kept_rows, open_end, typed_found}
use Rattle.vod_plan.proofs.SegmentLemmas.{open_found, open_refused, open_unplaced}
use Rattle.vod_plan.proofs.WritableCalls.{found_of_part, sizes_looked, stored_writable}
use Rattle.vod_plan.proofs.lone.open_segment.Goals as goal

pub returns-in-Err-clause-done : goal.returns-in-Err-clause-done
returns-in-Err-clause-done g c =
    told_with_both (g.S.Store.content c.args.store.now) _ _ _ c.in-Err.ensures.told c.in-Err.ensures.looks
    (λ known looks most. open_refused known c.args.cut.edits c.args.cut.grid.now c.args.cut.align c.args.asked c.args.cut.timeline.now c.args.number c.args.wanted c.part_at.result.0 c.part_at.ensures.kept c.requires.declared c.part_at.ensures.part
    c.part_at.result.1.now c.part_at.ensures.pieces c.args.metas.now c.needed_of.new.metas (g.S.Store.log c.args.store.now) (g.S.Store.log c.needed_of.new.store) c.in-Err.refusal c.args.steps.now c.needed_of.new.steps looks most)

pub end_of-end-requires-clause-few : goal.end_of-end-requires-clause-few
end_of-end-requires-clause-few g c =
    let few = found_few c.args.asked c.part_at.result.1.now c.in-Ok.needed.pieces.items c.in-Ok.ensures.found c.part_at.ensures.few in
    omega (arith, few, ap (λ ps. length ps) c.deref.ensures.value)

pub cell_plan-requires-clause-few : goal.cell_plan-requires-clause-few
cell_plan-requires-clause-few g c = found_few c.args.asked c.part_at.result.1.now c.in-Ok.needed.pieces.items c.in-Ok.ensures.found c.part_at.ensures.few

pub cell_plan-requires-clause-typed : goal.cell_plan-requires-clause-typed
cell_plan-requires-clause-typed g c = typed_found c.args.asked c.part_at.result.1.now c.in-Ok.needed.pieces.items c.in-Ok.ensures.found c.in-Ok.ensures.pieces

pub cell_plan-requires-clause-video : goal.cell_plan-requires-clause-video
cell_plan-requires-clause-video g c = kept_rows Video c.args.asked c.part_at.result.1.now c.in-Ok.needed.pieces.items c.in-Ok.ensures.found

pub cell_plan-requires-clause-audio : goal.cell_plan-requires-clause-audio
cell_plan-requires-clause-audio g c = kept_rows Audio c.args.asked c.part_at.result.1.now c.in-Ok.needed.pieces.items c.in-Ok.ensures.found

pub returns-in-Ok-place_among-clause-done : goal.returns-in-Ok-place_among-clause-done
returns-in-Ok-place_among-clause-done g c =
    let fits : FitsSigned w64 c.end_of-end.result = search rules in
    let start : FitsSigned w64 c.part_at.result.0.start = search rules in
    let end = open_end c.args.asked c.part_at.result.0.start c.end_of-end.result c.lead_of.result c.deref.result.now c.in-Ok.needed.pieces.items c.lead_of.ensures c.deref.ensures.value (simp to_z-of_z at c.end_of-end.ensures.end) in
    let counted = (simp to_z-of_z at c.open_cells-count.ensures.count) ∙ ap (λ end. cells c.args.cut.grid.now (milliseconds end)) end in
    told_with_both (g.S.Store.content c.args.store.now) _ _ _ c.in-Ok.ensures.told c.in-Ok.ensures.looks
    (λ known looks most. open_found known c.args.cut.edits c.args.cut.grid.now c.args.cut.align c.args.asked c.args.cut.timeline.now c.args.number c.args.wanted c.part_at.result.0 c.part_at.ensures.kept c.requires.declared c.part_at.ensures.part
    c.part_at.result.1.now c.part_at.ensures.pieces c.args.metas.now c.needed_of.new.metas (g.S.Store.log c.args.store.now) (g.S.Store.log c.needed_of.new.store) c.in-Ok.needed c.open_cells-count.result looks counted
    c.cells-cells.result (c.in-Ok-place_among.field-0-0, c.in-Ok-place_among.k) c.cell_plan.result c.args.steps.now c.needed_of.new.steps c.end_of-end.new.steps c.cell_plan.new.steps c.cells-cells.ensures
    c.in-Ok-place_among.ensures.part c.in-Ok-place_among.ensures.place c.cell_plan.ensures.answers most
    (end_steps c.args.asked looks.answered.0 c.in-Ok.needed.pieces.items c.deref.result.now c.lead_of.result c.needed_of.new.steps c.end_of-end.new.steps (all_sound known c.args.cut.edits c.args.asked _ looks.answered.0 looks.answered.1) looks.answered.2
    c.lead_of.ensures c.deref.ensures.value c.end_of-end.ensures.looks c.end_of-end.ensures.none)
    c.cell_plan.ensures.looks)

pub returns-in-Err-place_among-clause-done : goal.returns-in-Err-place_among-clause-done
returns-in-Err-place_among-clause-done g c =
    let fits : FitsSigned w64 c.end_of-end.result = search rules in
    let start : FitsSigned w64 c.part_at.result.0.start = search rules in
    let end = open_end c.args.asked c.part_at.result.0.start c.end_of-end.result c.lead_of.result c.deref.result.now c.in-Ok.needed.pieces.items c.lead_of.ensures c.deref.ensures.value (simp to_z-of_z at c.end_of-end.ensures.end) in
    let counted = (simp to_z-of_z at c.open_cells-count.ensures.count) ∙ ap (λ end. cells c.args.cut.grid.now (milliseconds end)) end in
    told_with_both (g.S.Store.content c.args.store.now) _ _ _ c.in-Ok.ensures.told c.in-Ok.ensures.looks
    (λ known looks most. open_unplaced known c.args.cut.edits c.args.cut.grid.now c.args.cut.align c.args.asked c.args.cut.timeline.now c.args.number c.args.wanted c.part_at.result.0 c.part_at.ensures.kept c.requires.declared c.part_at.ensures.part
    c.part_at.result.1.now c.part_at.ensures.pieces c.args.metas.now c.needed_of.new.metas (g.S.Store.log c.args.store.now) (g.S.Store.log c.needed_of.new.store) c.in-Ok.needed c.open_cells-count.result looks counted
    c.in-Err-place_among.refusal c.args.steps.now c.needed_of.new.steps c.end_of-end.new.steps c.in-Err-place_among.ensures.place most
    (end_steps c.args.asked looks.answered.0 c.in-Ok.needed.pieces.items c.deref.result.now c.lead_of.result c.needed_of.new.steps c.end_of-end.new.steps (all_sound known c.args.cut.edits c.args.asked _ looks.answered.0 looks.answered.1) looks.answered.2
    c.lead_of.ensures c.deref.ensures.value c.end_of-end.ensures.looks c.end_of-end.ensures.none))

pub cell_plan-requires-clause-of : goal.cell_plan-requires-clause-of
cell_plan-requires-clause-of g c =
    found_of_part c.args.asked c.args.cut.timeline.now c.part_at.result.0 c.part_at.result.1.now 0 c.in-Ok.needed.pieces.items c.part_at.ensures.kept c.part_at.ensures.pieces c.in-Ok.ensures.found

pub returns-in-Ok-place_among-clause-writable : goal.returns-in-Ok-place_among-clause-writable
returns-in-Ok-place_among-clause-writable g c =
    let ps = c.in-Ok.needed.pieces.items in
    stored_writable (form_of c.args.wanted) c.args.asked ps (g.S.Store.content c.needed_of.new.store) (g.S.Store.content c.args.store.now) c.cell_plan.result c.cell_plan.ensures.writable c.in-Ok.ensures.content
    (told_with_all (g.S.Store.content c.args.store.now) _ _ c.in-Ok.ensures.told
    (λ known looks. sizes_looked known c.args.cut.edits c.args.asked _ ps looks.answered))
