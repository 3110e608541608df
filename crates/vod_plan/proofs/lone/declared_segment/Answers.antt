-- Where all lengths are declared.
use Rattle.std.proofs.Common.{◌<◌, length, drop, ap, ◌∙◌, arith, rules, FitsSigned, w64}
use Rattle.std.specs.List.{position_or_len}
use Rattle.std.proofs.lemmas.Int.{to_z-of_z}
use Rattle.vod_types.specs.declared.tracks.Kind.TheVariants.{Video, Audio}
use Rattle.seq_cells.specs.Cells.{piece_ends_after}
use Rattle.vod_source.proofs.CallLemmas.{told_all, told_with_all, told_with_both}
use Rattle.answer_laws.proofs.Due.{memory_may}
use Rattle.vod_plan.specs.Wanted.{form_of}
use Rattle.vod_plan.proofs.CellPlans.{found_few, kept_rows, typed_found}
use Rattle.vod_plan.proofs.SegmentLemmas.{done_nowhere, done_unbegun, stands_at, stands_found, stands_refused}
use Rattle.vod_plan.proofs.WritableCalls.{found_of_part, sizes_looked, stored_writable}
use Rattle.vod_plan.proofs.lone.declared_segment.Goals as goal

pub returns-in-Err-clause-done : goal.returns-in-Err-clause-done
returns-in-Err-clause-done g c =
    told_all (g.S.Store.content c.args.store.now) _
    (λ known. done_unbegun known c.args.cut.edits c.args.cut.grid.now c.args.cut.align c.args.asked c.args.cut.timeline.now c.args.number c.args.wanted c.in-Err.refusal c.args.metas.now (g.S.Store.log c.args.store.now) c.args.steps.now c.in-Err.ensures.only)

pub returns-in-Err-place_among-clause-done : goal.returns-in-Err-place_among-clause-done
returns-in-Err-place_among-clause-done g c =
    told_all (g.S.Store.content c.args.store.now) _
    (λ known. done_nowhere known c.args.cut.edits c.args.cut.grid.now c.args.cut.align c.args.asked c.args.cut.timeline.now c.args.number c.args.wanted c.deref.result.now c.in-Ok.counts.items c.parts_of.result.now
    c.in-Err-place_among.refusal c.args.metas.now (g.S.Store.log c.args.store.now) c.args.steps.now c.requires.declared c.deref.ensures.value c.in-Ok.ensures.counts c.parts_of.ensures.parts c.in-Err-place_among.ensures.place)

pub cell_plan-requires-clause-few : goal.cell_plan-requires-clause-few
cell_plan-requires-clause-few g c =
    found_few c.args.asked c.ending_after-pieces.result.now c.in-Ok-needed_of.needed.pieces.items c.in-Ok-needed_of.ensures.found (omega (arith, c.ending_after-pieces.ensures.few, c.part_at.ensures.few))

pub cell_plan-requires-clause-typed : goal.cell_plan-requires-clause-typed
cell_plan-requires-clause-typed g c = typed_found c.args.asked c.ending_after-pieces.result.now c.in-Ok-needed_of.needed.pieces.items c.in-Ok-needed_of.ensures.found c.in-Ok-needed_of.ensures.pieces

pub cell_plan-requires-clause-video : goal.cell_plan-requires-clause-video
cell_plan-requires-clause-video g c = kept_rows Video c.args.asked c.ending_after-pieces.result.now c.in-Ok-needed_of.needed.pieces.items c.in-Ok-needed_of.ensures.found

pub cell_plan-requires-clause-audio : goal.cell_plan-requires-clause-audio
cell_plan-requires-clause-audio g c = kept_rows Audio c.args.asked c.ending_after-pieces.result.now c.in-Ok-needed_of.needed.pieces.items c.in-Ok-needed_of.ensures.found

pub returns-in-Ok-needed_of-clause-done : goal.returns-in-Ok-needed_of-clause-done
returns-in-Ok-needed_of-clause-done g c =
    let fits : FitsSigned w64 c.time.result = search rules in
    let stands = stands_at c.args.cut.grid.now c.args.cut.align c.args.cut.timeline.now c.args.number c.deref.result.now c.in-Ok.counts.items c.parts_of.result.now c.in-Ok-place_among.place c.part_at.result.0
    c.part_at.result.1.now c.ending_after-pieces.result.now c.index.result.now c.cells-cells.result c.time.result c.next-next.result
    c.requires.declared c.deref.ensures.value c.in-Ok.ensures.counts c.parts_of.ensures.parts c.in-Ok-place_among.ensures.place c.part_at.ensures.part
    (let within : c.in-Ok-place_among.place.0 < length c.in-Ok.counts.items = omega (arith, c.in-Ok-place_among.ensures.part, ap (λ ns. length ns) c.deref.ensures.value) in within)
    c.index.ensures c.cells-cells.ensures c.part_at.ensures.pieces (simp to_z-of_z at c.ending_after-pieces.ensures.pieces) c.time.ensures.time c.next-next.ensures in
    told_with_both (g.S.Store.content c.args.store.now) _ _ _ c.in-Ok-needed_of.ensures.told c.in-Ok-needed_of.ensures.looks
    (λ known looks most. stands_found known c.args.cut.edits c.args.cut.grid.now c.args.cut.align c.args.asked c.args.cut.timeline.now c.args.number c.args.wanted c.cells-cells.result c.in-Ok-place_among.place.1
    c.ending_after-pieces.result.now c.next-next.result stands c.args.metas.now c.needed_of.new.metas (g.S.Store.log c.args.store.now) (g.S.Store.log c.needed_of.new.store)
    c.in-Ok-needed_of.needed c.cell_plan.result c.args.steps.now c.needed_of.new.steps c.cell_plan.new.steps looks c.cell_plan.ensures.answers most c.cell_plan.ensures.looks)

pub returns-clause-done : goal.returns-clause-done
returns-clause-done g c =
    let fits : FitsSigned w64 c.time.result = search rules in
    let stands = stands_at c.args.cut.grid.now c.args.cut.align c.args.cut.timeline.now c.args.number c.deref.result.now c.in-Ok.counts.items c.parts_of.result.now c.in-Ok-place_among.place c.part_at.result.0
    c.part_at.result.1.now c.ending_after-pieces.result.now c.index.result.now c.cells-cells.result c.time.result c.next-next.result
    c.requires.declared c.deref.ensures.value c.in-Ok.ensures.counts c.parts_of.ensures.parts c.in-Ok-place_among.ensures.place c.part_at.ensures.part
    (let within : c.in-Ok-place_among.place.0 < length c.in-Ok.counts.items = omega (arith, c.in-Ok-place_among.ensures.part, ap (λ ns. length ns) c.deref.ensures.value) in within)
    c.index.ensures c.cells-cells.ensures c.part_at.ensures.pieces (simp to_z-of_z at c.ending_after-pieces.ensures.pieces) c.time.ensures.time c.next-next.ensures in
    told_with_both (g.S.Store.content c.args.store.now) _ _ _ c.in-Err-needed_of.ensures.told c.in-Err-needed_of.ensures.looks
    (λ known looks most. stands_refused known c.args.cut.edits c.args.cut.grid.now c.args.cut.align c.args.asked c.args.cut.timeline.now c.args.number c.args.wanted c.cells-cells.result c.in-Ok-place_among.place.1
    c.ending_after-pieces.result.now c.next-next.result stands c.args.metas.now c.needed_of.new.metas (g.S.Store.log c.args.store.now) (g.S.Store.log c.needed_of.new.store)
    c.in-Err-needed_of.refusal c.args.steps.now c.needed_of.new.steps looks most)

pub cell_plan-requires-clause-of : goal.cell_plan-requires-clause-of
cell_plan-requires-clause-of g c =
    let fits : FitsSigned w64 c.time.result = search rules in
    found_of_part c.args.asked c.args.cut.timeline.now c.part_at.result.0 c.ending_after-pieces.result.now (position_or_len (piece_ends_after c.time.result) c.part_at.result.1.now) c.in-Ok-needed_of.needed.pieces.items c.part_at.ensures.kept
    ((simp to_z-of_z at c.ending_after-pieces.ensures.pieces) ∙ ap (drop (position_or_len (piece_ends_after c.time.result) c.part_at.result.1.now)) c.part_at.ensures.pieces) c.in-Ok-needed_of.ensures.found

pub returns-in-Ok-needed_of-clause-writable : goal.returns-in-Ok-needed_of-clause-writable
returns-in-Ok-needed_of-clause-writable g c =
    let ps = c.in-Ok-needed_of.needed.pieces.items in
    stored_writable (form_of c.args.wanted) c.args.asked ps (g.S.Store.content c.needed_of.new.store) (g.S.Store.content c.args.store.now) c.cell_plan.result c.cell_plan.ensures.writable c.in-Ok-needed_of.ensures.content
    (told_with_all (g.S.Store.content c.args.store.now) _ _ c.in-Ok-needed_of.ensures.told
    (λ known looks. sizes_looked known c.args.cut.edits c.args.asked _ ps looks.answered))

pub returns-in-Err-clause-refused : goal.returns-in-Err-clause-refused
returns-in-Err-clause-refused g c = memory_may c.in-Err.refusal c.in-Err.ensures.only
