use Rattle.std.proofs.Common.{◌≤◌, ◌<◌, ◌^◌, All, drop, length, subst, sym, ap, ◌∙◌, arith, rules, FitsSigned, w64}
use Rattle.std.proofs.lemmas.Int.{to_z-of_z}
use Rattle.std.specs.List.{position_or_len}
use Rattle.flat_segments.specs.Planned.{piece_ends_after}
use Rattle.vod_source.proofs.CallLemmas.{told_all, told_with_all}
use Rattle.flat_segments.proofs.SegmentCalls.{came_unread, needed_of_part, none_among, stands_at, stands_found, stands_refused}
use Rattle.flat_segments.proofs.segment.declared_segment.Goals as goal

pub place_among-requires-clause-few : goal.place_among-requires-clause-few
place_among-requires-clause-few g c =
    let parts = ap (λ ps. length ps) c.parts_of.ensures.parts in
    let shown = ap (λ ns. length ns) c.deref.ensures.value in
    omega (arith, shown, parts, c.in-Ok.ensures.many, c.parts_of.ensures.kept.part_count)

pub place_among-requires-clause-bounded : goal.place_among-requires-clause-bounded
place_among-requires-clause-bounded g c = subst (All (λ count. count ≤ 2 ^ 42)) (sym c.deref.ensures.value) c.in-Ok.ensures.bounded

pub part_at-requires : goal.part_at-requires
part_at-requires g c =
    let parts = ap (λ ps. length ps) c.parts_of.ensures.parts in
    let shown = ap (λ ns. length ns) c.deref.ensures.value in
    omega (arith, shown, parts, c.in-Ok.ensures.many, c.in-Ok-place_among.ensures.part)

pub returns-in-Err-place_among-clause-told : goal.returns-in-Err-place_among-clause-told
returns-in-Err-place_among-clause-told g c =
    told_all (g.S.Store.content c.args.files.now) _
    (λ known. came_unread known c.args.cut.edits c.args.cut.grid.now c.args.cut.align c.args.asked c.args.cut.timeline.now c.args.number c.args.wanted c.in-Err-place_among.refusal _ c.requires.declared
    (none_among known c.args.cut.edits c.args.cut.grid.now c.args.cut.align c.args.asked c.args.cut.timeline.now c.args.number c.args.wanted c.deref.result.now c.in-Ok.counts.items c.parts_of.result.now c.in-Err-place_among.refusal
    c.requires.declared c.deref.ensures.value c.in-Ok.ensures.counts c.parts_of.ensures.parts c.in-Err-place_among.ensures.place))

pub cell_rows-requires-clause-of : goal.cell_rows-requires-clause-of
cell_rows-requires-clause-of g c =
    let fits : FitsSigned w64 c.time.result = search rules in
    needed_of_part c.args.asked c.args.cut.timeline.now c.part_at.result.0 c.ending_after-pieces.result.now (position_or_len (piece_ends_after c.time.result) c.part_at.result.1.now) c.in-Ok-needed_of.needed c.part_at.ensures.kept ((simp to_z-of_z at c.ending_after-pieces.ensures.pieces) ∙ ap (drop (position_or_len (piece_ends_after c.time.result) c.part_at.result.1.now)) c.part_at.ensures.pieces) c.in-Ok-needed_of.ensures.of

pub returns-in-Ok-needed_of-clause-told : goal.returns-in-Ok-needed_of-clause-told
returns-in-Ok-needed_of-clause-told g c =
    let fits : FitsSigned w64 c.time.result = search rules in
    let stands = stands_at c.args.cut.grid.now c.args.cut.align c.args.cut.timeline.now c.args.number c.deref.result.now c.in-Ok.counts.items c.parts_of.result.now c.in-Ok-place_among.place c.part_at.result.0
    c.part_at.result.1.now c.ending_after-pieces.result.now c.index.result.now c.cells-cells.result c.time.result c.next_cell.result
    c.requires.declared c.deref.ensures.value c.in-Ok.ensures.counts c.parts_of.ensures.parts c.in-Ok-place_among.ensures.place c.part_at.ensures.part
    (let within : c.in-Ok-place_among.place.0 < length c.in-Ok.counts.items = omega (arith, c.in-Ok-place_among.ensures.part, ap (λ ns. length ns) c.deref.ensures.value) in within)
    c.index.ensures c.cells-cells.ensures c.part_at.ensures.pieces (simp to_z-of_z at c.ending_after-pieces.ensures.pieces) c.time.ensures c.next_cell.ensures in
    told_with_all (g.S.Store.content c.args.files.now) _ _ c.in-Ok-needed_of.ensures.told
    (λ known looks. stands_found known c.args.cut.edits c.args.cut.grid.now c.args.cut.align c.args.asked c.args.cut.timeline.now c.args.number c.args.wanted c.cells-cells.result c.in-Ok-place_among.place.1 c.ending_after-pieces.result.now c.next_cell.result stands _ _
    c.in-Ok-needed_of.needed c.cell_rows.result looks c.cell_rows.ensures.answers)

pub returns-clause-told : goal.returns-clause-told
returns-clause-told g c =
    let fits : FitsSigned w64 c.time.result = search rules in
    let stands = stands_at c.args.cut.grid.now c.args.cut.align c.args.cut.timeline.now c.args.number c.deref.result.now c.in-Ok.counts.items c.parts_of.result.now c.in-Ok-place_among.place c.part_at.result.0
    c.part_at.result.1.now c.ending_after-pieces.result.now c.index.result.now c.cells-cells.result c.time.result c.next_cell.result
    c.requires.declared c.deref.ensures.value c.in-Ok.ensures.counts c.parts_of.ensures.parts c.in-Ok-place_among.ensures.place c.part_at.ensures.part
    (let within : c.in-Ok-place_among.place.0 < length c.in-Ok.counts.items = omega (arith, c.in-Ok-place_among.ensures.part, ap (λ ns. length ns) c.deref.ensures.value) in within)
    c.index.ensures c.cells-cells.ensures c.part_at.ensures.pieces (simp to_z-of_z at c.ending_after-pieces.ensures.pieces) c.time.ensures c.next_cell.ensures in
    told_with_all (g.S.Store.content c.args.files.now) _ _ c.in-Err-needed_of.ensures.told
    (λ known looks. stands_refused known c.args.cut.edits c.args.cut.grid.now c.args.cut.align c.args.asked c.args.cut.timeline.now c.args.number c.args.wanted c.cells-cells.result c.in-Ok-place_among.place.1 c.ending_after-pieces.result.now c.next_cell.result stands _ _
    c.in-Err-needed_of.refusal looks)
