use Rattle.std.proofs.Common.{◌≤◌, ◌^◌, map, subst, sym, ap, ◌∙◌, rules, FitsSigned, w64}
use Rattle.std.proofs.lemmas.Int.{to_z-of_z}
use Rattle.segment_model.specs.Grid.{cells, milliseconds}
use Rattle.segment_model.specs.Timeline.{lead_end}
use Rattle.flat_samples.specs.Rows.{timed_view}
use Rattle.vod_source.proofs.CallLemmas.{told_with_all}
use Rattle.flat_segments.proofs.Counts.{count_low, one_low}
use Rattle.flat_segments.proofs.SegmentCalls.{needed_of_part, open_found, open_refused, open_unplaced, some_part}
use Rattle.flat_segments.proofs.segment.open_segment.Goals as goal

pub part_at-requires : goal.part_at-requires
part_at-requires g c = some_part c.args.cut.timeline.now c.requires.declared

pub returns-in-Err-clause-told : goal.returns-in-Err-clause-told
returns-in-Err-clause-told g c =
    told_with_all (g.S.Store.content c.args.files.now) _ _ c.in-Err.ensures.told
    (λ known looks. open_refused known c.args.cut.edits c.args.cut.grid.now c.args.cut.align c.args.asked c.args.cut.timeline.now c.args.number c.args.wanted c.part_at.result.0 c.part_at.ensures.kept c.requires.declared c.part_at.ensures.part
    c.part_at.result.1.now c.in-Err.refusal _ _ c.part_at.ensures.pieces looks)

pub place_among-requires-clause-bounded : goal.place_among-requires-clause-bounded
place_among-requires-clause-bounded g c =
    let fits : FitsSigned w64 c.part_at.result.0.start = search rules in
    let counted = c.cells-count.ensures ∙ ap (cells c.args.cut.grid.now)
    ((simp to_z-of_z at c.length_of.ensures) ∙ ap (λ rows. milliseconds (lead_end c.part_at.result.0.start (map timed_view rows))) c.deref.ensures.value) in
    one_low c.cells-count.result (subst (λ n. n ≤ 2 ^ 42) (sym counted) (count_low c.args.cut.grid.now c.part_at.result.0.start (map timed_view c.in-Ok.needed.rows.lead.items) c.part_at.ensures.start c.in-Ok.ensures.of.1.placed.lead))

pub cell_rows-requires-clause-of : goal.cell_rows-requires-clause-of
cell_rows-requires-clause-of g c =
    needed_of_part c.args.asked c.args.cut.timeline.now c.part_at.result.0 c.part_at.result.1.now 0 c.in-Ok.needed c.part_at.ensures.kept c.part_at.ensures.pieces c.in-Ok.ensures.of

pub returns-in-Ok-place_among-clause-told : goal.returns-in-Ok-place_among-clause-told
returns-in-Ok-place_among-clause-told g c =
    let fits : FitsSigned w64 c.part_at.result.0.start = search rules in
    let counted = c.cells-count.ensures ∙ ap (cells c.args.cut.grid.now)
    ((simp to_z-of_z at c.length_of.ensures) ∙ ap (λ rows. milliseconds (lead_end c.part_at.result.0.start (map timed_view rows))) c.deref.ensures.value) in
    told_with_all (g.S.Store.content c.args.files.now) _ _ c.in-Ok.ensures.told
    (λ known looks. open_found known c.args.cut.edits c.args.cut.grid.now c.args.cut.align c.args.asked c.args.cut.timeline.now c.args.number c.args.wanted c.part_at.result.0 c.part_at.ensures.kept c.requires.declared c.part_at.ensures.part
    c.part_at.result.1.now c.in-Ok.needed c.cells-count.result _ _ c.part_at.ensures.pieces looks counted c.cells.result (c.in-Ok-place_among.field-0-0, c.in-Ok-place_among.k) c.cell_rows.result c.cells.ensures
    c.in-Ok-place_among.ensures.part c.in-Ok-place_among.ensures.place c.cell_rows.ensures.answers)

pub returns-in-Err-place_among-clause-told : goal.returns-in-Err-place_among-clause-told
returns-in-Err-place_among-clause-told g c =
    let fits : FitsSigned w64 c.part_at.result.0.start = search rules in
    let counted = c.cells-count.ensures ∙ ap (cells c.args.cut.grid.now)
    ((simp to_z-of_z at c.length_of.ensures) ∙ ap (λ rows. milliseconds (lead_end c.part_at.result.0.start (map timed_view rows))) c.deref.ensures.value) in
    told_with_all (g.S.Store.content c.args.files.now) _ _ c.in-Ok.ensures.told
    (λ known looks. open_unplaced known c.args.cut.edits c.args.cut.grid.now c.args.cut.align c.args.asked c.args.cut.timeline.now c.args.number c.args.wanted c.part_at.result.0 c.part_at.ensures.kept c.requires.declared c.part_at.ensures.part
    c.part_at.result.1.now c.in-Ok.needed c.cells-count.result _ _ c.part_at.ensures.pieces looks counted c.in-Err-place_among.refusal c.in-Err-place_among.ensures.place)
