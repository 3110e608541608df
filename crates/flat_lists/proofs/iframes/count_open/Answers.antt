use Rattle.std.proofs.Common.{[], ◌∷◌, List, All, length, map, ap, sym, subst, ◌∙◌, FitsSigned, w64, rules}
use Rattle.std.proofs.lemmas.Int.{to_z-of_z}
use Rattle.segment_model.specs.Grid.{cells}
use Rattle.segment_model.specs.Listing.{ListedSegment}
use Rattle.segment_model.specs.Rows.{TimedRow}
use Rattle.flat_samples.specs.Rows.{timed_view, IsPlacedRow}
use Rattle.vod_source.proofs.CallLemmas.{told_with_all}
use Rattle.flat_lists.proofs.CountedIframes.{counted-no_memory}
use Rattle.flat_lists.proofs.ListedTimelines.{all_open, came_refused, came_late, count_small, one_count, open_counts, few_by, many_by}
use Rattle.flat_lists.proofs.iframes.count_open.Goals as goal

pub returns-in-Err-clause-told : goal.returns-in-Err-clause-told
returns-in-Err-clause-told g c =
    let cut = c.args.cut in
    told_with_all (g.S.Store.content c.args.files.now) _ _ c.in-Err.ensures.told (λ known looks.
    came_refused known cut.grid.now cut.align cut.edits c.args.asked cut.timeline.now (λ (rows : List ListedSegment). rows) _ _
    (all_open known cut.grid.now cut.align cut.edits c.args.asked cut.timeline.now c.requires.declared) c.in-Err.refusal looks)

pub few_cells-requires-clause-bounded : goal.few_cells-requires-clause-bounded
few_cells-requires-clause-bounded g c =
    let fits : FitsSigned w64 c.part_at.result.0.start = search rules in
    let count = c.cells.ensures ∙ ap (cells c.args.cut.grid.now) (simp to_z-of_z at c.length_of.ensures) in
    count_small c.args.cut.grid.now c.part_at.result.0.start (map timed_view c.deref.result.now) c.cells.result count c.part_at.ensures.start
    (subst (λ (rows : List TimedRow). All IsPlacedRow rows) (ap (map timed_view) (sym c.deref.ensures.value)) c.in-Ok.ensures.placed.lead)

pub returns-in-Err-few_cells-clause-told : goal.returns-in-Err-few_cells-clause-told
returns-in-Err-few_cells-clause-told g c =
    let fits : FitsSigned w64 c.part_at.result.0.start = search rules in
    let count = c.cells.ensures ∙ ap (cells c.args.cut.grid.now) (simp to_z-of_z at c.length_of.ensures) in
    let cut = c.args.cut in
    let t = cut.timeline.now in
    told_with_all (g.S.Store.content c.args.files.now) _ _ c.in-Ok.ensures.told (λ known looks.
    let counts = open_counts t c.part_at.result.0 c.part_at.ensures.kept c.requires.declared c.part_at.ensures.part known cut.grid.now cut.align cut.edits c.args.asked c.cells.result (map timed_view c.deref.result.now) _ _ c.in-Ok.needed looks
    count (ap (map timed_view) c.deref.ensures.value) in
    came_late known cut.grid.now cut.align cut.edits c.args.asked t (λ (rows : List ListedSegment). rows) _ _ (all_open known cut.grid.now cut.align cut.edits c.args.asked t c.requires.declared) c.in-Ok.needed looks
    c.in-Err-few_cells.refusal (many_by (c.cells.result ∷ []) _ _ counts c.in-Err-few_cells.ensures.many))

pub returns-in-Ok-from_slice-clause-told : goal.returns-in-Ok-from_slice-clause-told
returns-in-Ok-from_slice-clause-told g c =
    let fits : FitsSigned w64 c.part_at.result.0.start = search rules in
    let count = c.cells.ensures ∙ ap (cells c.args.cut.grid.now) (simp to_z-of_z at c.length_of.ensures) in
    let cut = c.args.cut in
    let t = cut.timeline.now in
    told_with_all (g.S.Store.content c.args.files.now) _ _ c.in-Ok.ensures.told (λ known looks.
    let counts = open_counts t c.part_at.result.0 c.part_at.ensures.kept c.requires.declared c.part_at.ensures.part known cut.grid.now cut.align cut.edits c.args.asked c.cells.result (map timed_view c.deref.result.now) _ _ c.in-Ok.needed looks
    count (ap (map timed_view) c.deref.ensures.value) in
    record {
      all = all_open known cut.grid.now cut.align cut.edits c.args.asked t c.requires.declared;
      counts_are = c.in-Ok-from_slice.ensures.items ∙ counts;
      few = few_by (c.cells.result ∷ []) _ counts c.in-Ok-few_cells.ensures.few;
      looks = looks;
    })

pub returns-in-Ok-from_slice-clause-many : goal.returns-in-Ok-from_slice-clause-many
returns-in-Ok-from_slice-clause-many g c =
    ap (λ (ns : List _). length ns) c.in-Ok-from_slice.ensures.items ∙ one_count c.args.cut.timeline.now c.part_at.result.0 c.part_at.ensures.kept c.requires.declared c.part_at.ensures.part c.cells.result

pub returns-in-Err-from_slice-clause-told : goal.returns-in-Err-from_slice-clause-told
returns-in-Err-from_slice-clause-told g c =
    let fits : FitsSigned w64 c.part_at.result.0.start = search rules in
    let count = c.cells.ensures ∙ ap (cells c.args.cut.grid.now) (simp to_z-of_z at c.length_of.ensures) in
    let cut = c.args.cut in
    let t = cut.timeline.now in
    told_with_all (g.S.Store.content c.args.files.now) _ _ c.in-Ok.ensures.told (λ known looks.
    let counts = open_counts t c.part_at.result.0 c.part_at.ensures.kept c.requires.declared c.part_at.ensures.part known cut.grid.now cut.align cut.edits c.args.asked c.cells.result (map timed_view c.deref.result.now) _ _ c.in-Ok.needed looks
    count (ap (map timed_view) c.deref.ensures.value) in
    counted-no_memory known cut.grid.now cut.align cut.edits c.args.asked t _ _ c.in-Ok.needed (c.cells.result ∷ []) (all_open known cut.grid.now cut.align cut.edits c.args.asked t c.requires.declared) looks
    (few_by (c.cells.result ∷ []) _ counts c.in-Ok-few_cells.ensures.few) counts)
