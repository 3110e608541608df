use Rattle.std.proofs.Common.{◌≡◌, List, ap, sym, ◌∙◌}
use Rattle.segment_model.specs.Listing.{ListedSegment}
use Rattle.flat_segments.specs.Planned.{declared_counts}
use Rattle.vod_source.proofs.CallLemmas.{told_all, told_with_all}
use Rattle.flat_lists.proofs.ListedTimelines.{came_many, came_refused, counts_by, declared_few, declared_many}
use Rattle.flat_lists.proofs.iframes.count_declared.Goals as goal

pub returns-in-Err-few_cells-clause-told : goal.returns-in-Err-few_cells-clause-told
returns-in-Err-few_cells-clause-told g c =
    let cut = c.args.cut in
    let t = cut.timeline.now in
    let counts : c.deref.result.now ≡ declared_counts cut.grid.now t.parts = c.deref.ensures.value ∙ c.in-Ok.ensures.counts ∙ ap (declared_counts cut.grid.now) c.parts_of.ensures.parts in
    told_all (g.S.Store.content c.args.files.now) _ (λ known.
    came_many known cut.grid.now cut.align cut.edits c.args.asked t (λ (rows : List ListedSegment). rows) (g.S.Store.log c.args.files.now) c.in-Err-few_cells.refusal
    (declared_many known cut.grid.now cut.align cut.edits c.args.asked t c.deref.result.now c.in-Err-few_cells.refusal c.requires.declared counts c.in-Err-few_cells.ensures.many))

pub returns-in-Ok-all_needed-clause-told : goal.returns-in-Ok-all_needed-clause-told
returns-in-Ok-all_needed-clause-told g c =
    let cut = c.args.cut in
    let t = cut.timeline.now in
    let made : c.in-Ok.counts.items ≡ declared_counts cut.grid.now t.parts = c.in-Ok.ensures.counts ∙ ap (declared_counts cut.grid.now) c.parts_of.ensures.parts in
    told_with_all (g.S.Store.content c.args.files.now) _ _ c.in-Ok-all_needed.ensures.told (λ known looks.
    let few = declared_few known cut.grid.now cut.align cut.edits c.args.asked t c.deref.result.now c.requires.declared (c.deref.ensures.value ∙ made) c.in-Ok-few_cells.ensures.few in
    record { all = few.1; counts_are = made ∙ sym (counts_by known cut.grid.now cut.align cut.edits c.args.asked t c.requires.declared); few = few.0; looks = looks })

pub returns-in-Err-all_needed-clause-told : goal.returns-in-Err-all_needed-clause-told
returns-in-Err-all_needed-clause-told g c =
    let cut = c.args.cut in
    let t = cut.timeline.now in
    let counts : c.deref.result.now ≡ declared_counts cut.grid.now t.parts = c.deref.ensures.value ∙ c.in-Ok.ensures.counts ∙ ap (declared_counts cut.grid.now) c.parts_of.ensures.parts in
    told_with_all (g.S.Store.content c.args.files.now) _ _ c.in-Err-all_needed.ensures.told (λ known looks.
    let few = declared_few known cut.grid.now cut.align cut.edits c.args.asked t c.deref.result.now c.requires.declared counts c.in-Ok-few_cells.ensures.few in
    came_refused known cut.grid.now cut.align cut.edits c.args.asked t (λ (rows : List ListedSegment). rows) _ _ few.1 c.in-Err-all_needed.refusal looks)
