use Rattle.std.proofs.Common.{◌<◌, suc, length, slice_get, refl, ap, sym, ◌∙◌, arith}
use Rattle.std.proofs.lemmas.Option.{slice_get_read}
use Rattle.seq_cells.proofs.CellPlaces.{part-within}
use Rattle.seq_cells.proofs.parts.part_at.Goals as goal

pub slice_bounds-result-end : goal.slice_bounds-result-end
slice_bounds-result-end c =
    let parts = c.timeline.inside.parts in
    let pieces = c.timeline.inside.pieces in
    let lt : c.args.place < length parts.items = omega (arith, c.requires, ap (λ t. length t.parts) c.timeline.view_is) in
    let named = slice_get_read parts.items (length parts.items) c.args.place c.index-part.result.now refl lt c.index-part.ensures in
    omega (arith, part-within parts.items (length pieces.items) (suc c.args.place) c.index-part.result.now c.timeline.invariant.follow (sym named), pieces.ok.0, c.deref.ensures.len, ap (λ xs. length xs) c.deref.ensures.value)

pub returns-clause-part : goal.returns-clause-part
returns-clause-part c =
    let parts = c.timeline.inside.parts in
    let lt : c.args.place < length parts.items = omega (arith, c.requires, ap (λ t. length t.parts) c.timeline.view_is) in
    ap (λ t. slice_get t.parts c.args.place) (sym c.timeline.view_is) ∙ slice_get_read parts.items (length parts.items) c.args.place c.index-part.result.now refl lt c.index-part.ensures
