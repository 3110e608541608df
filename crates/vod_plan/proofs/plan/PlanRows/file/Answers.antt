-- The name that the metadata of a piece have.
use Rattle.std.proofs.Common.{◌≡◌, List, [], length, Option, Some, None, refl, sym, ap, ◌∙◌}
use Rattle.std.specs.Prelude.{map, slice_get, option_map}
use Rattle.std.specs.Option.{option_map_or}
use Rattle.std.proofs.lemmas.Bool.{ltb-true, ltb-false}
use Rattle.std.proofs.lemmas.Option.{slice_get-map, slice_get_past, slice_get_read}
use Rattle.vod_meta.specs.Held.{HeldMovie}
use Rattle.vod_plan.specs.declared.spans.PlanPiece.{PlanPiece}
use Rattle.vod_plan.specs.Planned.{Planned}
use Rattle.vod_plan.specs.Ranges.{PlannedPiece, planned_name}
use Rattle.vod_plan.specs.Spans.{piece_view}
use Rattle.vod_plan.proofs.PlanLemmas.{name_is}
use Rattle.vod_plan.proofs.plan.PlanRows.file.Goals as goal

pub returns-in-Some : goal.returns-in-Some
returns-in-Some c =
    let items : List PlanPiece = c.deref.result.now in
    let here : slice_get items c.args.file ≡ Some c.in-Some.piece.now = slice_get_read items (length items) c.args.file c.in-Some.piece.now refl (ltb-true c.args.file (length items) (sym c.in-Some.ensures.lookup.0)) c.in-Some.ensures.lookup.1 in
    let at = slice_get-map piece_view items c.args.file ∙ ap (option_map piece_view) here in
    c.name.ensures
    ∙ ap (λ (m : HeldMovie). m.name) c.deref-in-Some.ensures
    ∙ ap (λ (o : Option PlannedPiece). option_map_or (λ (p : PlannedPiece). p.name) o []) (sym at)
    ∙ ap (λ (ps : List PlanPiece). planned_name (map piece_view ps) c.args.file) c.deref.ensures.value
    ∙ ap (λ (p : Planned). planned_name p.pieces c.args.file) c.self.view_is
    ∙ sym (name_is c.args.self.now c.args.file)

pub returns-in-None : goal.returns-in-None
returns-in-None c =
    let items : List PlanPiece = c.deref.result.now in
    let none : slice_get items c.args.file ≡ None = slice_get_past items c.args.file (ltb-false c.args.file (length items) (sym c.in-None.ensures.lookup.0)) in
    let at = slice_get-map piece_view items c.args.file ∙ ap (option_map piece_view) none in
    ap (λ (o : Option PlannedPiece). option_map_or (λ (p : PlannedPiece). p.name) o []) (sym at)
    ∙ ap (λ (ps : List PlanPiece). planned_name (map piece_view ps) c.args.file) c.deref.ensures.value
    ∙ ap (λ (p : Planned). planned_name p.pieces c.args.file) c.self.view_is
    ∙ sym (name_is c.args.self.now c.args.file)
