-- The configuration that the metadata of a piece have.
use Rattle.std.proofs.Common.{◌≡◌, List, [], length, Option, Some, None, refl, sym, ap, ◌∙◌}
use Rattle.std.specs.Prelude.{map, slice_get, option_and_then, option_map}
use Rattle.std.specs.Option.{option_map_or}
use Rattle.std.proofs.lemmas.Bool.{ltb-true, ltb-false}
use Rattle.std.proofs.lemmas.Option.{slice_get-map, slice_get_past, slice_get_read}
use Rattle.vod_plan.specs.declared.spans.PlanPiece.{PlanPiece}
use Rattle.vod_plan.specs.Planned.{Planned}
use Rattle.vod_plan.specs.Ranges.{PlannedPiece, RowRange, planned_config, range_of}
use Rattle.vod_plan.specs.Spans.{piece_view}
use Rattle.vod_plan.proofs.PlanLemmas.{config_is}
use Rattle.vod_plan.proofs.plan.PlanRows.config.Goals as goal

pub returns-in-Some : goal.returns-in-Some
returns-in-Some c =
    let items : List PlanPiece = c.deref.result.now in
    let kind = c.args.kind in
    let here : slice_get items c.args.file ≡ Some c.in-Some.piece.now = slice_get_read items (length items) c.args.file c.in-Some.piece.now refl (ltb-true c.args.file (length items) (sym c.in-Some.ensures.lookup.0)) c.in-Some.ensures.lookup.1 in
    let at = slice_get-map piece_view items c.args.file ∙ ap (option_map piece_view) here in
    c.config.ensures
    ∙ ap (λ (o : Option PlannedPiece). option_map_or (λ (r : RowRange). r.track.config) (option_and_then (range_of kind) o) []) (sym at)
    ∙ ap (λ (ps : List PlanPiece). planned_config (map piece_view ps) c.args.file kind) c.deref.ensures.value
    ∙ ap (λ (p : Planned). planned_config p.pieces c.args.file kind) c.self.view_is
    ∙ sym (config_is c.args.self.now c.args.file kind)

pub returns-in-None : goal.returns-in-None
returns-in-None c =
    let items : List PlanPiece = c.deref.result.now in
    let kind = c.args.kind in
    let none : slice_get items c.args.file ≡ None = slice_get_past items c.args.file (ltb-false c.args.file (length items) (sym c.in-None.ensures.lookup.0)) in
    let at = slice_get-map piece_view items c.args.file ∙ ap (option_map piece_view) none in
    ap (λ (o : Option PlannedPiece). option_map_or (λ (r : RowRange). r.track.config) (option_and_then (range_of kind) o) []) (sym at)
    ∙ ap (λ (ps : List PlanPiece). planned_config (map piece_view ps) c.args.file kind) c.deref.ensures.value
    ∙ ap (λ (p : Planned). planned_config p.pieces c.args.file kind) c.self.view_is
    ∙ sym (config_is c.args.self.now c.args.file kind)
