-- The row that is due in a walk over the rows of one piece.
use Rattle.std.proofs.Common.{◌≡◌, List, [], ◌∷◌, map, Some, All, sym, ap, ◌∙◌, subst}
use Rattle.std.specs.Prelude.{slice_get}
use Rattle.vod_types.specs.declared.segments.Form.TheVariants.{Fmp4}
use Rattle.vod_types.specs.declared.segments.Row.{Row}
use Rattle.vod_plan.specs.declared.spans.PlanPiece.{PlanPiece}
use Rattle.vod_plan.specs.Dues.{due_view}
use Rattle.vod_plan.specs.Passes.{rows_behind}
use Rattle.vod_plan.specs.Ranges.{planned_of}
use Rattle.vod_plan.specs.Spans.{piece_view, IsPlanPiece}
use Rattle.vod_plan.specs.Walks.{IsWalk}
use Rattle.vod_plan.proofs.PassLemmas.{one_behind}
use Rattle.vod_plan.proofs.RowsLeft.{all_alone, first_file}
use Rattle.vod_plan.proofs.piece_rows.next_row.Goals as goal

pub due_at-requires-clause-pieces : goal.due_at-requires-clause-pieces
due_at-requires-clause-pieces g c = subst (All IsPlanPiece) (sym c.from_ref.ensures.value) (all_alone c.args.piece.now c.requires.piece)

pub due_at-requires-clause-walk : goal.due_at-requires-clause-walk
due_at-requires-clause-walk g c = subst (λ (ps : List PlanPiece). IsWalk c.args.kind (map piece_view ps) c.args.walk) (sym c.from_ref.ensures.value) c.requires.walk

pub row_of-requires-clause-first : goal.row_of-requires-clause-first
row_of-requires-clause-first g c =
    first_file c.args.kind (piece_view c.args.piece.now) c.args.walk.given (due_view c.due_at.result.0)
    (subst (λ (ps : List PlanPiece). slice_get (planned_of c.args.kind (map piece_view ps)) c.args.walk.given ≡ Some (due_view c.due_at.result.0)) c.from_ref.ensures.value c.due_at.ensures.row)

pub returns-clause-row : goal.returns-clause-row
returns-clause-row g c =
    let p = c.args.piece.now in
    let at = subst (λ (ps : List PlanPiece). slice_get (planned_of c.args.kind (map piece_view ps)) c.args.walk.given ≡ Some (due_view c.due_at.result.0)) c.from_ref.ensures.value c.due_at.ensures.row in
    sym (one_behind c.args.kind (p ∷ []) (all_alone p c.requires.piece) Fmp4 c.args.walk c.due_at.result.1 c.due_at.result.0 at c.due_at.ensures.given)
    ∙ ap (λ (row : Row). row ∷ rows_behind Fmp4 c.args.kind (piece_view p ∷ []) c.due_at.result.1) (sym c.row_of.ensures)

pub returns-clause-walk : goal.returns-clause-walk
returns-clause-walk g c = subst (λ (ps : List PlanPiece). IsWalk c.args.kind (map piece_view ps) c.due_at.result.1) c.from_ref.ensures.value c.due_at.ensures.walk
