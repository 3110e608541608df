-- The row of a walk is the next one of its kind.
use Rattle.std.proofs.Common.{◌≡◌, ◌+◌, List, map, sym, ap, subst, ◌∙◌, arith}
use Rattle.std.specs.Prelude.{slice_get}
use Rattle.vod_types.specs.SegmentRows.{rows_of}
use Rattle.segment_model.specs.Rows.{written_row}
use Rattle.vod_plan.specs.Planned.{Planned, plan_rows}
use Rattle.vod_plan.specs.Ranges.{PlannedPiece, planned_of}
use Rattle.vod_plan.specs.Spans.{piece_view}
use Rattle.vod_plan.specs.Walks.{IsWalk}
use Rattle.vod_plan.proofs.PlanLemmas.{rows_are}
use Rattle.vod_plan.proofs.plan.Plan.step.Goals as goal

pieces_are : (c : goal.After-stepped) → map piece_view c.deref.result.now ≡ c.args.self.now.pieces
pieces_are c = ap (map piece_view) c.deref.ensures.value ∙ ap (λ (p : Planned). p.pieces) c.self.view_is

pub stepped-requires-clause-walk : goal.stepped-requires-clause-walk
stepped-requires-clause-walk c =
    let pieces = ap (map piece_view) c.deref.ensures.value ∙ ap (λ (p : Planned). p.pieces) c.self.view_is in
    subst (λ (ps : List PlannedPiece). IsWalk c.args.kind ps c.walk-walk.result) (sym pieces) c.walk-walk.ensures.walk

pub stepped-requires-clause-left : goal.stepped-requires-clause-left
stepped-requires-clause-left c = let differs = c.if-walk.false in let most = c.walk-walk.ensures.walk.given in omega (arith, differs, most)

pub returns : goal.returns
returns c =
    let k = c.args.kind in
    let form = ap (λ (p : Planned). p.form) c.self.view_is in (
      ap (λ n. slice_get (rows_of k (plan_rows c.args.self.now)) n) (sym c.walk-walk.ensures.given)
          ∙ ap (λ rows. slice_get rows c.walk-walk.result.given) (rows_are k c.args.self.now)
          ∙ ap (λ f. slice_get (map (written_row f) (planned_of k c.args.self.now.pieces)) c.walk-walk.result.given) (sym form)
          ∙ ap (λ ps. slice_get (map (written_row c.self.inside.form) (planned_of k ps)) c.walk-walk.result.given) (sym (pieces_are c))
          ∙ c.stepped.ensures.row,
      subst (λ (ps : List PlannedPiece). IsWalk k ps c.stepped.result.1) (pieces_are c) c.stepped.ensures.walk,
      c.stepped.ensures.given ∙ ap (λ n. n + 1) c.walk-walk.ensures.given,
    )
