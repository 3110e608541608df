-- The rows of a kind of one piece are all of its file.
use Rattle.std.proofs.Common.{◌≡◌, ℕ, List, [], ◌∷◌, get_or, length, Option, Some, None, All, refl, sym, ap, ◌∙◌, subst, arith, append-nil}
use Rattle.std.specs.Prelude.{slice_get, unwrap_or}
use Rattle.std.specs.Option.{option_map_or}
use Rattle.std.proofs.lemmas.List.Elements.{All-cons, All-map, All-nil}
use Rattle.std.proofs.lemmas.List.Sums.{sum_by-cons}
use Rattle.std.proofs.lemmas.Option.{slice_get_within, unwrap_or-slice_get}
use Rattle.vod_types.specs.declared.tracks.Kind.{Kind}
use Rattle.segment_model.specs.Numbered.{rows_between}
use Rattle.segment_model.specs.Rows.{TimedRow}
use Rattle.segment_model.specs.Timeline.{placed}
use Rattle.origin_model.specs.Sources.{source_track}
use Rattle.vod_plan.specs.declared.spans.PlanPiece.{PlanPiece}
use Rattle.vod_plan.specs.Needed.{piece_rows}
use Rattle.vod_plan.specs.Ranges.{PlannedPiece, RowRange, planned_of, range_of, range_rows}
use Rattle.vod_plan.specs.Spans.{rows_before, rows_in, IsPlanPiece}

abbrev AreFirst : List TimedRow → Type 0
AreFirst rows = All (λ r. r.file ≡ 0) rows

pub all_alone : (p : PlanPiece) → IsPlanPiece p → All IsPlanPiece (p ∷ [])
all_alone p is = All-cons IsPlanPiece p [] is (All-nil IsPlanPiece)

module _ (kind : Kind) (p : PlannedPiece) where
  pub alone : planned_of kind (p ∷ []) ≡ piece_rows kind 0 p
  alone = append-nil (piece_rows kind 0 p)

  pub count_alone : rows_in kind p ≡ rows_before kind (p ∷ []) (length (p ∷ []))
  count_alone = omega (arith, sum_by-cons (rows_in kind) p [])

  all_first : AreFirst (planned_of kind (p ∷ []))
  all_first = subst AreFirst (sym alone) (by (range_of kind p))
    where
      by : (o : Option RowRange) → AreFirst (option_map_or (range_rows kind 0 p.base) o [])
      by None = All-nil (λ r. r.file ≡ 0)
      by (Some r) = All-map (λ r. r.file ≡ 0) (placed 0 p.base) (rows_between (source_track kind r.edit (Some r.track)) r.from r.to) (λ i d within. refl)

  pub first_file : (i : ℕ) (row : TimedRow) → slice_get (planned_of kind (p ∷ [])) i ≡ Some row → row.file ≡ 0
  first_file i row at =
      let rows : List TimedRow = planned_of kind (p ∷ []) in
      let got : get_or rows i row ≡ row = sym (unwrap_or-slice_get rows i row) ∙ ap (λ (o : Option TimedRow). unwrap_or o row) at in
      subst (λ (r : TimedRow). r.file ≡ 0) got (all_first i row (slice_get_within rows i row at))
