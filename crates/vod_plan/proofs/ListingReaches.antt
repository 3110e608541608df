-- Searches among the rows of several pieces that go on from where an earlier one came.
use Rattle.std.proofs.Common.{◌≡◌, ℕ, zero, suc, ◌+◌, ◌*◌, ◌^◌, ◌<◌, ◌≤◌, Bool, true, false, cond, not, List, [], ◌∷◌, ◌++◌, length, map, drop, get_or, ℤ, Option, Some, None, refl, sym, ap, ap₂, ◌∙◌, arith, drop-drop}
use Rattle.std.specs.Prelude.{option_map, slice_get}
use Rattle.std.specs.List.{position_or_len}
use Rattle.std.proofs.Math.Seq.{drop-append_seam}
use Rattle.std.proofs.lemmas.List.{drop_all}
use Rattle.std.proofs.lemmas.Option.{same_Some}
use Rattle.vod_types.specs.declared.tracks.Kind.{Kind}
use Rattle.segment_model.specs.Rows.{TimedRow}
use Rattle.vod_plan.specs.declared.reach.Reach.{Reach}
use Rattle.vod_plan.specs.declared.spans.PlanPiece.{PlanPiece}
use Rattle.vod_plan.specs.ListingReach.{place_of, IsFront, IsReached}
use Rattle.vod_plan.specs.Narrowed.{IsSound}
use Rattle.vod_plan.specs.Ranges.{RowRange, planned_of, range_of, range_rows}
use Rattle.vod_plan.specs.Selected.{begins_by}
use Rattle.vod_plan.specs.Spans.{piece_view, rows_in}
use Rattle.vod_plan.proofs.PlaceLemmas.{rest, rest_end, time_here}
use Rattle.vod_plan.proofs.RangeLemmas.{part, part_length, planned_from}
use Rattle.vod_plan.proofs.SoundLemmas.{good_part, view_item}

-- ---- searches from an earlier place on

pub skip_first : {X : Type 0} (p : X → Bool) (n : ℕ) (xs : List X) → n ≤ position_or_len p xs → n + position_or_len p (drop n xs) ≡ position_or_len p xs
skip_first p zero xs le = omega arith
skip_first p (suc n) [] le = absurd (omega arith)
skip_first p (suc n) (x ∷ xs) le = step (p x) (position_or_len p xs) (position_or_len p (drop n xs)) (skip_first p n xs) le
  where
    step : (b : Bool) (all later : ℕ) → (n ≤ all → n + later ≡ all) → suc n ≤ cond (not b) (1 + all) 0 → suc n + later ≡ cond (not b) (1 + all) 0
    step true all later h le = absurd (omega arith)
    step false all later h le = omega (arith, h (omega arith))

get_drop : {X : Type 0} (n i : ℕ) (xs : List X) → slice_get (drop n xs) i ≡ slice_get xs (n + i)
get_drop zero i xs = ap (slice_get xs) (let e : i ≡ 0 + i = omega arith in e)
get_drop (suc n) i [] = refl
get_drop (suc n) i (x ∷ xs) = get_drop n i xs ∙ ap (slice_get (x ∷ xs)) (let e : suc (n + i) ≡ suc n + i = omega arith in e)

module _ (kind : Kind) (ps : List PlanPiece) where
  abbrev all_rows : List TimedRow
  all_rows = planned_of kind (map piece_view ps)

  -- a row that may begin isn't found before a piece, if it isn't before an earlier one
  abbrev pub IsSearch : Bool → ℤ → ℕ → ℕ → ℕ → Type 0
  IsSearch align time earlier before i = earlier ≤ position_or_len (begins_by align time) all_rows
      → before + position_or_len (begins_by align time) (rest kind i ps) ≡ position_or_len (begins_by align time) all_rows

  -- the first rows are passed already
  pub search_begin : (align : Bool) (time : ℤ) (r : Reach) → IsFront kind ps r → IsSearch align time r.before r.before r.piece
  search_begin align time r front le =
      ap (λ (rows : List TimedRow). r.before + position_or_len (begins_by align time) rows) front.before ∙ skip_first (begins_by align time) r.before all_rows le

  module _ (i : ℕ) (p : PlanPiece) (lt : i < length ps) (is : p ≡ get_or ps i p) (sound : IsSound p) where
    pub behind_next : (n : ℕ) → rest kind i ps ≡ drop n all_rows → rest kind (i + 1) ps ≡ drop (n + rows_in kind (piece_view p)) all_rows
    behind_next n before =
        let step : rest kind i ps ≡ part kind i (piece_view p) ++ rest kind (i + 1) ps = ap (planned_from kind i) (view_item ps i p lt is) in
        sym (drop-append_seam (part kind i (piece_view p)) (rest kind (i + 1) ps))
        ∙ ap₂ (λ (m : ℕ) (rows : List TimedRow). drop m rows) (part_length kind i (piece_view p) (good_part kind p sound)) (sym step)
        ∙ ap (drop (rows_in kind (piece_view p))) before
        ∙ drop-drop (rows_in kind (piece_view p)) n all_rows

    -- the row of an index of this piece is reached
    pub reached_here : (r : Reach) → r.piece ≡ i → IsFront kind ps r → r.index < rows_in kind (piece_view p) → slice_get ps i ≡ Some p → IsReached kind ps r
    reached_here r at front some found = record {
      front = front;
      row = λ q here.
          let same : p ≡ q = same_Some p q (sym found ∙ ap (slice_get ps) (sym at) ∙ here) in
          (let e = ap (λ (q : PlanPiece). rows_in kind (piece_view q)) same in omega (arith, e, some));
    }

    pub time_reached : (r : Reach) (time : ℤ) → r.piece ≡ i → IsFront kind ps r → r.index < rows_in kind (piece_view p)
        → ((file : ℕ) (q : RowRange) (row : TimedRow) → range_of kind (piece_view p) ≡ Some q → slice_get (range_rows kind file p.base q) r.index ≡ Some row → time ≡ row.place)
        → Some time ≡ option_map (λ r. r.place) (slice_get all_rows (place_of r))
    time_reached r time at front some found =
        time_here kind ps i p lt is sound r.index time some found
        ∙ ap (λ (o : Option TimedRow). option_map (λ (r : TimedRow). r.place) o)
        (ap (λ (j : ℕ). slice_get (rest kind j ps) r.index) (sym at) ∙ ap (λ (rows : List TimedRow). slice_get rows r.index) front.before ∙ get_drop r.before r.index all_rows)

  -- behind the last piece no row is left
  pub time_behind : (r : Reach) → length ps ≤ r.piece → IsFront kind ps r → None ≡ option_map (λ r. r.place) (slice_get all_rows (place_of r))
  time_behind r past front =
      ap (λ (rows : List TimedRow). option_map (λ (r : TimedRow). r.place) (slice_get rows r.index)) (sym (rest_end kind ps r.piece past) ∙ front.before)
      ∙ ap (option_map (λ (r : TimedRow). r.place)) (get_drop r.before r.index all_rows)

  pub reached_behind : (r : Reach) → length ps ≤ r.piece → IsFront kind ps r → IsReached kind ps r
  reached_behind r past front = record {
    front = front;
    row = λ q here. absurd (none ps r.piece past here);
  }
    where
      none : (ps : List PlanPiece) (i : ℕ) {q : PlanPiece} → length ps ≤ i → slice_get ps i ≡ Some q → ⊥
      none [] i le e = cc
      none (p ∷ ps) zero le e = omega arith
      none (p ∷ ps) (suc i) le e = none ps i (omega arith) e

  pub end_reached : (n : ℕ) → n ≤ length ps * 2 ^ 32 → n ≡ length all_rows → IsReached kind ps (record { piece = length ps; before = n; index = 0 })
  end_reached n small count =
      reached_behind (record { piece = length ps; before = n; index = 0 }) (omega arith)
      (record {
        piece = omega arith;
        before = rest_end kind ps (length ps) (omega arith) ∙ sym (drop_all n all_rows (omega (arith, count)));
        small = small;
      })
