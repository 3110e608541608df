-- Where rows stand among those of all pieces, found piece by piece.
use Rattle.std.proofs.Common.{◌≡◌, ℕ, ◌+◌, ◌-◌, ◌<◌, ◌≤◌, Bool, List, [], ◌++◌, length, map, drop, get_or, ℤ, Option, Some, None, refl, sym, ap, ◌∙◌, arith, length-append}
use Rattle.std.specs.Prelude.{option_map, slice_get, IfSome}
use Rattle.std.specs.List.{position_or_len}
use Rattle.std.specs.Option.{option_map_or}
use Rattle.std.proofs.lemmas.List.{drop_all, length-map}
use Rattle.vod_types.specs.declared.tracks.Kind.{Kind}
use Rattle.segment_model.specs.Rows.{TimedRow}
use Rattle.vod_plan.specs.declared.spans.PlanPiece.{PlanPiece}
use Rattle.vod_plan.specs.Narrowed.{index_by, IsSound}
use Rattle.vod_plan.specs.Ranges.{RowRange, range_of, range_rows}
use Rattle.vod_plan.specs.Selected.{begins_by}
use Rattle.vod_plan.specs.Spans.{piece_view, rows_in, IsRange}
use Rattle.vod_plan.proofs.JoinLemmas.{get-within, get-past, position-within, position-past}
use Rattle.vod_plan.proofs.NarrowLemmas.{index_in_part}
use Rattle.vod_plan.proofs.RangeLemmas.{part, part_length, planned_from, row_at, row_of}
use Rattle.vod_plan.proofs.SoundLemmas.{good_part, view_item}

module _ (kind : Kind) where
  -- the rows from a piece on
  abbrev pub rest : ℕ → List PlanPiece → List TimedRow
  rest i ps = planned_from kind i (drop i (map piece_view ps))

  pub rest_end : (ps : List PlanPiece) (i : ℕ) → length ps ≤ i → rest i ps ≡ []
  rest_end ps i le = ap (planned_from kind i) (drop_all i (map piece_view ps) (omega (arith, le, length-map ps piece_view)))

  module _ (ps : List PlanPiece) (i : ℕ) (p : PlanPiece) (lt : i < length ps) (is : p ≡ get_or ps i p) (sound : IsSound p) where
    rest_step : rest i ps ≡ part kind i (piece_view p) ++ rest (i + 1) ps
    rest_step = ap (planned_from kind i) (view_item ps i p lt is)

    part_rows : length (part kind i (piece_view p)) ≡ rows_in kind (piece_view p)
    part_rows = part_length kind i (piece_view p) (good_part kind p sound)

    pub count_step : length (rest i ps) ≡ rows_in kind (piece_view p) + length (rest (i + 1) ps)
    count_step = ap length rest_step ∙ omega (arith, length-append (part kind i (piece_view p)) (rest (i + 1) ps), part_rows)

    -- ---- the first row that may begin

    module _ (align : Bool) (time : ℤ) (n : ℕ) (index : n ≡ index_by kind align time (piece_view p)) where
      in_part : position_or_len (begins_by align time) (part kind i (piece_view p)) ≡ n
      in_part = index_in_part kind align time i (piece_view p) ∙ sym index

      pub begins_here : n < rows_in kind (piece_view p) → position_or_len (begins_by align time) (rest i ps) ≡ n
      begins_here some =
          ap (position_or_len (begins_by align time)) rest_step
          ∙ position-within (begins_by align time) (part kind i (piece_view p)) (rest (i + 1) ps) (omega (arith, in_part, part_rows, some))
          ∙ in_part

      pub begins_later : n ≡ rows_in kind (piece_view p) → position_or_len (begins_by align time) (rest i ps) ≡ n + position_or_len (begins_by align time) (rest (i + 1) ps)
      begins_later none =
          ap (position_or_len (begins_by align time)) rest_step
          ∙ position-past (begins_by align time) (part kind i (piece_view p)) (rest (i + 1) ps) (omega (arith, in_part, part_rows, none))
          ∙ ap (λ (m : ℕ). m + position_or_len (begins_by align time) (rest (i + 1) ps)) (part_rows ∙ sym none)

    -- ---- the row of a place

    module _ (left : ℕ) where
      pub row_later : rows_in kind (piece_view p) ≤ left → slice_get (rest i ps) left ≡ slice_get (rest (i + 1) ps) (left - rows_in kind (piece_view p))
      row_later past =
          ap (λ (rows : List TimedRow). slice_get rows left) rest_step
          ∙ get-past (part kind i (piece_view p)) (rest (i + 1) ps) left (omega (arith, part_rows, past))
          ∙ ap (λ (n : ℕ). slice_get (rest (i + 1) ps) (left - n)) part_rows

      -- it is in this piece
      pub row_here : left < rows_in kind (piece_view p) → (r : RowRange) × (range_of kind (piece_view p) ≡ Some r) × (row : TimedRow) × (slice_get (range_rows kind i p.base r) left ≡ Some row) × (slice_get (rest i ps) left ≡ Some row)
      row_here some =
          let found = by_range (range_of kind (piece_view p)) (good_part kind p sound) some in
          (found.0, found.1, found.2, found.3, in_rest ∙ found.4)
        where
          in_rest : slice_get (rest i ps) left ≡ slice_get (part kind i (piece_view p)) left
          in_rest =
              ap (λ (rows : List TimedRow). slice_get rows left) rest_step
              ∙ get-within (part kind i (piece_view p)) (rest (i + 1) ps) left (omega (arith, part_rows, some))

          by_range : (o : Option RowRange) → IfSome o IsRange → left < option_map_or (λ (r : RowRange). r.to - r.from) o 0
              → (r : RowRange) × (o ≡ Some r) × (row : TimedRow) × (slice_get (range_rows kind i p.base r) left ≡ Some row) × (slice_get (option_map_or (range_rows kind i p.base) o []) left ≡ Some row)
          by_range None good less = absurd (omega arith)
          by_range (Some r) good less = let at = row_at kind i p.base r left good less in (r, refl, row_of kind i p.base r (r.from + left), at, at)

      pub time_here : (time : ℤ) → left < rows_in kind (piece_view p)
          → ((file : ℕ) (r : RowRange) (row : TimedRow) → range_of kind (piece_view p) ≡ Some r → slice_get (range_rows kind file p.base r) left ≡ Some row → time ≡ row.place)
          → Some time ≡ option_map (λ r. r.place) (slice_get (rest i ps) left)
      time_here time some found =
          let row = row_here some in
          ap Some (found i row.0 row.2 row.1 row.3) ∙ sym (ap (option_map (λ (r : TimedRow). r.place)) row.4)
