-- The rows of a plan one by one, by the ranges of its pieces.
use Rattle.std.proofs.Common.{◌≡◌, ℕ, zero, suc, ◌+◌, ◌-◌, ◌<◌, ◌≤◌, ◌^◌, List, [], ◌∷◌, ◌++◌, length, map, take, get_or, ℤ, Option, Some, None, refl, sym, ap, ap₂, subst, ◌∙◌, arith, length-append}
use Rattle.std.specs.Prelude.{flat_map, slice_get, option_map, unwrap_or, IfSome, All}
use Rattle.std.specs.List.{enumerate_from, range_with_len, AllByRecursion}
use Rattle.std.specs.Option.{option_map_or}
use Rattle.std.proofs.lemmas.List.{length-map, length-take-le}
use Rattle.std.proofs.lemmas.List.Elements.{All-head, All-tail}
use Rattle.std.proofs.lemmas.List.FromFn.{length-range_with_len}
use Rattle.std.proofs.lemmas.List.Sums.{sum_by-cons}
use Rattle.std.proofs.lemmas.Option.{slice_get-map, slice_get_within, unwrap_or-slice_get}
use Rattle.vod_types.specs.declared.tracks.Kind.{Kind}
use Rattle.mp4_model.specs.Samples.{flat_row, sample_count}
use Rattle.segment_model.specs.Rows.{SourceTrack, TimedRow, timed_row}
use Rattle.segment_model.specs.Timeline.{placed}
use Rattle.segment_model.proofs.RowNumbers.{IsOfTables, number_row, rows_between_are}
use Rattle.origin_model.specs.Sources.{source_track}
use Rattle.vod_plan.specs.declared.spans.PlanPiece.{PlanPiece}
use Rattle.vod_plan.specs.Ranges.{PlannedPiece, RowRange, planned_of, range_of, range_rows}
use Rattle.vod_plan.specs.Spans.{piece_view, rows_before, rows_in, IsPlanPiece, IsRange}
use Rattle.vod_plan.specs.Walks.{FitsFile}
use Rattle.vod_plan.proofs.SpotLemmas.{good_range}

-- ---- elements of lists

get-left : {X : Type 0} (xs ys : List X) (i : ℕ) → i < length xs → slice_get (xs ++ ys) i ≡ slice_get xs i
get-left [] ys i h = absurd (omega arith)
get-left (x ∷ xs) ys zero h = refl
get-left (x ∷ xs) ys (suc i) h = get-left xs ys i (omega arith)

get-right : {X : Type 0} (xs ys : List X) (i : ℕ) → slice_get (xs ++ ys) (length xs + i) ≡ slice_get ys i
get-right [] ys i = ap (slice_get ys) (let e : 0 + i ≡ i = omega arith in e)
get-right (x ∷ xs) ys i = ap (slice_get (x ∷ (xs ++ ys))) (let e : suc (length xs) + i ≡ suc (length xs + i) = omega arith in e) ∙ get-right xs ys i

pub taken : (n a m j : ℕ) → j < n → j < m → slice_get (take n (range_with_len a m)) j ≡ Some (a + j)
taken zero a m j h k = absurd (omega arith)
taken (suc n) a zero j h k = absurd (omega arith)
taken (suc n) a (suc m) zero h k = ap Some (let e : a ≡ a + 0 = omega arith in e)
taken (suc n) a (suc m) (suc j) h k = taken n (a + 1) m j (omega arith) (omega arith) ∙ ap Some (let e : a + 1 + j ≡ a + suc j = omega arith in e)

module _ (kind : Kind) where
  -- ---- the rows of one piece

  abbrev pub part : ℕ → PlannedPiece → List TimedRow
  part file p = option_map_or (range_rows kind file p.base) (range_of kind p) []

  abbrev pub source : RowRange → SourceTrack
  source r = source_track kind r.edit (Some r.track)

  abbrev pub row_of : ℕ → ℤ → RowRange → ℕ → TimedRow
  row_of file base r i = placed file base (timed_row (source r) (i, flat_row r.track.tables i))

  pub of_tables : (r : RowRange) → IsRange r → IsOfTables (source r) r.track.tables
  of_tables r is = record { rows = refl; timescale = is.usable.timescale }

  unfoldable pub numbers : RowRange → List ℕ
  numbers r = take (r.to - r.from) (range_with_len r.from (sample_count r.track.tables - r.from))

  pub rows_are : (file : ℕ) (base : ℤ) (r : RowRange) → IsRange r → range_rows kind file base r ≡ map (placed file base) (map (number_row (source r) r.track.tables) (numbers r))
  unfolding numbers
  rows_are file base r is = ap (map (placed file base)) (rows_between_are (source r) r.track.tables r.from r.to (of_tables r is))

  pub rows_length : (file : ℕ) (base : ℤ) (r : RowRange) → IsRange r → length (range_rows kind file base r) ≡ r.to - r.from
  unfolding numbers
  rows_length file base r is =
      let all : List ℕ = range_with_len r.from (sample_count r.track.tables - r.from) in
      ap length (rows_are file base r is)
      ∙ length-map (map (number_row (source r) r.track.tables) (numbers r)) (placed file base)
      ∙ length-map (numbers r) (number_row (source r) r.track.tables)
      ∙ length-take-le (r.to - r.from) all (omega (arith, length-range_with_len r.from (sample_count r.track.tables - r.from), is.to))

  pub row_at : (file : ℕ) (base : ℤ) (r : RowRange) (j : ℕ) → IsRange r → j < r.to - r.from → slice_get (range_rows kind file base r) j ≡ Some (row_of file base r (r.from + j))
  unfolding numbers
  row_at file base r j is h =
      ap (λ (xs : List TimedRow). slice_get xs j) (rows_are file base r is)
      ∙ slice_get-map (placed file base) (map (number_row (source r) r.track.tables) (numbers r)) j
      ∙ ap (option_map (placed file base)) (slice_get-map (number_row (source r) r.track.tables) (numbers r) j)
      ∙ ap (λ (o : Option ℕ). option_map (placed file base) (option_map (number_row (source r) r.track.tables) o)) (taken (r.to - r.from) r.from (sample_count r.track.tables - r.from) j h (omega (arith, is.to)))

  -- ---- those of all pieces

  abbrev pub IsGood : PlannedPiece → Type 0
  IsGood p = IfSome (range_of kind p) IsRange

  pub part_length : (file : ℕ) (p : PlannedPiece) → IsGood p → length (part file p) ≡ rows_in kind p
  part_length file p good = go (range_of kind p) good
    where
      go : (o : Option RowRange) → IfSome o IsRange → length (option_map_or (range_rows kind file p.base) o []) ≡ option_map_or (λ (r : RowRange). r.to - r.from) o 0
      go None good = refl
      go (Some r) good = rows_length file p.base r good

  abbrev pub planned_from : ℕ → List PlannedPiece → List TimedRow
  planned_from a pieces = flat_map (λ (e : ℕ × PlannedPiece). part e.0 e.1) (enumerate_from a pieces)

  planned_at : (a : ℕ) (pieces : List PlannedPiece) (k : ℕ) (p : PlannedPiece) (j : ℕ) → AllByRecursion IsGood pieces → slice_get pieces k ≡ Some p → j < rows_in kind p
      → slice_get (planned_from a pieces) (rows_before kind pieces k + j) ≡ slice_get (part (a + k) p) j
  planned_at a [] k p j good at h = absurd cc
  planned_at a (q ∷ ps) zero p j good at h =
      let same : q ≡ p = cc at in
      let count = part_length a q good.0 in
      let less : j < length (part a q) = omega (arith, count, h, ap (rows_in kind) same) in
      ap (slice_get (planned_from a (q ∷ ps))) (let e : 0 + j ≡ j = omega arith in e)
      ∙ get-left (part a q) (planned_from (a + 1) ps) j less
      ∙ ap₂ (λ (n : ℕ) (x : PlannedPiece). slice_get (part n x) j) (let e : a ≡ a + 0 = omega arith in e) same
  planned_at a (q ∷ ps) (suc k) p j good at h =
      let count = part_length a q good.0 in
      let sum = sum_by-cons (rows_in kind) q (take k ps) in
      let place : rows_before kind (q ∷ ps) (suc k) + j ≡ length (part a q) + (rows_before kind ps k + j) = omega (arith, sum, count) in
      ap (slice_get (planned_from a (q ∷ ps))) place
      ∙ get-right (part a q) (planned_from (a + 1) ps) (rows_before kind ps k + j)
      ∙ planned_at (a + 1) ps k p j good.1 at h
      ∙ ap (λ (n : ℕ). slice_get (part n p) j) (let e : a + 1 + k ≡ a + suc k = omega arith in e)

  planned_length : (a : ℕ) (pieces : List PlannedPiece) → AllByRecursion IsGood pieces → length (planned_from a pieces) ≡ rows_before kind pieces (length pieces)
  planned_length a [] good = refl
  planned_length a (q ∷ ps) good =
      let later = planned_length (a + 1) ps good.1 in
      omega (arith, length-append (part a q) (planned_from (a + 1) ps), part_length a q good.0, later, sum_by-cons (rows_in kind) q (take (length ps) ps))

  -- ---- of a plan

  pub all_good : (pieces : List PlanPiece) → All IsPlanPiece pieces → AllByRecursion IsGood (map piece_view pieces)
  all_good [] all = tt
  all_good (p ∷ ps) all = (good (range_of kind (piece_view p)) (λ r e. good_range kind p r (All-head IsPlanPiece p ps all) e), all_good ps (All-tail IsPlanPiece p ps all))
    where
      good : (o : Option RowRange) → ((r : RowRange) → o ≡ Some r → IsRange r) → IfSome o IsRange
      good None h = tt
      good (Some r) h = h r refl

  -- as many rows as are counted
  pub planned-count : (pieces : List PlanPiece) → All IsPlanPiece pieces → length (planned_of kind (map piece_view pieces)) ≡ rows_before kind (map piece_view pieces) (length (map piece_view pieces))
  planned-count pieces all = planned_length 0 (map piece_view pieces) (all_good pieces all)

  -- the row of a number in a piece
  pub planned-row : (pieces : List PlanPiece) (k : ℕ) (p : PlannedPiece) (r : RowRange) (given i : ℕ) → All IsPlanPiece pieces → slice_get (map piece_view pieces) k ≡ Some p → range_of kind p ≡ Some r → IsRange r
      → r.from ≤ i → i < r.to → given + r.from ≡ rows_before kind (map piece_view pieces) k + i → slice_get (planned_of kind (map piece_view pieces)) given ≡ Some (row_of k p.base r i)
  planned-row pieces k p r given i all at range good from to next =
      let views : List PlannedPiece = map piece_view pieces in
      let j : ℕ = i - r.from in
      let rows : rows_in kind p ≡ r.to - r.from = ap (λ (o : Option RowRange). option_map_or (λ (q : RowRange). q.to - q.from) o 0) range in
      let place : given ≡ rows_before kind views k + j = omega (arith, next, from) in
      let number : r.from + j ≡ i = omega (arith, from) in
      ap (slice_get (planned_of kind views)) place
      ∙ planned_at 0 views k p j (all_good pieces all) at (omega (arith, rows, from, to))
      ∙ ap (λ (n : ℕ). slice_get (part n p) j) (let e : 0 + k ≡ k = omega arith in e)
      ∙ ap (λ (o : Option RowRange). slice_get (option_map_or (range_rows kind k p.base) o []) j) range
      ∙ row_at k p.base r j good (omega (arith, from, to))
      ∙ ap (λ (n : ℕ). Some (row_of k p.base r n)) number

-- where a row begins
pub fits_at : (rows : List TimedRow) (i : ℕ) (row : TimedRow) → All FitsFile rows → slice_get rows i ≡ Some row → row.offset < 2 ^ 64
fits_at rows i row fits at =
    let got : get_or rows i row ≡ row = sym (unwrap_or-slice_get rows i row) ∙ ap (λ (o : Option TimedRow). unwrap_or o row) at in
    subst FitsFile got (fits i row (slice_get_within rows i row at))
