-- The kept rows of a kind by their numbers: how many there are, how many bytes they have, and how many of them are sync rows.
use Rattle.std.proofs.Common.{◌≡◌, ℕ, zero, suc, ◌+◌, ◌-◌, ◌≤◌, Bool, true, false, cond, List, [], ◌∷◌, length, map, filter, take, Option, None, Some, refl, ap, ◌∙◌, arith}
use Rattle.std.specs.Prelude.{slice_index}
use Rattle.std.specs.List.{enumerate_from, range_with_len}
use Rattle.std.specs.Option.{option_map_or}
use Rattle.std.proofs.lemmas.List.FromFn.{sum_by-map-range_with_len_more}
use Rattle.std.proofs.lemmas.List.Sums.{sum_by_more}
use Rattle.vod_types.specs.declared.segments.Form.TheVariants.{Fmp4}
use Rattle.vod_types.specs.declared.segments.Row.{Row}
use Rattle.vod_types.specs.declared.tracks.Kind.{Kind}
use Rattle.mp4_model.specs.Samples.{bytes_before, flat_row, is_sync, sample_count, sample_sizes}
use Rattle.segment_model.specs.Rows.{TimedRow, timed_row, written_row}
use Rattle.segment_model.specs.Timeline.{placed}
use Rattle.segment_model.proofs.RowNumbers.{map_twice, number_row}
use Rattle.media_model.specs.Clip.{sync_numbers}
use Rattle.media_model.specs.Fragment.{sizes}
use Rattle.vod_plan.specs.declared.spans.PlanPiece.{PlanPiece}
use Rattle.vod_plan.specs.Ranges.{RowRange, range_of, range_rows}
use Rattle.vod_plan.specs.Spans.{piece_view, rows_in, IsPlanPiece, IsRange}
use Rattle.vod_plan.proofs.FoundLemmas.{piece_length}
use Rattle.vod_plan.proofs.RangeLemmas.{numbers, row_of, rows_are, source}
use Rattle.std.proofs.lemmas.List.{length-map}
use Rattle.mp4_clip.specs.Kept.{kept_rows}
use Rattle.mp4_clip.specs.Syncs.{syncs_before}
use Rattle.mp4_clip.proofs.SyncLemmas.{count-split}

take-range : (k a n : ℕ) → k ≤ n → take k (range_with_len a n) ≡ range_with_len a k
take-range zero a n h = refl
take-range (suc k) a zero h = absurd (omega (arith, h))
take-range (suc k) a (suc n) h = ap (λ (xs : List ℕ). a ∷ xs) (take-range k (a + 1) n (omega (arith, h)))

-- sync rows among rows by number
count-syncs : (k : ℕ) (f : ℕ → Row) (q : ℕ → Bool) → ((i : ℕ) → (f i).sample.sync ≡ q i) → (a n : ℕ)
    → length (filter (λ (r : ℕ × Row). r.1.sample.sync) (enumerate_from k (map f (range_with_len a n)))) ≡ length (filter q (range_with_len a n))
count-syncs k f q same a zero = refl
count-syncs k f q same a (suc n) = step (f a).sample.sync (q a) (same a) (count-syncs (k + 1) f q same (a + 1) n)
  where
    step : (b c : Bool) → b ≡ c → length (filter (λ (r : ℕ × Row). r.1.sample.sync) (enumerate_from (k + 1) (map f (range_with_len (a + 1) n)))) ≡ length (filter q (range_with_len (a + 1) n))
        → length (cond b ((k, f a) ∷ filter (λ (r : ℕ × Row). r.1.sample.sync) (enumerate_from (k + 1) (map f (range_with_len (a + 1) n)))) (filter (λ (r : ℕ × Row). r.1.sample.sync) (enumerate_from (k + 1) (map f (range_with_len (a + 1) n)))))
        ≡ length (cond c (a ∷ filter q (range_with_len (a + 1) n)) (filter q (range_with_len (a + 1) n)))
    step true true e later = ap (λ (n : ℕ). suc n) later
    step true false e later = absurd cc
    step false true e later = absurd cc
    step false false e later = later

module _ (kind : Kind) (p : PlanPiece) where
  -- as many as are counted
  pub kept-length : IsPlanPiece p → length (kept_rows kind p) ≡ rows_in kind (piece_view p)
  kept-length is = length-map (option_map_or (range_rows kind 0 p.base) (range_of kind (piece_view p)) []) (written_row Fmp4) ∙ piece_length kind 0 p is

  -- none without a range
  pub kept-none : range_of kind (piece_view p) ≡ None → kept_rows kind p ≡ []
  kept-none e = ap (λ (o : Option RowRange). map (written_row Fmp4) (option_map_or (range_rows kind 0 p.base) o [])) e

  module _ (r : RowRange) (e : range_of kind (piece_view p) ≡ Some r) (good : IsRange r) where
    abbrev pub kept_row : ℕ → Row
    kept_row i = written_row Fmp4 (row_of kind 0 p.base r i)

    pub kept-are : kept_rows kind p ≡ map kept_row (range_with_len r.from (r.to - r.from))
    unfolding numbers
    kept-are =
        ap (λ (o : Option RowRange). map (written_row Fmp4) (option_map_or (range_rows kind 0 p.base) o [])) e
        ∙ ap (map (written_row Fmp4)) (rows_are kind 0 p.base r good)
        ∙ map_twice (written_row Fmp4) (placed 0 p.base) (map (number_row (source kind r) r.track.tables) (numbers kind r))
        ∙ map_twice (λ (t : TimedRow). written_row Fmp4 (placed 0 p.base t)) (number_row (source kind r) r.track.tables) (numbers kind r)
        ∙ ap (map kept_row) (take-range (r.to - r.from) r.from (sample_count r.track.tables - r.from) (omega (arith, good.to)))

    size-is : (i : ℕ) → (kept_row i).sample.size ≡ slice_index (sample_sizes r.track.tables) i
    unfolding written_row timed_row flat_row
    size-is i = refl

    sync-is : (i : ℕ) → (kept_row i).sample.sync ≡ is_sync r.track.tables i
    unfolding written_row timed_row flat_row
    sync-is i = refl

    sizes-so-far : (n : ℕ) → r.from + n ≤ sample_count r.track.tables → sizes (map kept_row (range_with_len r.from n)) + bytes_before r.track.tables r.from ≡ bytes_before r.track.tables (r.from + n)
    sizes-so-far zero h =
        let same : r.from + 0 ≡ r.from = omega arith in
        let at : bytes_before r.track.tables (r.from + 0) ≡ bytes_before r.track.tables r.from = ap (bytes_before r.track.tables) same in
        let none : sizes (map kept_row (range_with_len r.from 0)) ≡ 0 = refl in
        omega (arith, at, none)
    sizes-so-far (suc n) h =
        let next : suc n ≡ n + 1 = omega arith in
        let more = sum_by-map-range_with_len_more (λ (row : Row). row.sample.size) kept_row r.from n (r.from + n) refl in
        let place : r.from + suc n ≡ r.from + n + 1 = omega arith in
        let bytes = sum_by_more (λ (x : ℕ). x) (sample_sizes r.track.tables) (r.from + n) 0 (omega (arith, h)) in
        omega (arith, ap (λ (m : ℕ). sizes (map kept_row (range_with_len r.from m))) next, more, ap (bytes_before r.track.tables) place, bytes, size-is (r.from + n), sizes-so-far n (omega (arith, h)))

    -- their bytes
    pub kept-sizes : sizes (kept_rows kind p) + bytes_before r.track.tables r.from ≡ bytes_before r.track.tables r.to
    kept-sizes =
        let end : r.from + (r.to - r.from) ≡ r.to = omega (arith, good.from) in
        let all = sizes-so-far (r.to - r.from) (omega (arith, end, good.to)) in
        omega (arith, ap sizes kept-are, all, ap (bytes_before r.track.tables) end)

    -- how many are sync rows
    pub kept-syncs : length (sync_numbers (kept_rows kind p)) + syncs_before r.track.tables r.from ≡ syncs_before r.track.tables r.to
    kept-syncs =
        let n : ℕ = r.to - r.from in
        let end : r.from + n ≡ r.to = omega (arith, good.from) in
        let rows : List Row = map kept_row (range_with_len r.from n) in
        let count : length (sync_numbers rows) ≡ length (filter (is_sync r.track.tables) (range_with_len r.from n)) =
        length-map (filter (λ (r : ℕ × Row). r.1.sample.sync) (enumerate_from 1 rows)) (λ (r : ℕ × Row). r.0) ∙ count-syncs 1 kept_row (is_sync r.track.tables) sync-is r.from n in
        omega (arith, ap (λ (rows : List Row). length (sync_numbers rows)) kept-are, count, count-split (is_sync r.track.tables) r.from n, ap (syncs_before r.track.tables) end)
