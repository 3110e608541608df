-- Rows of a cell, through a view of their samples.
use Rattle.std.proofs.Common.{◌≡◌, ℕ, zero, suc, ◌-◌, ◌<◌, ◌≤◌, max, cond, not, ◌&&◌, List, [], ◌∷◌, length, map, filter, take, drop, ℤ, pos, ◌+ℤ◌, Option, Some, None, option_map, slice_get, slice_range, All, unwrap_or, refl, sym, ap, ap₂, ◌∙◌, subst, arith}
use Rattle.std.specs.Prelude.{is_some}
use Rattle.std.specs.List.{list_any, position, position_or_len}
use Rattle.std.proofs.lemmas.Bool.{lt-ltb, le-ltb}
use Rattle.std.proofs.lemmas.List.{length-map}
use Rattle.std.proofs.lemmas.List.Elements.{All-head, All-tail, filter_agree}
use Rattle.segment_model.specs.Grid.{PartGrid, may_begin}
use Rattle.segment_model.specs.Lone.{first_row, is_from, lone_cell}
use Rattle.segment_model.specs.Rows.{TimedRow, end_of}
use Rattle.segment_model.specs.Timeline.{TrackRows, lead_end}
use Rattle.flat_samples.specs.declared.samples.TimedSample.{TimedSample}
use Rattle.flat_samples.specs.Rows.{timed_view, IsPlacedRow}
use Rattle.flat_samples.proofs.ListViews.{list_any-map, position_or_len-map, filter-map, slice_range-map, unwrap_or-position, is_some-position}
use Rattle.flat_segments.specs.Cells.{is_past}

-- ---- the first row of a cell

pub may_begin_any : (g : PartGrid) (k : ℕ) (samples : List TimedSample) → is_some (position (λ s. may_begin g k (timed_view s)) samples) ≡ list_any (may_begin g k) (map timed_view samples)
may_begin_any g k samples = is_some-position (λ s. may_begin g k (timed_view s)) samples ∙ sym (list_any-map timed_view (may_begin g k) samples)

pub first_row_behind : (g : PartGrid) (samples : List TimedSample) (k : ℕ) → g.cells ≤ k → length samples ≡ first_row g (map timed_view samples) k
unfolding first_row
first_row_behind g samples k behind =
    sym (ap (λ b. cond b (position_or_len (may_begin g k) (map timed_view samples)) (length (map timed_view samples))) (le-ltb k g.cells behind) ∙ length-map samples timed_view)

pub first_row_found : (g : PartGrid) (samples : List TimedSample) (k : ℕ) → k < g.cells
    → unwrap_or (position (λ s. may_begin g k (timed_view s)) samples) (length samples) ≡ first_row g (map timed_view samples) k
unfolding first_row
first_row_found g samples k below =
    unwrap_or-position (λ s. may_begin g k (timed_view s)) samples ∙ sym (position_or_len-map timed_view (may_begin g k) samples)
    ∙ sym (ap (λ b. cond b (position_or_len (may_begin g k) (map timed_view samples)) (length (map timed_view samples))) (lt-ltb k g.cells below))

-- ---- the rows of a cell

pub is_past-from : (o : Option TimedRow) (time : ℤ) → is_past (option_map (λ r. r.place) o) time ≡ is_from o time
is_past-from None time = refl
is_past-from (Some r) time = refl

pub cell_is : (g : PartGrid) (lead other own rest : List TimedSample) (k i j : ℕ) → i ≡ first_row g (map timed_view lead) k → j ≡ first_row g (map timed_view lead) (suc k) → own ≡ slice_range lead i (max j i)
    → rest ≡ filter (λ s. is_past (option_map (λ r. r.place) (slice_get (map timed_view lead) i)) s.place && not (is_past (option_map (λ r. r.place) (slice_get (map timed_view lead) j)) s.place)) other
    → let cell : TrackRows = record { lead = map timed_view own; other = map timed_view rest } in cell ≡ lone_cell g (record { lead = map timed_view lead; other = map timed_view other }) k
unfolding lone_cell
cell_is g lead other own rest k i j from next own_is rest_is =
    ap₂ (λ (xs ys : List TimedRow). let cell : TrackRows = record { lead = xs; other = ys } in cell)
    (ap (map timed_view) own_is ∙ slice_range-map timed_view i (max j i) lead
    ∙ ap (λ (n : ℕ). take n (drop i (map timed_view lead))) (let same : max j i - i ≡ j - i = omega arith in same)
    ∙ ap₂ (λ (i j : ℕ). slice_range (map timed_view lead) i j) from next)
    (ap (map timed_view) (rest_is
    ∙ filter_agree (λ s. is_past (option_map (λ r. r.place) (slice_get (map timed_view lead) i)) s.place && not (is_past (option_map (λ r. r.place) (slice_get (map timed_view lead) j)) s.place))
    (λ s. is_from (slice_get (map timed_view lead) i) s.place && not (is_from (slice_get (map timed_view lead) j) s.place))
    (λ s. ap₂ (λ a b. a && not b) (is_past-from (slice_get (map timed_view lead) i) s.place) (is_past-from (slice_get (map timed_view lead) j) s.place)) other)
    ∙ sym (filter-map timed_view (λ r. is_from (slice_get (map timed_view lead) i) r.place && not (is_from (slice_get (map timed_view lead) j) r.place)) other)
    ∙ ap₂ (λ (i j : ℕ). filter (λ r. is_from (slice_get (map timed_view lead) i) r.place && not (is_from (slice_get (map timed_view lead) j) r.place)) (map timed_view other)) from next)

-- ---- the end of the lead rows

pub last_end : (start : ℤ) (samples : List TimedSample) (s : TimedSample) → Some s ≡ slice_get samples (length samples - 1) → lead_end start (map timed_view samples) ≡ s.place +ℤ pos s.duration
last_end start [] s e = absurd cc
last_end start (x ∷ []) s e = ap (λ (s : TimedSample). s.place +ℤ pos s.duration) (let same : x ≡ s = cc in same)
last_end start (x ∷ y ∷ xs) s e =
    last_end (end_of (timed_view x)) (y ∷ xs) s (e ∙ ap (slice_get (x ∷ y ∷ xs)) (let back : length (x ∷ y ∷ xs) - 1 ≡ suc (length (y ∷ xs) - 1) = omega arith in back))

pub placed_at : (samples : List TimedSample) (i : ℕ) (s : TimedSample) → All IsPlacedRow (map timed_view samples) → Some s ≡ slice_get samples i → IsPlacedRow (timed_view s)
placed_at [] i s all e = absurd cc
placed_at (x ∷ xs) zero s all e = subst (λ (s : TimedSample). IsPlacedRow (timed_view s)) (let same : x ≡ s = cc in same) (All-head IsPlacedRow (timed_view x) (map timed_view xs) all)
placed_at (x ∷ xs) (suc i) s all e = placed_at xs i s (All-tail IsPlacedRow (timed_view x) (map timed_view xs) all) e
