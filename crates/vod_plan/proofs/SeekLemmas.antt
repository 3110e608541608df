-- What seeks find, by the numbers of the rows of a range.
use Rattle.std.proofs.Common.{◌≡◌, ℕ, zero, suc, ◌+◌, ◌-◌, ◌<◌, ◌≤◌, ◌^◌, max, min, ℤ, pos, Bool, true, false, not, cond, ◌&&◌, List, [], ◌∷◌, length, take, get_or, sum, Option, Some, None, inl, inr, refl, sym, ap, ap₂, ◌∙◌, arith}
use Rattle.std.specs.Prelude.{int_le, fold, IsSome, slice_get, slice_index, unwrap_or, ◌||◌, ◌+ℤ◌, ◌-ℤ◌}
use Rattle.std.specs.List.{range_with_len, position_or_len}
use Rattle.std.specs.Option.{option_map_or}
use Rattle.std.proofs.lemmas.Bool.{cases_lt, and_right}
use Rattle.std.proofs.lemmas.Int.{ints}
use Rattle.std.proofs.lemmas.List.{take_all}
use Rattle.std.proofs.lemmas.List.Sums.{fold_more, sum_by_more, sum_by-take-le}
use Rattle.std.proofs.lemmas.Option.{slice_get_within, unwrap_or-slice_get}
use Rattle.vod_types.specs.declared.tracks.Kind.{Kind}
use Rattle.mp4_model.specs.Edits.{Edit}
use Rattle.mp4_model.specs.Clock.{to_units}
use Rattle.mp4_model.specs.Samples.{decode_time, first_sample_at, first_sync_from, flat_row, is_sync, sample_count, sample_deltas}
use Rattle.mp4_model.specs.Tables.{SampleTables}
use Rattle.mp4_model.proofs.GoodTables.{good_tables, one_for_each}
use Rattle.mp4_model.proofs.SearchLemmas.{position_is}
use Rattle.segment_model.specs.Numbered.{media_time}
use Rattle.segment_model.specs.Rows.{SourceTrack, TimedRow, end_of, kept_from, lead_in_of, timed_row}
use Rattle.segment_model.specs.Timeline.{lead_end, placed}
use Rattle.segment_model.proofs.CellNumbers.{no_sync_before, sync_begins, sync_there, sync_within}
use Rattle.segment_model.proofs.RowNumbers.{fails_before, from_stays, is_from, map_twice, number_row, passes_there, place_from, position-le, position_of_map, units_rise}
use Rattle.segment_model.proofs.Timelines.{to_units_rises}
use Rattle.vod_plan.specs.declared.cut.Cut.{Cut}
use Rattle.vod_plan.specs.Cuts.{edit_of_cut, place_by}
use Rattle.vod_plan.specs.Ranges.{PlannedPiece, RowRange, range_of, range_rows}
use Rattle.vod_plan.specs.Seeks.{aligned, first_from, first_kept, found_at, found_past, lead_range, place_at, source, units_at}
use Rattle.vod_plan.specs.Selected.{begins_by}
use Rattle.vod_plan.specs.Spans.{IsRange, rows_in}
use Rattle.vod_plan.proofs.RangeLemmas.{numbers, row_at, row_of, rows_are, rows_length}
use Rattle.vod_plan.proofs.SpotLemmas.{one_value}

-- what is there
pub some_of : {X : Type 0} (o : Option X) → IsSome o → (x : X) × (o ≡ Some x)
some_of None some = absurd cc
some_of (Some x) some = (x, refl)

-- ---- numbers within a track

pub first_within : (r : RowRange) (time : ℤ) → first_from r time ≤ sample_count r.track.tables
unfolding first_sample_at
first_within r time = position-le (λ (i : ℕ). int_le time (pos (units_at r i))) 0 (sample_count r.track.tables)

pub past_within : (kind : Kind) (r : RowRange) (time : Option ℤ) → found_past kind r time ≤ sample_count r.track.tables
past_within kind r None = omega arith
past_within kind r (Some time) = first_within r (media_time (source kind r) time)

pub aligned_within : (align : Bool) (r : RowRange) (row : ℕ) → row ≤ sample_count r.track.tables → aligned align r row ≤ sample_count r.track.tables
aligned_within true r row h = sync_within r.track.tables row h
aligned_within false r row h = h

pub aligned_from : (align : Bool) (r : RowRange) (row : ℕ) → row ≤ aligned align r row
aligned_from true r row = sync_begins r.track.tables row
aligned_from false r row = omega arith

-- ---- what a cut keeps

pub kept_by : (kind : Kind) (cut : Cut) (r : RowRange) → edit_of_cut cut ≡ r.edit → cut.lead_in ≡ lead_in_of kind r.edit → cut.from ≡ kept_from (source kind r)
kept_by kind cut r edit lead_in =
    let skip : cut.skip ≡ r.edit.skip = ap (λ (e : Edit). e.skip) edit in
    omega (arith, skip, lead_in, cut.from_is)

pub media_found : (kind : Kind) (r : RowRange) (n : ℕ) (media time : ℤ) → n ≡ first_from r media → media ≡ media_time (source kind r) time → n ≡ found_at kind r time
media_found kind r n media time found is = found ∙ ap (first_from r) is

pub found_there : (kind : Kind) (r : RowRange) (n : ℕ) (time due : ℤ) → n ≡ found_at kind r time → time ≡ due → n ≡ found_at kind r due
found_there kind r n time due found is = found ∙ ap (found_at kind r) is

pub found_bound : (kind : Kind) (r : RowRange) (n : ℕ) (time : ℤ) → n ≡ found_at kind r time → n ≤ sample_count r.track.tables
found_bound kind r n time found = omega (arith, found, first_within r (media_time (source kind r) time))

pub kept_bound : (kind : Kind) (r : RowRange) (n : ℕ) → n ≡ first_kept kind r → n ≤ sample_count r.track.tables
kept_bound kind r n kept = omega (arith, kept, first_within r (pos (kept_from (source kind r))))

-- the rows of a lead track end within it
pub lead_within : (kind : Kind) (lo : ℤ) (hi : Option ℤ) (r : RowRange) → (lead_range kind lo hi r).to ≤ sample_count r.track.tables
lead_within kind lo hi r =
    let low = first_within r (pos (kept_from (source kind r))) in
    let found = first_within r (media_time (source kind r) lo) in
    let begin = sync_within r.track.tables (max (first_kept kind r) (found_at kind r lo)) (omega (arith, low, found)) in
    omega (arith, begin, past_within kind r hi)

pub kept_found : (kind : Kind) (r : RowRange) (n : ℕ) (media : ℤ) → n ≡ first_from r media → media ≡ pos (kept_from (source kind r)) → n ≡ first_kept kind r
kept_found kind r n media found is = found ∙ ap (first_from r) is

pub place_is : (kind : Kind) (cut : Cut) (r : RowRange) (row units : ℕ) → edit_of_cut cut ≡ r.edit → cut.lead_in ≡ lead_in_of kind r.edit → units ≡ units_at r row → place_by cut units ≡ place_at kind r row
place_is kind cut r row units edit lead_in is =
    let delay : cut.delay ≡ r.edit.delay = ap (λ (e : Edit). e.delay) edit in
    let kept = kept_by kind cut r edit lead_in in
    ap pos (let e : units + cut.delay - cut.from ≡ units_at r row + r.edit.delay - kept_from (source kind r) = omega (arith, delay, kept, is) in e)

-- ---- times

pub units_short : (r : RowRange) (i : ℕ) → IsRange r → units_at r i ≤ 2 ^ 40
units_short r i good =
    let deltas : List ℕ = sample_deltas r.track.tables in
    let le = to_units_rises r.track.timescale (sum (take i deltas)) (sum deltas) (sum_by-take-le (λ x. x) deltas i) in
    omega (arith, le, good.usable.short)

next_time : (r : RowRange) (i : ℕ) → IsRange r → i < r.to → decode_time r.track.tables i + slice_index (sample_deltas r.track.tables) i ≡ decode_time r.track.tables (i + 1)
next_time r i good h =
    let t : SampleTables = r.track.tables in
    let each = one_for_each t r.track.timescale (good_tables t r.track.timescale good.usable.none_broken) in
    sym (sum_by_more (λ x. x) (sample_deltas t) i 0 (omega (arith, each.deltas, good.to)))

pub row_end : (kind : Kind) (file : ℕ) (base : ℤ) (r : RowRange) (i : ℕ) → IsRange r → i < r.to → end_of (row_of kind file base r i) ≡ base +ℤ place_at kind r i +ℤ pos (units_at r (i + 1) - units_at r i)
unfolding timed_row flat_row
row_end kind file base r i good h = ap (λ (time : ℕ). base +ℤ place_at kind r i +ℤ pos (to_units r.track.timescale time - units_at r i)) (next_time r i good h)

pub row_place : (kind : Kind) (file : ℕ) (base : ℤ) (r : RowRange) (i : ℕ) → (row_of kind file base r i).place ≡ base +ℤ place_at kind r i
unfolding timed_row flat_row
row_place kind file base r i = refl

pub units_later : (kind : Kind) (r : RowRange) (i : ℕ) → IsRange r → units_at r i ≤ units_at r (i + 1)
units_later kind r i good = units_rise (source kind r) r.track.tables i (i + 1) good.usable.timescale (omega arith)

pub rows_count : (kind : Kind) (p : PlannedPiece) (r : RowRange) → range_of kind p ≡ Some r → rows_in kind p ≡ r.to - r.from
rows_count kind p r e = ap (λ (o : Option RowRange). option_map_or (λ (q : RowRange). q.to - q.from) o 0) e

-- when the row of an index stands
pub row_time : (kind : Kind) (file : ℕ) (base : ℤ) (r : RowRange) (index : ℕ) (row : TimedRow) → IsRange r → index < r.to - r.from → slice_get (range_rows kind file base r) index ≡ Some row
    → row.place ≡ base +ℤ place_at kind r (r.from + index)
row_time kind file base r index row good within at =
    let there = row_at kind file base r index good within in
    let same = one_value (slice_get (range_rows kind file base r) index) row (row_of kind file base r (r.from + index)) at there in
    ap (λ (x : TimedRow). x.place) same ∙ row_place kind file base r (r.from + index)

-- where the last row ends
pub last_end : (start : ℤ) (rows : List TimedRow) (i : ℕ) (row : TimedRow) → slice_get rows i ≡ Some row → length rows ≡ i + 1 → lead_end start rows ≡ end_of row
last_end start rows i row at count =
    let step : ℤ → TimedRow → ℤ = λ end r. end_of r in
    let got : get_or rows i row ≡ row = sym (unwrap_or-slice_get rows i row) ∙ ap (λ (o : Option TimedRow). unwrap_or o row) at in
    ap (fold step start) (sym (take_all (i + 1) rows (omega (arith, count))))
    ∙ fold_more step start rows i row (slice_get_within rows i row at)
    ∙ ap (λ (r : TimedRow). end_of r) got

pub rows_end : (kind : Kind) (file : ℕ) (base start : ℤ) (r : RowRange) → IsRange r → r.from < r.to
    → lead_end start (range_rows kind file base r) ≡ base +ℤ place_at kind r (r.to - 1) +ℤ pos (units_at r r.to - units_at r (r.to - 1))
rows_end kind file base start r good some =
    let j : ℕ = r.to - r.from - 1 in
    let last : r.from + j ≡ r.to - 1 = omega (arith, some) in
    let next : r.from + j + 1 ≡ r.to = omega (arith, some) in
    let at = row_at kind file base r j good (omega (arith, some)) in
    let count = rows_length kind file base r good in
    last_end start (range_rows kind file base r) j (row_of kind file base r (r.from + j)) at (omega (arith, count, some))
    ∙ row_end kind file base r (r.from + j) good (omega (arith, some))
    ∙ ap₂ (λ (i n : ℕ). base +ℤ place_at kind r i +ℤ pos (units_at r n - units_at r i)) last next

-- ---- the first row with which a cell may begin

pub position_in_front : {X : Type 0} (p : X → Bool) (m : ℕ) (xs : List X) → position_or_len p (take m xs) ≡ min m (position_or_len p xs)
position_in_front p zero xs = omega arith
position_in_front p (suc m) [] = omega arith
position_in_front p (suc m) (x ∷ xs) = go (p x) (position_in_front p m xs)
  where
    go : (b : Bool) → position_or_len p (take m xs) ≡ min m (position_or_len p xs) → cond (not b) (1 + position_or_len p (take m xs)) 0 ≡ min (suc m) (cond (not b) (1 + position_or_len p xs) 0)
    go true e = omega arith
    go false e = omega (arith, e)

moved : (time base place : ℤ) → int_le time (base +ℤ place) ≡ int_le (time -ℤ base) place
moved time base place = decided (int_le time (base +ℤ place)) refl
  where
    decided : (b : Bool) → int_le time (base +ℤ place) ≡ b → int_le time (base +ℤ place) ≡ int_le (time -ℤ base) place
    decided true h = h ∙ sym (grind (arith, ints))
    decided false h = h ∙ sym (grind (arith, ints))

-- the first number, from one on, of a row that isn't before a time of the media and, with alignment, is a sync row
first_such : (s : SourceTrack) (t : SampleTables) (time : ℤ) (align : Bool) (from : ℕ) (test : ℕ → Bool) → 1 ≤ s.timescale → from ≤ sample_count t →
    ((i : ℕ) → from ≤ i → i < sample_count t → test i ≡ (is_from s t time i && (not align || is_sync t i))) →
    position_or_len test (range_with_len from (sample_count t - from))
    ≡ cond align (first_sync_from t (max from (first_sample_at t s.timescale time))) (max from (first_sample_at t s.timescale time)) - from
unfolding first_sample_at
first_such s t time false from test one within agree =
    let n : ℕ = sample_count t in
    let q : ℕ → Bool = is_from s t time in
    let f : ℕ = position_or_len q (range_with_len 0 n) in
    position_is test from (n - from) (max from f - from) (omega (arith, position-le q 0 n))
    (λ j h. agree (from + j) (omega arith) (omega (arith, position-le q 0 n)) ∙ ap (λ (b : Bool). b && true) (fails_before q n (from + j) (omega arith)))
    (λ h. agree (from + (max from f - from)) (omega arith) (omega arith) ∙ ap (λ (b : Bool). b && true) (from_stays s t time one f (from + (max from f - from)) (omega arith) (passes_there q n (omega arith))))
first_such s t time true from test one within agree =
    let n : ℕ = sample_count t in
    let q : ℕ → Bool = is_from s t time in
    let f : ℕ = position_or_len q (range_with_len 0 n) in
    let at : ℕ = max from f in
    let z : ℕ = first_sync_from t at in
    let low : at ≤ z = sync_begins t at in
    let high : z ≤ n = sync_within t at (omega (arith, position-le q 0 n)) in
    let e : from + (z - from) ≡ z = omega arith in
    position_is test from (n - from) (z - from) (omega arith)
    (λ j h. agree (from + j) (omega arith) (omega arith) ∙ elim (cases_lt (from + j) f) [
      | inl early ↦ ap (λ (b : Bool). b && is_sync t (from + j)) (fails_before q n (from + j) early)
      | inr late ↦ and_right (q (from + j)) (is_sync t (from + j)) (no_sync_before t at (from + j) (omega arith) (omega arith) (omega arith))
    ])
    (λ h. agree (from + (z - from)) (omega arith) (omega arith)
    ∙ ap₂ (λ (a b : Bool). a && b) (from_stays s t time one f (from + (z - from)) (omega arith) (passes_there q n (omega arith))) (ap (is_sync t) e ∙ sync_there t at (omega arith)))

module _ (kind : Kind) (file : ℕ) (base : ℤ) (r : RowRange) (align : Bool) (time : ℤ) where
  -- whether the row with a number may begin it
  begins_at : (i : ℕ) → IsRange r → first_kept kind r ≤ i → i < sample_count r.track.tables →
      begins_by align time (row_of kind file base r i) ≡ (is_from (source kind r) r.track.tables (media_time (source kind r) (time -ℤ base)) i && (not align || is_sync r.track.tables i))
  unfolding timed_row flat_row
  begins_at i good from within =
      ap (λ (b : Bool). b && (not align || is_sync r.track.tables i))
      (moved time base (number_row (source kind r) r.track.tables i).place ∙ place_from (source kind r) r.track.tables (time -ℤ base) i good.usable.timescale from within)

  pub begins : IsRange r → first_kept kind r ≤ r.from → position_or_len (begins_by align time) (range_rows kind file base r) ≡ min (aligned align r (max r.from (found_at kind r (time -ℤ base)))) r.to - r.from
  unfolding numbers
  begins good kept =
      let s : SourceTrack = source kind r in
      let t : SampleTables = r.track.tables in
      let n : ℕ = sample_count t in
      let test : ℕ → Bool = λ i. begins_by align time (row_of kind file base r i) in
      let rows : List ℕ = range_with_len r.from (n - r.from) in
      let within : r.from ≤ n = omega (arith, good.from, good.to) in
      let at = first_such s t (media_time s (time -ℤ base)) align r.from test good.usable.timescale within (λ i from below. begins_at i good (omega (arith, kept, from)) below) in
      ap (position_or_len (begins_by align time)) (rows_are kind file base r good ∙ map_twice (placed file base) (number_row s t) (numbers kind r))
      ∙ position_of_map (begins_by align time) (λ (i : ℕ). placed file base (number_row s t i)) (numbers kind r)
      ∙ position_in_front test (r.to - r.from) rows
      ∙ omega (arith, at)
