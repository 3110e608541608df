-- The rows of a track on the clock of 1/90000 s.
use Rattle.std.proofs.Common.{SFits, All, subst, to_z, of_z, w64, ◌≡◌, ℕ, suc, ◌+◌, ◌-◌, ◌<◌, ◌≤◌, ◌^◌, ◌*◌, ℤ, pos, ◌+ℤ◌, ◌-ℤ◌, ◌*ℤ◌, true, List, [], ◌∷◌, ◌++◌, length, map, filter, take, get_or, sum, refl, sym, ap, ◌∙◌, arith}
use Rattle.std.specs.Prelude.{unsigned_abs}
use Rattle.std.specs.Int.{int_div_euclid, w128}
use Rattle.std.specs.List.{range_with_len, enumerate_from}
use Rattle.std.proofs.Math.Nat.{lt-div-mul-add, mul-le-mul_right}
use Rattle.std.proofs.lemmas.Bool.{le-leb}
use Rattle.std.proofs.lemmas.Int.{ints}
use Rattle.std.proofs.lemmas.List.Sums.{sum_by_more, sum_by_more_le}
use Rattle.std.proofs.lemmas.List.{map-append}
use Rattle.std.proofs.lemmas.List.Elements.{All-head, filter-append}
use Rattle.std.proofs.lemmas.List.FromFn.{length-map-range_with_len, get_or-map-range_with_len, map-range_with_len_more}
use Rattle.mp4_model.specs.Clock.{to_units, to_units_signed}
use Rattle.mp4_model.specs.Tables.{SampleTables}
use Rattle.mp4_model.specs.Samples.{FlatRow, sample_count, sample_deltas, sample_offset, is_sync, decode_time, flat_row, flat_rows}
use Rattle.mp4_model.specs.GoodTracks.{GoodTrack}
use Rattle.mp4_model.proofs.GoodTables.{good_tables, one_for_each}
use Rattle.mp4_model.proofs.OffsetLemmas.{offset_near}
use Rattle.segment_model.specs.Rows.{SourceTrack, TimedRow, timed_row, timed_rows, is_kept}
use Rattle.segment_model.proofs.Offsets.{IsNear, timed_rows-fit}
use Rattle.segment_model.proofs.Timelines.{to_units_rises}
use Rattle.flat_samples.specs.declared.tables.WrittenTables.{WrittenTables}
use Rattle.flat_samples.specs.declared.cut.Cut.{Cut}
use Rattle.flat_samples.specs.Checks.{IsSound}
use Rattle.flat_samples.specs.Cuts.{cut_of, cut_track}
use Rattle.flat_samples.specs.Rows.{IsFileRow, OffsetFits}
use Rattle.flat_samples.specs.Written.{IsWrittenOut, HasSample, row_of, most_units, most_shift}

-- ---- a row

pub timed_row-is : (cut : Cut) (timescale number : ℕ) (s : FlatRow) (place presentation : ℤ) (duration : ℕ) → place ≡ pos (to_units timescale s.decode_time + cut.delay - (cut.skip - cut.lead_in))
    → presentation ≡ to_units_signed timescale (pos s.decode_time +ℤ s.composition_offset) +ℤ pos cut.delay -ℤ pos cut.skip
    → duration ≡ to_units timescale (s.decode_time + s.delta) - to_units timescale s.decode_time
    → record { file = 0; number = number; offset = s.offset; size = s.size; place = place; presentation = presentation; duration = duration; lead_in = cut.lead_in; sync = s.sync } ≡ timed_row (cut_of cut timescale) (number, s)
unfolding timed_row
timed_row-is cut timescale number s place presentation duration e f g =
    let with : ℤ → ℤ → ℕ → TimedRow = λ a b n. record { file = 0; number = number; offset = s.offset; size = s.size; place = a; presentation = b; duration = n; lead_in = cut.lead_in; sync = s.sync } in
    let here : ℤ = pos (to_units timescale s.decode_time + cut.delay - (cut.skip - cut.lead_in)) in
    let shown : ℤ = to_units_signed timescale (pos s.decode_time +ℤ s.composition_offset) +ℤ pos cut.delay -ℤ pos cut.skip in
    ap (λ a. with a presentation duration) e ∙ ap (λ b. with here b duration) f ∙ ap (with here shown) g

-- ---- the rows of a track

-- the first rows of a track, of which a cut keeps a part
abbrev pub first_rows : Cut → GoodTrack → ℕ → SourceTrack
first_rows cut g n = cut_track cut g.timescale (map (flat_row g.tables) (range_with_len 0 n))

-- those of these rows with their numbers that it keeps
abbrev pub kept_of : Cut → ℕ → List (ℕ × FlatRow) → List TimedRow
kept_of cut timescale rows = map (timed_row (cut_of cut timescale)) (filter (is_kept (cut_of cut timescale)) rows)

kept-are : (cut : Cut) (timescale : ℕ) (rows : List FlatRow) → timed_rows (cut_track cut timescale rows) ≡ kept_of cut timescale (enumerate_from 0 rows)
unfolding timed_rows timed_row
kept-are cut timescale rows = refl

enumerate_from-append : {X : Type 0} (n : ℕ) (xs : List X) (y : X) → enumerate_from n (xs ++ y ∷ []) ≡ enumerate_from n xs ++ (n + length xs, y) ∷ []
enumerate_from-append n [] y = ap (λ (m : ℕ). (m, y) ∷ []) (let e : n ≡ n + 0 = omega arith in e)
enumerate_from-append n (x ∷ xs) y =
    ap (λ l. (n, x) ∷ l) (enumerate_from-append (n + 1) xs y ∙ ap (λ (m : ℕ). enumerate_from (n + 1) xs ++ (m, y) ∷ []) (let e : n + 1 + length xs ≡ n + suc (length xs) = omega arith in e))

pub none-kept : (cut : Cut) (g : GoodTrack) → timed_rows (first_rows cut g 0) ≡ []
unfolding timed_rows
none-kept cut g = refl

-- one more sample
pub kept-more : (cut : Cut) (g : GoodTrack) (n : ℕ) → timed_rows (first_rows cut g (n + 1)) ≡ timed_rows (first_rows cut g n) ++ kept_of cut g.timescale ((n, flat_row g.tables n) ∷ [])
kept-more cut g n =
    let f : ℕ → FlatRow = flat_row g.tables in
    let t : SourceTrack = cut_of cut g.timescale in
    let before : List FlatRow = map f (range_with_len 0 n) in
    let numbered : enumerate_from 0 (map f (range_with_len 0 (n + 1))) ≡ enumerate_from 0 before ++ (n, f n) ∷ [] =
    ap (enumerate_from 0) (map-range_with_len_more f 0 n n (omega arith))
    ∙ enumerate_from-append 0 before (f n)
    ∙ ap (λ (m : ℕ). enumerate_from 0 before ++ (m, f n) ∷ []) (omega (arith, length-map-range_with_len f 0 n)) in
    kept-are cut g.timescale (map f (range_with_len 0 (n + 1)))
    ∙ ap (kept_of cut g.timescale) numbered
    ∙ ap (map (timed_row t)) (filter-append (is_kept t) (enumerate_from 0 before) ((n, f n) ∷ []))
    ∙ map-append (timed_row t) (filter (is_kept t) (enumerate_from 0 before)) (filter (is_kept t) ((n, f n) ∷ []))
    ∙ ap (λ (l : List TimedRow). l ++ kept_of cut g.timescale ((n, f n) ∷ [])) (sym (kept-are cut g.timescale before))

pub all-kept : (cut : Cut) (g : GoodTrack) → timed_rows (first_rows cut g (sample_count g.tables)) ≡ timed_rows (cut_track cut g.timescale (flat_rows g.tables))
unfolding flat_rows
all-kept cut g = refl

-- a row that is kept
kept-one : (cut : Cut) (timescale number : ℕ) (s : FlatRow) → cut.skip - cut.lead_in ≤ to_units timescale s.decode_time → kept_of cut timescale ((number, s) ∷ []) ≡ timed_row (cut_of cut timescale) (number, s) ∷ []
kept-one cut timescale number s le = rw (le-leb (cut.skip - cut.lead_in) (to_units timescale s.decode_time) le) refl

-- ---- a sample of the lists

pub has_sample : (g : GoodTrack) (w : WrittenTables) (i : ℕ) → IsSound g → IsWrittenOut g.tables w → i < sample_count g.tables → HasSample w i
has_sample g w i s is h =
    let each = one_for_each g.tables g.timescale (good_tables g.tables g.timescale s.none_broken) in
    let n : ℕ = sample_count g.tables in
    record {
      sizes = omega (arith, ap length is.sizes);
      offsets = omega (arith, ap length is.offsets, length-map-range_with_len (sample_offset g.tables) 0 n);
      deltas = omega (arith, ap length is.deltas, each.deltas);
      composition_offsets = omega (arith, ap length is.composition_offsets, each.offsets);
      syncs = omega (arith, ap length is.syncs, length-map-range_with_len (is_sync g.tables) 0 n);
    }

pub row_is : (t : SampleTables) (w : WrittenTables) (i time : ℕ) → IsWrittenOut t w → i < sample_count t → time ≡ decode_time t i → row_of w i time ≡ flat_row t i
unfolding flat_row
row_is t w i time is h now =
    let n : ℕ = sample_count t in
    let offset : get_or w.offsets.items i 0 ≡ sample_offset t i = ap (λ l. get_or l i 0) is.offsets ∙ get_or-map-range_with_len (sample_offset t) 0 n i i 0 h (omega arith) in
    let sync : get_or w.syncs.items i true ≡ is_sync t i = ap (λ l. get_or l i true) is.syncs ∙ get_or-map-range_with_len (is_sync t) 0 n i i true h (omega arith) in
    rw (offset, sync, is.sizes, is.deltas, is.composition_offsets, now) refl

-- the tables last at least until the end of a sample
pub sound_short : (g : GoodTrack) (i : ℕ) → IsSound g → i < sample_count g.tables → to_units g.timescale ((flat_row g.tables i).decode_time + (flat_row g.tables i).delta) ≤ most_units
unfolding flat_row
sound_short g i s h =
    let each = one_for_each g.tables g.timescale (good_tables g.tables g.timescale s.none_broken) in
    let deltas : List ℕ = sample_deltas g.tables in
    let within : i < length deltas = omega (arith, each.deltas) in
    let le = to_units_rises g.timescale (sum (take i deltas) + get_or deltas i 0) (sum deltas) (sum_by_more_le (λ x. x) deltas i 0 within) in
    omega (arith, le, s.short)

pub next_time : (g : GoodTrack) (i : ℕ) → IsSound g → i < sample_count g.tables → decode_time g.tables i + (flat_row g.tables i).delta ≡ decode_time g.tables (i + 1)
unfolding flat_row
next_time g i s h =
    let each = one_for_each g.tables g.timescale (good_tables g.tables g.timescale s.none_broken) in
    let deltas : List ℕ = sample_deltas g.tables in
    sym (sum_by_more (λ x. x) deltas i 0 (omega (arith, each.deltas)))

-- a sample is shown within an hour of its decode time
pub sound_shown : (g : GoodTrack) (i : ℕ) → IsSound g → i < sample_count g.tables → unsigned_abs (flat_row g.tables i).composition_offset ≤ 3600 * g.timescale
unfolding flat_row
sound_shown g i s h = offset_near g.tables g.timescale i s.none_broken

-- ---- the same through casts

short_time : (timescale time : ℕ) → 1 ≤ timescale → timescale < 2 ^ 32 → to_units timescale time ≤ most_units → time < 2 ^ 72
short_time timescale time some fits short =
    let q : ℕ = to_units timescale time in
    let below : time * 90000 < q * timescale + timescale = lt-div-mul-add {a = time * 90000} {b = timescale} some in
    let most : q * timescale ≤ most_units * timescale = mul-le-mul_right timescale short in
    omega (arith, below, most, fits)

pub presentation_is : (timescale time : ℕ) (offset from whole : ℤ) → 1 ≤ timescale → timescale < 2 ^ 32 → to_units timescale time ≤ most_units → unsigned_abs offset ≤ 3600 * timescale → from ≡ to_z w64 (of_z w64 offset) → whole ≡ pos timescale →
    int_div_euclid (to_z w128 (of_z w128 (to_z w128 (of_z w128 (to_z w128 time +ℤ to_z w128 (of_z w128 from))) *ℤ pos 90000))) (to_z w128 (of_z w128 whole)) ≡ to_units_signed timescale (pos time +ℤ offset)
presentation_is timescale time offset from whole some fits short small e f =
    let low : time < 2 ^ 72 = short_time timescale time some fits short in
    let same : from ≡ offset = omega (arith, ints, e, small, fits) in
    let shown : to_z w128 (of_z w128 (to_z w128 time +ℤ to_z w128 (of_z w128 from))) ≡ pos time +ℤ offset = omega (arith, ints, same, small, fits, low) in
    let product : to_z w128 (of_z w128 ((pos time +ℤ offset) *ℤ pos 90000)) ≡ (pos time +ℤ offset) *ℤ pos 90000 = omega (arith, ints, small, fits, low) in
    let divisor : to_z w128 (of_z w128 whole) ≡ pos timescale = omega (arith, ints, f, fits) in
    ap (λ z. int_div_euclid (to_z w128 (of_z w128 (z *ℤ pos 90000))) (to_z w128 (of_z w128 whole))) shown
    ∙ ap (λ z. int_div_euclid z (to_z w128 (of_z w128 whole))) product
    ∙ ap (int_div_euclid ((pos time +ℤ offset) *ℤ pos 90000)) divisor

pub shown_fits : (shown due : ℤ) (place : ℕ) → shown ≡ due → unsigned_abs (due -ℤ pos place) ≤ most_shift → place ≤ most_units → SFits w64 (to_z w128 (of_z w128 shown))
shown_fits shown due place e near low = omega (arith, ints, e, near, low)

pub shown_same : (shown due : ℤ) (place : ℕ) → shown ≡ due → unsigned_abs (due -ℤ pos place) ≤ most_shift → place ≤ most_units → to_z w64 (of_z w64 (to_z w128 (of_z w128 shown))) ≡ due
shown_same shown due place e near low = omega (arith, ints, e, near, low)

-- ---- bounds of a row that is kept

kept_fits : (cut : Cut) (timescale number : ℕ) (s : FlatRow) → IsNear (cut_of cut timescale) s → cut.skip - cut.lead_in ≤ to_units timescale s.decode_time → OffsetFits (timed_row (cut_of cut timescale) (number, s))
unfolding timed_row
kept_fits cut timescale number s near le =
    let t : SourceTrack = cut_track cut timescale (s ∷ []) in
    let all : All OffsetFits (timed_rows t) = timed_rows-fit t cut.lead_in_short (near, tt) in
    let one : timed_rows t ≡ timed_row (cut_of cut timescale) (0, s) ∷ [] = kept-are cut timescale (s ∷ []) ∙ kept-one cut timescale 0 s le in
    All-head OffsetFits (timed_row (cut_of cut timescale) (0, s)) [] (subst (All OffsetFits) one all)

pub kept_bounds : (cut : Cut) (timescale number : ℕ) (s : FlatRow) → IsNear (cut_of cut timescale) s → cut.skip - cut.lead_in ≤ to_units timescale s.decode_time → to_units timescale (s.decode_time + s.delta) ≤ most_units
    → IsFileRow (timed_row (cut_of cut timescale) (number, s))
unfolding timed_row
kept_bounds cut timescale number s near le short =
    let rises = to_units_rises timescale s.decode_time (s.decode_time + s.delta) (omega arith) in
    let low : to_units timescale s.decode_time ≤ most_units = omega (arith, rises, short) in
    record {
      low = omega (arith, ints);
      high = omega (arith, ints, low, cut.delay_units);
      presentation = omega (arith, ints, near, low, cut.delay_units, cut.skip_units);
      duration = omega (arith, short);
      lead_in = cut.lead_in_short;
      offset = kept_fits cut timescale number s near le;
    }
