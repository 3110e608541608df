-- The rows of a track on the clock of 1/90000 s.
use Rattle.std.proofs.Common.{SFits, to_z, of_z, w64, ◌≡◌, ℕ, ◌+◌, ◌-◌, ◌<◌, ◌≤◌, ◌^◌, ◌*◌, ℤ, pos, ◌+ℤ◌, ◌-ℤ◌, ◌*ℤ◌, min, refl, ap, ◌∙◌, arith}
use Rattle.std.specs.Prelude.{unsigned_abs, Some}
use Rattle.std.specs.Int.{int_div_euclid, w128}
use Rattle.std.proofs.Math.Nat.{lt-div-mul-add, mul-le-mul_right}
use Rattle.std.proofs.lemmas.Int.{ints}
use Rattle.vod_types.specs.declared.segments.Form.{Form}
use Rattle.vod_types.specs.declared.segments.Form.TheVariants.{Ts, Fmp4}
use Rattle.vod_types.specs.declared.segments.Row.{Row}
use Rattle.vod_types.specs.declared.tracks.Kind.{Kind}
use Rattle.mp4_model.specs.Clock.{to_units, to_units_signed}
use Rattle.mp4_model.specs.Edits.{Edit}
use Rattle.mp4_model.specs.Samples.{FlatRow}
use Rattle.segment_model.specs.Rows.{TimedRow, decode_time_of, lead_in_of, timed_row, written_row}
use Rattle.origin_model.specs.Sources.{source_track}
use Rattle.vod_plan.specs.declared.cut.Cut.{Cut}
use Rattle.vod_plan.specs.Cuts.{cut_of, decoded_at, edit_of_cut, most_units, most_shift}
use Rattle.vod_plan.specs.Ranges.{RowRange}

pub timed_row-is : (cut : Cut) (timescale number : ℕ) (s : FlatRow) (place presentation : ℤ) (duration : ℕ) → place ≡ pos (to_units timescale s.decode_time + cut.delay - (cut.skip - cut.lead_in))
    → presentation ≡ to_units_signed timescale (pos s.decode_time +ℤ s.composition_offset) +ℤ pos cut.delay -ℤ pos cut.skip
    → duration ≡ to_units timescale (s.decode_time + s.delta) - to_units timescale s.decode_time
    → record { file = 0; number = number; offset = s.offset; size = s.size; place = place; presentation = presentation; duration = duration; lead_in = cut.lead_in; sync = s.sync } ≡ timed_row (cut_of cut timescale) (number, s)
unfolding timed_row
timed_row-is cut timescale number s place presentation duration e f g =
    let with : ℤ → ℤ → ℕ → TimedRow = λ a b n. record { file = 0; number = number; offset = s.offset; size = s.size; place = a; presentation = b; duration = n; lead_in = cut.lead_in; sync = s.sync } in
    let here : ℤ = pos (to_units timescale s.decode_time + cut.delay - (cut.skip - cut.lead_in)) in
    let shown : ℤ = to_units_signed timescale (pos s.decode_time +ℤ s.composition_offset) +ℤ pos cut.delay -ℤ pos cut.skip in
    ap (λ a. with a presentation duration) e ∙ ap (λ b. with here b duration) f ∙ ap (with here shown) g

-- the same of a range of a track
pub timed_row-of : (kind : Kind) (cut : Cut) (timescale : ℕ) (r : RowRange) (x : ℕ × FlatRow) → edit_of_cut cut ≡ r.edit → cut.lead_in ≡ lead_in_of kind r.edit → timescale ≡ r.track.timescale
    → timed_row (cut_of cut timescale) x ≡ timed_row (source_track kind r.edit (Some r.track)) x
unfolding timed_row
timed_row-of kind cut timescale r x edit lead_in same =
    let delay : cut.delay ≡ r.edit.delay = ap (λ (e : Edit). e.delay) edit in
    let skip : cut.skip ≡ r.edit.skip = ap (λ (e : Edit). e.skip) edit in
    rw (delay, skip, lead_in, same) refl

-- ---- the row as the writers see it

pub decoded-is : (form : Form) (r : TimedRow) → decoded_at form r.place r.lead_in ≡ decode_time_of form r
decoded-is Ts r = refl
decoded-is Fmp4 r = refl

pub row-is : (form : Form) (r : TimedRow) (number dur : ℕ) (dts pts : ℤ) → number ≡ r.number → dts ≡ decode_time_of form r → pts ≡ r.presentation → dur ≡ min r.duration (2 ^ 32 - 1)
    → record { file = r.file; number = number; sample = record { at = r.offset; size = r.size; dts = dts; pts = pts; dur = dur; sync = r.sync } } ≡ written_row form r
unfolding written_row
row-is form r number dur dts pts a b c d =
    let with : ℕ → ℤ → ℤ → ℕ → Row = λ n x y z. record { file = r.file; number = n; sample = record { at = r.offset; size = r.size; dts = x; pts = y; dur = z; sync = r.sync } } in
    ap (λ n. with n dts pts dur) a ∙ ap (λ x. with r.number x pts dur) b ∙ ap (λ y. with r.number (decode_time_of form r) y dur) c ∙ ap (with r.number (decode_time_of form r) r.presentation) d

-- ---- through casts

short_time : (timescale time : ℕ) → 1 ≤ timescale → timescale < 2 ^ 32 → to_units timescale time ≤ most_units → time < 2 ^ 72
short_time timescale time some fits short =
    let q : ℕ = to_units timescale time in
    let below : time * 90000 < q * timescale + timescale = lt-div-mul-add {a = time * 90000} {b = timescale} some in
    let most : q * timescale ≤ most_units * timescale = mul-le-mul_right timescale short in
    omega (arith, below, most, fits)

pub presentation_is : (timescale time : ℕ) (offset first from whole : ℤ) → 1 ≤ timescale → timescale < 2 ^ 32 → to_units timescale time ≤ most_units → unsigned_abs offset ≤ 3600 * timescale → first ≡ pos time → from ≡ to_z w64 (of_z w64 offset) → whole ≡ pos timescale →
    int_div_euclid (to_z w128 (of_z w128 (to_z w128 (of_z w128 (to_z w128 (of_z w128 first) +ℤ to_z w128 (of_z w128 from))) *ℤ pos 90000))) (to_z w128 (of_z w128 whole)) ≡ to_units_signed timescale (pos time +ℤ offset)
presentation_is timescale time offset first from whole some fits short small begin e f =
    let low : time < 2 ^ 72 = short_time timescale time some fits short in
    let same : from ≡ offset = omega (arith, ints, e, small, fits) in
    let shown : to_z w128 (of_z w128 (to_z w128 (of_z w128 first) +ℤ to_z w128 (of_z w128 from))) ≡ pos time +ℤ offset = omega (arith, ints, begin, same, small, fits, low) in
    let product : to_z w128 (of_z w128 ((pos time +ℤ offset) *ℤ pos 90000)) ≡ (pos time +ℤ offset) *ℤ pos 90000 = omega (arith, ints, small, fits, low) in
    let divisor : to_z w128 (of_z w128 whole) ≡ pos timescale = omega (arith, ints, f, fits) in
    ap (λ z. int_div_euclid (to_z w128 (of_z w128 (z *ℤ pos 90000))) (to_z w128 (of_z w128 whole))) shown
    ∙ ap (λ z. int_div_euclid z (to_z w128 (of_z w128 whole))) product
    ∙ ap (int_div_euclid ((pos time +ℤ offset) *ℤ pos 90000)) divisor

pub shown_fits : (shown due : ℤ) (place : ℕ) → shown ≡ due → unsigned_abs (due -ℤ pos place) ≤ most_shift → place ≤ most_units → SFits w64 (to_z w128 (of_z w128 shown))
shown_fits shown due place e near low = omega (arith, ints, e, near, low)

pub shown_same : (shown due : ℤ) (place : ℕ) → shown ≡ due → unsigned_abs (due -ℤ pos place) ≤ most_shift → place ≤ most_units → to_z w64 (of_z w64 (to_z w128 (of_z w128 shown))) ≡ due
shown_same shown due place e near low = omega (arith, ints, e, near, low)
