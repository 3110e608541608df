-- A sample that a cut keeps.
use Rattle.std.proofs.Common.{rules, ℕ, ◌≡◌, ◌+◌, ◌≤◌, ◌+ℤ◌, ◌-ℤ◌, pos, ap, sym, subst, ◌∙◌, unsigned_abs, SFits, w64, arith}
use Rattle.std.proofs.lemmas.Int.{ints, to_z-of_z}
use Rattle.mp4_model.specs.Clock.{to_units, to_units_signed}
use Rattle.mp4_model.proofs.OffsetLemmas.{presentation_near}
use Rattle.segment_model.proofs.Timelines.{to_units_rises}
use Rattle.flat_samples.specs.Rows.{IsFileRow}
use Rattle.flat_samples.specs.Written.{flat_view, most_units, most_shift}
use Rattle.flat_samples.proofs.TimeLemmas.{timed_row-is, kept_bounds}
use Rattle.flat_samples.proofs.samples.timed.Goals as goal

low_time : (timescale time decode_time delta : ℕ) → time ≡ to_units timescale decode_time → to_units timescale (decode_time + delta) ≤ most_units → time ≤ most_units
low_time timescale time decode_time delta e short = let rises = to_units_rises timescale decode_time (decode_time + delta) (omega arith) in omega (arith, rises, short, e)

pub overflow_add-result-2 : goal.overflow_add-result-2
overflow_add-result-2 c =
    let s = c.args.sample.now in
    let cut = c.args.cut in
    let near : unsigned_abs (c.presentation-shown.result -ℤ pos c.args.time) ≤ most_shift = rw c.requires.time c.presentation-shown.ensures.near in
    let low = low_time c.args.timescale c.args.time s.decode_time s.delta c.requires.time c.requires.short in
    omega (arith, ints, near, low, cut.delay_units, cut.skip_units)

pub overflow_sub-result-2 : goal.overflow_sub-result-2
overflow_sub-result-2 c =
    let s = c.args.sample.now in
    let cut = c.args.cut in
    let near : unsigned_abs (c.presentation-shown.result -ℤ pos c.args.time) ≤ most_shift = rw c.requires.time c.presentation-shown.ensures.near in
    let low = low_time c.args.timescale c.args.time s.decode_time s.delta c.requires.time c.requires.short in
    omega (arith, ints, near, low, cut.delay_units, cut.skip_units)

pub returns-clause-row : goal.returns-clause-row
returns-clause-row c =
    let s = c.args.sample.now in
    let cut = c.args.cut in
    let near : unsigned_abs (c.presentation-shown.result -ℤ pos c.args.time) ≤ most_shift = rw c.requires.time c.presentation-shown.ensures.near in
    let low : c.args.time ≤ most_units = low_time c.args.timescale c.args.time s.decode_time s.delta c.requires.time c.requires.short in
    let small : SFits w64 s.composition_offset = search rules in
    let shown : c.presentation-shown.result ≡ to_units_signed c.args.timescale (pos s.decode_time +ℤ s.composition_offset) =
    c.presentation-shown.ensures.value ∙ ap (λ z. to_units_signed c.args.timescale (pos s.decode_time +ℤ z)) (to_z-of_z w64 s.composition_offset small) in
    let end : c.to_units-end.result ≡ to_units c.args.timescale (s.decode_time + s.delta) = c.to_units-end.ensures.value ∙ ap (λ n. to_units c.args.timescale (s.decode_time + n)) c.from.ensures in
    timed_row-is cut c.args.timescale c.args.number (flat_view s) _ _ _
    (omega (arith, ints, c.requires.time, c.requires.kept, low, cut.from_is, cut.delay_units))
    (omega (arith, ints, near, low, shown, cut.delay_units, cut.skip_units))
    (omega (arith, end, c.requires.time))

pub returns-clause-bounds : goal.returns-clause-bounds
returns-clause-bounds c =
    let s = c.args.sample.now in
    let cut = c.args.cut in
    subst IsFileRow (sym (returns-clause-row c))
    (kept_bounds cut c.args.timescale c.args.number (flat_view s) (presentation_near c.args.timescale s.decode_time s.composition_offset c.requires.timescale c.requires.near)
    (omega (arith, c.requires.time, c.requires.kept, cut.from_is)) c.requires.short)
