-- A sample of which a cut keeps a part.
use Rattle.std.proofs.Common.{rules, ◌≡◌, ◌+◌, ◌≤◌, ◌+ℤ◌, ◌-ℤ◌, pos, ap, ◌∙◌, unsigned_abs, SFits, w64, arith}
use Rattle.std.proofs.lemmas.Int.{ints, to_z-of_z}
use Rattle.mp4_model.specs.Clock.{to_units, to_units_signed}
use Rattle.vod_plan.specs.Cuts.{flat_view, most_units, most_shift}
use Rattle.vod_plan.proofs.TimeLemmas.{timed_row-is}
use Rattle.vod_plan.proofs.samples.TimedSample.new.Goals as goal

pub returns-clause-row : goal.returns-clause-row
returns-clause-row c =
    let s = c.args.sample.now in
    let cut = c.args.cut in
    let near : unsigned_abs (c.presentation-shown.result -ℤ pos (to_units c.args.timescale s.decode_time)) ≤ most_shift = c.presentation-shown.ensures.near in
    let time : c.to_units-time.result ≡ to_units c.args.timescale s.decode_time = c.to_units-time.ensures.value ∙ ap (λ n. to_units c.args.timescale n) c.from.ensures in
    let low : to_units c.args.timescale s.decode_time ≤ most_units = omega (arith, time, c.to_units-time.ensures.bound) in
    let small : SFits w64 s.composition_offset = search rules in
    let shown : c.presentation-shown.result ≡ to_units_signed c.args.timescale (pos s.decode_time +ℤ s.composition_offset) =
    c.presentation-shown.ensures.value ∙ ap (λ z. to_units_signed c.args.timescale (pos s.decode_time +ℤ z)) (to_z-of_z w64 s.composition_offset small) in
    let end : c.to_units-end.result ≡ to_units c.args.timescale (s.decode_time + s.delta) = c.to_units-end.ensures.value
    ∙ ap (λ n. to_units c.args.timescale (n + c.from-3.result)) c.from-2.ensures
    ∙ ap (λ n. to_units c.args.timescale (s.decode_time + n)) c.from-3.ensures in
    timed_row-is cut c.args.timescale c.args.number (flat_view s) _ _ _
    (omega (arith, ints, time, low, c.saturating_sub.ensures, cut.from_is, cut.delay_units))
    (omega (arith, ints, near, low, shown, cut.delay_units, cut.skip_units))
    (omega (arith, end, time))

pub returns-clause-small : goal.returns-clause-small
returns-clause-small c =
    let s = c.args.sample.now in
    let cut = c.args.cut in
    let near : unsigned_abs (c.presentation-shown.result -ℤ pos (to_units c.args.timescale s.decode_time)) ≤ most_shift = c.presentation-shown.ensures.near in
    let time : c.to_units-time.result ≡ to_units c.args.timescale s.decode_time = c.to_units-time.ensures.value ∙ ap (λ n. to_units c.args.timescale n) c.from.ensures in
    let low : to_units c.args.timescale s.decode_time ≤ most_units = omega (arith, time, c.to_units-time.ensures.bound) in
    record {
      place = omega (arith, ints, c.saturating_sub.ensures, c.to_units-time.ensures.bound, cut.delay_units);
      presentation = omega (arith, ints, near, low, cut.delay_units, cut.skip_units);
      lead_in = cut.lead_in_short;
    }
