-- The time at which a sample is shown, through casts.
use Rattle.std.proofs.Common.{◌≤◌, ◌+ℤ◌, ◌-ℤ◌, pos, sym, subst, ℤ, unsigned_abs, ◌∙◌}
use Rattle.mp4_model.specs.Clock.{to_units, to_units_signed}
use Rattle.mp4_model.proofs.OffsetLemmas.{presentation_near}
use Rattle.vod_plan.specs.Cuts.{most_shift}
use Rattle.vod_plan.proofs.TimeLemmas.{presentation_is, shown_fits, shown_same}
use Rattle.vod_plan.proofs.samples.presentation.Goals as goal

pub overflow_cast-result : goal.overflow_cast-result
overflow_cast-result c =
    let a = c.args in
    let r = c.requires in
    let is = c.div_euclid.ensures ∙ presentation_is a.timescale a.decode_time a.offset c.from.result c.from-2.result c.from-3.result r.timescale c.ranges.timescale.fits r.short r.near c.from.ensures c.from-2.ensures c.from-3.ensures in
    shown_fits c.div_euclid.result (to_units_signed a.timescale (pos a.decode_time +ℤ a.offset)) (to_units a.timescale a.decode_time) is (presentation_near a.timescale a.decode_time a.offset r.timescale r.near) r.short

pub returns-clause-value : goal.returns-clause-value
returns-clause-value c =
    let a = c.args in
    let r = c.requires in
    let is = c.div_euclid.ensures ∙ presentation_is a.timescale a.decode_time a.offset c.from.result c.from-2.result c.from-3.result r.timescale c.ranges.timescale.fits r.short r.near c.from.ensures c.from-2.ensures c.from-3.ensures in
    shown_same c.div_euclid.result (to_units_signed a.timescale (pos a.decode_time +ℤ a.offset)) (to_units a.timescale a.decode_time) is (presentation_near a.timescale a.decode_time a.offset r.timescale r.near) r.short

pub returns-clause-near : goal.returns-clause-near
returns-clause-near c =
    let a = c.args in
    let P : ℤ → Type 0 = λ z. unsigned_abs (z -ℤ pos (to_units a.timescale a.decode_time)) ≤ most_shift in
    subst P (sym (returns-clause-value c)) (presentation_near a.timescale a.decode_time a.offset c.requires.timescale c.requires.near)
