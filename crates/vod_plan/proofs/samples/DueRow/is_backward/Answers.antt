-- Two times are compared as they are.
use Rattle.std.proofs.Common.{rules, ◌≡◌, ℤ, ◌+ℤ◌, int_lt, SFits, to_z, of_z, w64, arith, sym, ap, ap₂, ◌∙◌}
use Rattle.std.proofs.lemmas.Int.{ints, to_z-of_z}
use Rattle.vod_types.specs.declared.segments.Form.{Form}
use Rattle.vod_types.specs.declared.segments.Form.TheVariants.{Ts}
use Rattle.media_model.specs.WritingOrder.{of_track}
use Rattle.origin_model.specs.Samples.{is_backward}
use Rattle.vod_plan.specs.Dues.{shown}
use Rattle.vod_plan.proofs.DueLemmas.{back_is}
use Rattle.vod_plan.proofs.samples.DueRow.is_backward.Goals as goal

pub returns-in-Ts : goal.returns-in-Ts
returns-in-Ts c = λ kind.
    let d = c.args.self.now in
    let due = c.requires.due in
    let fits : SFits w64 c.decode_time.result = search rules in
    let shown_at : to_z w64 (of_z w64 (to_z w64 (of_z w64 d.base) +ℤ to_z w64 (of_z w64 d.sample.presentation))) ≡ d.base +ℤ d.sample.presentation = omega (arith, ints, due.base, due.small.presentation) in
    let decoded : to_z w64 (of_z w64 c.decode_time.result) ≡ (shown Ts d).sample.dts = to_z-of_z w64 c.decode_time.result fits ∙ c.decode_time.ensures in
    let forms : is_backward Ts (of_track kind (shown Ts d)) ≡ is_backward c.args.form (of_track kind (shown c.args.form d)) = ap (λ (f : Form). is_backward f (of_track kind (shown f d))) (sym c.in-Ts.is) in
    ap₂ (λ (a b : ℤ). int_lt a b) shown_at decoded ∙ back_is d kind ∙ forms
