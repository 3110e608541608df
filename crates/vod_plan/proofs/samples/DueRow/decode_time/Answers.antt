-- When a row that is due is decoded.
use Rattle.std.proofs.Common.{rules, ◌≡◌, ℤ, ◌+ℤ◌, SFits, to_z, of_z, w64, arith, ap, ◌∙◌}
use Rattle.std.proofs.lemmas.Int.{ints, to_z-of_z}
use Rattle.vod_plan.specs.Cuts.{decoded_at}
use Rattle.vod_plan.specs.Dues.{due_view}
use Rattle.vod_plan.proofs.DueLemmas.{shown_dts}
use Rattle.vod_plan.proofs.TimeLemmas.{decoded-is}
use Rattle.vod_plan.proofs.samples.DueRow.decode_time.Goals as goal

pub returns : goal.returns
returns c =
    let d = c.args.self.now in
    let due = c.requires.due in
    let fits : SFits w64 c.decoded.result = search rules in
    let place : to_z w64 (of_z w64 (to_z w64 (of_z w64 d.base) +ℤ to_z w64 (of_z w64 d.sample.place))) ≡ d.base +ℤ d.sample.place = omega (arith, ints, due.base, due.small.place) in
    to_z-of_z w64 c.decoded.result fits ∙ c.decoded.ensures ∙ ap (λ (z : ℤ). decoded_at c.args.form z d.sample.lead_in) place ∙ decoded-is c.args.form (due_view d) ∙ shown_dts c.args.form d
