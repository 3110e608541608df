-- The row as the writers see it.
use Rattle.std.proofs.Common.{rules, ◌≡◌, ℕ, ℤ, ◌+ℤ◌, SFits, min, to_z, of_z, w64, arith, ap, ◌∙◌}
use Rattle.std.proofs.lemmas.Int.{ints, to_z-of_z}
use Rattle.segment_model.specs.Rows.{TimedRow}
use Rattle.segment_model.specs.Timeline.{placed}
use Rattle.vod_plan.specs.Cuts.{decoded_at, timed_view}
use Rattle.vod_plan.proofs.TimeLemmas.{decoded-is, row-is}
use Rattle.vod_plan.proofs.samples.TimedSample.row.Goals as goal

pub returns : goal.returns
returns c =
    let s = c.args.self.now in
    let r : TimedRow = placed c.args.file c.args.base (timed_view s) in
    let small = c.requires.small in
    let fits : SFits w64 c.decoded.result = search rules in
    let place : to_z w64 (of_z w64 (to_z w64 (of_z w64 c.args.base) +ℤ to_z w64 (of_z w64 s.place))) ≡ c.args.base +ℤ s.place = omega (arith, ints, c.requires.base, small.place) in
    let shown : to_z w64 (of_z w64 (to_z w64 (of_z w64 c.args.base) +ℤ to_z w64 (of_z w64 s.presentation))) ≡ c.args.base +ℤ s.presentation = omega (arith, ints, c.requires.base, small.presentation) in
    row-is c.args.form r c.from.result c.min.result _ _ c.from.ensures
    (to_z-of_z w64 c.decoded.result fits ∙ c.decoded.ensures ∙ ap (λ (z : ℤ). decoded_at c.args.form z s.lead_in) place ∙ decoded-is c.args.form r)
    shown
    (c.min.ensures ∙ ap (λ (n : ℕ). min s.duration n) c.from-2.ensures)
