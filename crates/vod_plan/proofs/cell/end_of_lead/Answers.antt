-- The last piece with a row is the first one from the end.
use Rattle.std.proofs.Common.{◌≡◌, ◌+◌, ◌-◌, ◌<◌, ℕ, w64, of_z, to_z, length, map, ap, ◌∙◌, arith}
use Rattle.std.proofs.lemmas.Int.{ints}
use Rattle.vod_plan.specs.Spans.{piece_view}
use Rattle.vod_plan.proofs.CellLemmas.{none_from, ends_with, lead_is}
use Rattle.vod_plan.proofs.PlaceLemmas.{rest}
use Rattle.vod_plan.proofs.SoundLemmas.{sound_piece}
use Rattle.vod_plan.proofs.cell.end_of_lead.Goals as goal

pub returns-then-rows-gt0-clause-end : goal.returns-then-rows-gt0-clause-end
returns-then-rows-gt0-clause-end g c =
    let kind = c.args.leads in
    let ps = c.args.pieces.now in
    let i : ℕ = length ps - 1 - c.loop-passed.passed in
    let p = c.index-pieces-pieces.result in
    let lt : i < length ps = omega (arith, c.loop-passed-test.true) in
    let is = c.index-pieces-pieces.is in
    let same : to_z w64 (of_z w64 c.end_of_rows.result) ≡ c.end_of_rows.result = omega (arith, ints, c.end_of_rows.ensures.bound) in
    let behind = ap (λ (n : ℕ). rest kind n ps) (let e : i + 1 ≡ length ps - c.loop-passed.passed = omega (arith, c.loop-passed-test.true) in e) ∙ c.loop-passed.invariant.none in
    same
    ∙ lead_is kind (map piece_view ps) c.args.start c.end_of_rows.result
    (ends_with kind ps i p lt is (sound_piece ps i p c.requires.pieces lt is) c.args.start c.end_of_rows.result (omega (arith, c.if-rows-gt0.true, c.rows.ensures)) behind c.end_of_rows.ensures.end)

pub loop-passed-preserved : goal.loop-passed-preserved
loop-passed-preserved g c =
    let kind = c.args.leads in
    let ps = c.args.pieces.now in
    let i : ℕ = length ps - 1 - c.loop-passed.passed in
    let p = c.index-pieces-pieces.result in
    let lt : i < length ps = omega (arith, c.loop-passed-test.true) in
    let is = c.index-pieces-pieces.is in
    let behind = ap (λ (n : ℕ). rest kind n ps) (let e : i + 1 ≡ length ps - c.loop-passed.passed = omega (arith, c.loop-passed-test.true) in e) ∙ c.loop-passed.invariant.none in
    record {
      none = ap (λ (n : ℕ). rest kind n ps) (let e : length ps - (c.loop-passed.passed + 1) ≡ i = omega arith in e)
          ∙ none_from kind ps i p lt is (sound_piece ps i p c.requires.pieces lt is) (omega (arith, c.if-rows-gt0.false, c.rows.ensures)) behind;
      looks = c.loop-passed.invariant.looks;
    }
