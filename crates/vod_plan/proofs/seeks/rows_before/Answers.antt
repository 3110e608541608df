-- The first row with which a cell may begin, by its number.
use Rattle.std.proofs.Common.{◌≡◌, ◌-ℤ◌, max, IfSome, sym, ap, subst, ◌∙◌, arith}
use Rattle.std.specs.Prelude.{IsSome}
use Rattle.std.proofs.lemmas.Int.{ints}
use Rattle.vod_plan.specs.Ranges.{range_of}
use Rattle.vod_plan.specs.Seeks.{aligned, found_at}
use Rattle.vod_plan.specs.Selected.{IsKept}
use Rattle.vod_plan.specs.Spans.{piece_view}
use Rattle.vod_plan.proofs.SeekLemmas.{aligned_from, begins, found_bound, found_there, some_of}
use Rattle.vod_plan.proofs.SpotLemmas.{good_range}
use Rattle.vod_plan.proofs.seeks.rows_before.Goals as goal

pub aligned-requires-clause-within : goal.aligned-requires-clause-within
aligned-requires-clause-within g c = λ r e.
    let good = good_range c.args.kind c.args.piece.now r c.requires.piece e in
    let found = found_bound c.args.kind r _ _ (c.found_at.ensures.value r e) in
    omega (arith, c.max-row.ensures, c.range-span.ensures.from r e, found, good.from, good.to)

pub overflow_sub-result : goal.overflow_sub-result
overflow_sub-result g c =
    let kind = c.args.kind in
    let some : IsSome (range_of kind (piece_view c.args.piece.now)) = sym c.has.ensures ∙ c.if-not-has.false in
    let r = some_of (range_of kind (piece_view c.args.piece.now)) some in
    let good = good_range kind c.args.piece.now r.0 c.requires.piece r.1 in
    let later = aligned_from c.args.align r.0 c.max-row.result in
    omega (arith, c.min.ensures, c.aligned.ensures.value r.0 r.1, later, c.max-row.ensures, c.range-span.ensures.from r.0 r.1, c.range-span.ensures.to r.0 r.1, good.from)

pub returns-clause-count : goal.returns-clause-count
returns-clause-count g c = λ file r e.
    let kind = c.args.kind in
    let base = c.args.piece.now.base in
    let good = good_range kind c.args.piece.now r c.requires.piece e in
    let kept = subst (λ o. IfSome o (IsKept kind)) e c.requires.kept in
    let due = begins kind file base r c.args.align c.args.time good kept in
    let found : c.found_at.result ≡ found_at kind r (c.args.time -ℤ base) = found_there kind r _ _ (c.args.time -ℤ base) (c.found_at.ensures.value r e) (omega (arith, ints, c.requires.time, c.requires.piece.base)) in
    let row : c.max-row.result ≡ max r.from (found_at kind r (c.args.time -ℤ base)) = omega (arith, c.max-row.ensures, c.range-span.ensures.from r e, found) in
    let begin : c.aligned.result ≡ aligned c.args.align r (max r.from (found_at kind r (c.args.time -ℤ base))) = c.aligned.ensures.value r e ∙ ap (aligned c.args.align r) row in
    omega (arith, due, begin, c.min.ensures, c.range-span.ensures.from r e, c.range-span.ensures.to r e)
