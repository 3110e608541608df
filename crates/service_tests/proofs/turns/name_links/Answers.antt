use Rattle.std.proofs.Common.{◌<◌, ◌≤◌, ℕ, List, [], length, take, All, sym, subst, arith}
use Rattle.std.proofs.lemmas.List.{take_all, take_more}
use Rattle.std.proofs.lemmas.List.Elements.{All-append, All-cons, All-nil}
use Rattle.service_tests.proofs.turns.name_links.Goals as goal

pub loop-number-init : goal.loop-number-init
loop-number-init c = All-nil (λ n. n < c.args.count)

pub loop-number-preserved : goal.loop-number-preserved
loop-number-preserved c =
    subst (All (λ n. n < c.args.count)) (sym (take_more c.args.order.now c.loop-number.number-index 0 c.loop-number-test.true))
    (All-append (λ n. n < c.args.count) (take c.loop-number.number-index c.args.order.now) _ c.loop-number.invariant
    (All-cons (λ n. n < c.args.count) _ [] c.if-number-count.false (All-nil (λ n. n < c.args.count))))

pub returns : goal.returns
returns c = λ named.
    subst (All (λ n. n < c.args.count)) (take_all c.loop-number.number-index c.args.order.now (let past : length c.args.order.now ≤ c.loop-number.number-index = c.loop-number-test.false in omega (arith, past)))
    c.loop-number.invariant
