use Rattle.std.proofs.Common.{rules, ◌≡◌, inl, inr, Option, Some, None}
use Rattle.std.specs.Prelude.{MatchOption}
use Rattle.vod_app.specs.Commands.{count_up_to, order_of_form}
use Rattle.vod_app.proofs.CommandLemmas.{empty_in_service, no_count, no_order, service_words}
use Rattle.vod_app.proofs.words.Command.of_service.Goals as goal
use Rattle.vod_app.proofs.words.Command.of_service.Goals.{then-is_empty-via-then-is_empty, then-is_empty-via-else-is_empty+then-is_empty-2, then-is_empty-via-else-is_empty+else-is_empty-2+then-is_empty-3}

by_none : {X : Type 0} (r : Option X) (A : Type 0) (P : X → Type 0) → r ≡ None → A → MatchOption r A P
by_none None A P e h = h
by_none (Some x) A P e h = absurd cc

pub returns-then-is_empty : goal.returns-then-is_empty
returns-then-is_empty c =
    empty_in_service c.args.form.now c.args.root.now c.args.settings.now c.args.addr.now c.args.count.now
    (elim c.then-is_empty.branch [
      | then-is_empty-via-then-is_empty w ↦ inl w.if-is_empty.ensures
      | then-is_empty-via-else-is_empty+then-is_empty-2 w ↦ inr (inl w.if-is_empty-2.ensures)
      | then-is_empty-via-else-is_empty+else-is_empty-2+then-is_empty-3 w ↦ inr (inr w.if-is_empty-3.ensures)
    ])

pub returns-in_err-order : goal.returns-in_err-order
returns-in_err-order c =
    let none : None ≡ order_of_form c.args.form.now = search rules in
    by_none c.from_residual.result _ _ (search rules)
    (no_order c.args.form.now c.args.root.now c.args.settings.now c.args.addr.now c.args.count.now c.if-is_empty.ensures c.if-is_empty-2.ensures c.if-is_empty-3.ensures none)

pub returns-in_err-count : goal.returns-in_err-count
returns-in_err-count c =
    let order : Some (c.in_ok-order.order, c.in_ok-order.most) ≡ order_of_form c.args.form.now = search rules in
    let none : None ≡ count_up_to c.in_ok-order.most c.args.count.now = search rules in
    by_none c.from_residual-in_err-count.result _ _ (search rules)
    (no_count c.args.form.now c.args.root.now c.args.settings.now c.args.addr.now c.args.count.now c.if-is_empty.ensures c.if-is_empty-2.ensures c.if-is_empty-3.ensures
    c.in_ok-order.order c.in_ok-order.most order none)

pub returns : goal.returns
returns c =
    let order : Some (c.in_ok-order.order, c.in_ok-order.most) ≡ order_of_form c.args.form.now = search rules in
    let some : Some c.in_ok-count.count ≡ count_up_to c.in_ok-order.most c.args.count.now = search rules in
    service_words c.args.form.now c.args.root.now c.args.settings.now c.args.addr.now c.args.count.now c.if-is_empty.ensures c.if-is_empty-2.ensures c.if-is_empty-3.ensures
    c.in_ok-order.order c.in_ok-order.most c.in_ok-count.count order some
