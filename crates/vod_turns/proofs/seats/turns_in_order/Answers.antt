use Rattle.std.proofs.Common.{ℕ, ◌+◌, List, ◌∙◌, refl, sym, subst, arith, take}
use Rattle.std.proofs.lemmas.List.{take_all}
use Rattle.vod_turns.specs.Seats.{AreSeated}
use Rattle.vod_turns.specs.Turns.{times}
use Rattle.vod_turns.proofs.SeatLemmas.{fresh_ready, seats_start, next_of_order}
use Rattle.vod_turns.proofs.seats.turns_in_order.Goals as goal

pub loop-n-init : goal.loop-n-init
loop-n-init g c = record {
  ready = fresh_ready (g.A.Answerer.belongs (g.A.Answerer.kept c.args.a.now)) g.A.Answerer.under_way g.A.Answerer.in_packets c.args.seats.now c.requires.fresh;
  seated = seats_start g.L.Link.left g.L.Sink.written g.L.Sink.faults (g.A.Answerer.answer (g.A.Answerer.kept c.args.a.now)) (g.A.Answerer.rest (g.A.Answerer.kept c.args.a.now))
      c.args.links.now c.args.seats.now (λ i. times i (take 0 c.args.order.now)) (g.A.Answerer.faults c.args.a.now) c.requires.fresh (λ i. refl);
  kept = refl;
  later = omega arith;
}

pub loop-n-preserved : goal.loop-n-preserved
loop-n-preserved g c =
    let kept = c.loop-n.invariant.kept in
    let next = next_of_order c.args.order.now c.loop-n.n-index 0 c.loop-n-test.true in
    let turned = λ (k : g.A.Answerer.Kept). AreSeated g.L.Link.left g.L.Sink.written g.L.Sink.faults (g.A.Answerer.answer k) (g.A.Answerer.rest k)
    c.args.links.now c.turn_at.new.links c.turn_at.new.seats (λ i. times i (take (c.loop-n.n-index + 1) c.args.order.now)) (g.A.Answerer.faults c.args.a.now) (g.A.Answerer.faults c.turn_at.new.a) in
    let were = λ (k : g.A.Answerer.Kept). AreSeated g.L.Link.left g.L.Sink.written g.L.Sink.faults (g.A.Answerer.answer k) (g.A.Answerer.rest k)
    c.args.links.now c.loop-n.links c.loop-n.seats (λ i. times i (take c.loop-n.n-index c.args.order.now)) (g.A.Answerer.faults c.args.a.now) (g.A.Answerer.faults c.loop-n.a) in
    record {
      ready = c.turn_at.ensures.ready;
      seated = subst turned kept
          (c.turn_at.ensures.seated c.args.links.now (λ i. times i (take c.loop-n.n-index c.args.order.now)) (λ i. times i (take (c.loop-n.n-index + 1) c.args.order.now)) (g.A.Answerer.faults c.args.a.now)
          (omega arith) next (subst were (sym kept) c.loop-n.invariant.seated));
      kept = c.turn_at.ensures.kept ∙ kept;
      later = omega (arith, c.loop-n.invariant.later, c.turn_at.ensures.later);
    }

pub returns-clause-seated : goal.returns-clause-seated
returns-clause-seated g c =
    let whole = take_all c.loop-n.n-index c.args.order.now c.loop-n-test.false in
    subst (λ (o : List ℕ). AreSeated g.L.Link.left g.L.Sink.written g.L.Sink.faults (g.A.Answerer.answer (g.A.Answerer.kept c.args.a.now)) (g.A.Answerer.rest (g.A.Answerer.kept c.args.a.now))
    c.args.links.now c.loop-n.links c.loop-n.seats (λ i. times i o) (g.A.Answerer.faults c.args.a.now) (g.A.Answerer.faults c.loop-n.a)) whole c.loop-n.invariant.seated
