use Rattle.std.proofs.Common.{refl, sym, ◌∙◌, subst, arith}
use Rattle.vod_turns.specs.Seats.{AreSeated}
use Rattle.vod_turns.proofs.SeatLemmas.{fresh_ready, seats_start}
use Rattle.vod_turns.proofs.rounds.take_rounds.Goals as goal

pub rounds-init : goal.rounds-init
rounds-init g c = record {
  ready = fresh_ready (g.A.Answerer.belongs (g.A.Answerer.kept c.args.a.now)) g.A.Answerer.under_way g.A.Answerer.in_packets c.args.seats.now c.requires.fresh;
  seated = (
    λ i. 0,
    seats_start g.L.Link.left g.L.Sink.written g.L.Sink.faults (g.A.Answerer.answer (g.A.Answerer.kept c.args.a.now)) (g.A.Answerer.rest (g.A.Answerer.kept c.args.a.now))
        c.args.links.now c.args.seats.now (λ i. 0) (g.A.Answerer.faults c.args.a.now) c.requires.fresh (λ i. refl),
  );
  kept = refl;
  later = omega arith;
}

pub rounds-smaller : goal.rounds-smaller
rounds-smaller g c = c.take_round.ensures.fewer (c.rounds-test.ensures.open refl)

pub rounds-preserved : goal.rounds-preserved
rounds-preserved g c =
    let kept = c.rounds.invariant.kept in
    let were = c.rounds.invariant.seated in
    let was = λ (k : g.A.Answerer.Kept). AreSeated g.L.Link.left g.L.Sink.written g.L.Sink.faults (g.A.Answerer.answer k) (g.A.Answerer.rest k) c.args.links.now c.rounds.links c.rounds.seats were.0 (g.A.Answerer.faults c.args.a.now) (g.A.Answerer.faults c.rounds.a) in
    let next = c.take_round.ensures.seated c.args.links.now were.0 (g.A.Answerer.faults c.args.a.now) (omega arith) (subst was (sym kept) were.1) in
    let is = λ (k : g.A.Answerer.Kept). AreSeated g.L.Link.left g.L.Sink.written g.L.Sink.faults (g.A.Answerer.answer k) (g.A.Answerer.rest k) c.args.links.now c.take_round.new.links c.take_round.new.seats next.0 (g.A.Answerer.faults c.args.a.now) (g.A.Answerer.faults c.take_round.new.a) in
    record {
      ready = c.take_round.ensures.ready;
      seated = (next.0, subst is kept next.1);
      kept = c.take_round.ensures.kept ∙ kept;
      later = omega (arith, c.rounds.invariant.later, c.take_round.ensures.later);
    }

pub returns-clause-over : goal.returns-clause-over
returns-clause-over g c = c.rounds-test.ensures.over refl
