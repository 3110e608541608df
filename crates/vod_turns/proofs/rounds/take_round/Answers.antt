use Rattle.std.proofs.Common.{◌≡◌, ◌+◌, ◌==◌, ℕ, Some, inl, inr, cond, sym, ◌∙◌, subst, arith}
use Rattle.std.specs.Prelude.{slice_get}
use Rattle.std.proofs.lemmas.Option.{slice_get_within}
use Rattle.vod_turns.specs.Seats.{AreSeated}
use Rattle.vod_turns.proofs.SeatLemmas.{below_or_at, one_more}
use Rattle.vod_turns.proofs.SeatEnds.{get_some}
use Rattle.vod_turns.proofs.rounds.take_round.Goals as goal

pub loop-n-preserved : goal.loop-n-preserved
loop-n-preserved g c =
    let kept = c.loop-n.invariant.kept in
    let some = get_some c.loop-n.seats c.loop-n.n (omega arith) in
    let falls_here = c.turn_at.ensures.left some.0 some.1 in
    record {
      ready = c.turn_at.ensures.ready;
      seated = λ first turns faults long start.
          let were = c.loop-n.invariant.seated first turns faults long start in
          let turns_now : ℕ → ℕ = λ i. were.0 i + cond (i == c.loop-n.n) 1 0 in
          let was = λ (k : g.A.Answerer.Kept). AreSeated g.L.Link.left g.L.Sink.written g.L.Sink.faults (g.A.Answerer.answer k) (g.A.Answerer.rest k) first c.loop-n.links c.loop-n.seats were.0 faults (g.A.Answerer.faults c.loop-n.a) in
          let is = λ (k : g.A.Answerer.Kept). AreSeated g.L.Link.left g.L.Sink.written g.L.Sink.faults (g.A.Answerer.answer k) (g.A.Answerer.rest k) first c.turn_at.new.links c.turn_at.new.seats turns_now faults (g.A.Answerer.faults c.turn_at.new.a) in
          (turns_now, subst is kept (c.turn_at.ensures.seated first were.0 turns_now faults (omega (arith, long)) (one_more c.loop-n.n were.0) (subst was (sym kept) were.1)));
      kept = c.turn_at.ensures.kept ∙ kept;
      later = omega (arith, c.loop-n.invariant.later, c.turn_at.ensures.later);
      fewer = omega (arith, falls_here.0, c.loop-n.invariant.fewer);
      fell = λ i seat below is none. elim (below_or_at i c.loop-n.n below) [
        | inl less ↦ let fell = c.loop-n.invariant.fell i seat less is none in omega (arith, fell, falls_here.0)
        | inr at ↦
            let here = subst (λ (k : ℕ). slice_get c.args.seats.now k ≡ Some seat) at is in
            let falls = c.turn_at.ensures.left seat (c.loop-n.invariant.same c.loop-n.n (omega arith) ∙ here) in
            let less = falls.1 none in omega (arith, less, c.loop-n.invariant.fewer)
      ];
      same = λ i past. c.turn_at.ensures.others i (λ e. absurd (omega (arith, e, past))) ∙ c.loop-n.invariant.same i (omega (arith, past));
    }

pub returns-clause-fewer : goal.returns-clause-fewer
returns-clause-fewer g c = λ open_one.
    let within = slice_get_within c.args.seats.now open_one.0 open_one.1 open_one.2 in
    c.loop-n.invariant.fell open_one.0 open_one.1 (omega arith) open_one.2 open_one.3
