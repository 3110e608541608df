use Rattle.std.proofs.Common.{◌≡◌, ◌≤◌, ℕ}
use Rattle.vod_turns.specs.Seats.{AreReady, AreSeated, all_left}
use Rattle.vod_turns.proofs.rounds.take_rounds.Given as goal

abbrev pub invariant-rounds : goal.invariant-rounds
invariant-rounds g l =
    record {
      ready : AreReady (g.A.Answerer.belongs (g.A.Answerer.kept l.a)) g.A.Answerer.under_way g.A.Answerer.in_packets l.seats;
      seated : (turns : ℕ → ℕ) × AreSeated g.L.Link.left g.L.Sink.written g.L.Sink.faults (g.A.Answerer.answer (g.A.Answerer.kept l.fn.a)) (g.A.Answerer.rest (g.A.Answerer.kept l.fn.a))
          l.fn.links l.links l.seats turns (g.A.Answerer.faults l.fn.a) (g.A.Answerer.faults l.a);
      kept : g.A.Answerer.kept l.a ≡ g.A.Answerer.kept l.fn.a;
      later : g.A.Answerer.faults l.fn.a ≤ g.A.Answerer.faults l.a;
    }

abbrev pub decreases-rounds : goal.decreases-rounds
decreases-rounds g l = all_left g.A.Answerer.calls_left l.seats
