use Rattle.std.proofs.Common.{◌≡◌, ◌≤◌, take}
use Rattle.vod_turns.specs.Seats.{AreReady, AreSeated}
use Rattle.vod_turns.specs.Turns.{times}
use Rattle.vod_turns.proofs.seats.turns_in_order.Given as goal

abbrev pub invariant-loop-n : goal.invariant-loop-n
invariant-loop-n g l =
    record {
      ready : AreReady (g.A.Answerer.belongs (g.A.Answerer.kept l.a)) g.A.Answerer.under_way g.A.Answerer.in_packets l.seats;
      seated : AreSeated g.L.Link.left g.L.Sink.written g.L.Sink.faults (g.A.Answerer.answer (g.A.Answerer.kept l.fn.a)) (g.A.Answerer.rest (g.A.Answerer.kept l.fn.a))
          l.fn.links l.links l.seats (λ i. times i (take l.n-index l.order)) (g.A.Answerer.faults l.fn.a) (g.A.Answerer.faults l.a);
      kept : g.A.Answerer.kept l.a ≡ g.A.Answerer.kept l.fn.a;
      later : g.A.Answerer.faults l.fn.a ≤ g.A.Answerer.faults l.a;
    }
