use Rattle.std.proofs.Common.{◌≡◌, ◌≤◌, ◌<◌, ℕ, List, Some, None, length}
use Rattle.std.specs.Prelude.{slice_get}
use Rattle.vod_turns.specs.declared.seats.Seat.{Seat}
use Rattle.vod_turns.specs.Seats.{AreReady, AreSeated, all_left}
use Rattle.vod_turns.proofs.rounds.take_round.Given as goal

abbrev pub invariant-loop-n : goal.invariant-loop-n
invariant-loop-n g l =
    record {
      ready : AreReady (g.A.Answerer.belongs (g.A.Answerer.kept l.a)) g.A.Answerer.under_way g.A.Answerer.in_packets l.seats;
      seated : (first : List g.row.L.Denot) (turns : ℕ → ℕ) (faults : ℕ) → length first ≡ length l.fn.links →
          AreSeated g.L.Link.left g.L.Sink.written g.L.Sink.faults (g.A.Answerer.answer (g.A.Answerer.kept l.fn.a)) (g.A.Answerer.rest (g.A.Answerer.kept l.fn.a)) first l.fn.links l.fn.seats turns faults (g.A.Answerer.faults l.fn.a) →
          (turns_now : ℕ → ℕ) × AreSeated g.L.Link.left g.L.Sink.written g.L.Sink.faults (g.A.Answerer.answer (g.A.Answerer.kept l.fn.a)) (g.A.Answerer.rest (g.A.Answerer.kept l.fn.a)) first l.links l.seats turns_now faults (g.A.Answerer.faults l.a);
      kept : g.A.Answerer.kept l.a ≡ g.A.Answerer.kept l.fn.a;
      later : g.A.Answerer.faults l.fn.a ≤ g.A.Answerer.faults l.a;
      fewer : all_left g.A.Answerer.calls_left l.seats ≤ all_left g.A.Answerer.calls_left l.fn.seats;
      fell : (i : ℕ) (seat : Seat g.row.A-Cursor.Denot) → i < l.n → slice_get l.fn.seats i ≡ Some seat → seat.end ≡ None → all_left g.A.Answerer.calls_left l.seats < all_left g.A.Answerer.calls_left l.fn.seats;
      same : (i : ℕ) → l.n ≤ i → slice_get l.seats i ≡ slice_get l.fn.seats i;
    }
