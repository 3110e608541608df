use Rattle.std.proofs.Common.{◌≡◌, ◌≤◌, false}
use Rattle.vod_session.specs.Calls.{AreAnswers}
use Rattle.vod_session.specs.Doors.{ServesDoor}
use Rattle.vod_session.specs.Steps.{Answers}
use Rattle.vod_session.proofs.doors.serve_door.Given as goal

abbrev pub invariant-loop : goal.invariant-loop
invariant-loop g l =
    record {
      served : (answer : Answers) → AreAnswers (g.A.Answerer.answer (g.A.Answerer.kept l.fn.a)) answer →
          ServesDoor {L = g.row.D-L.Denot} answer g.D.L.Link.left g.D.L.Sink.written (g.D.Door.coming l.fn.door) (g.D.Door.coming l.door)
          (g.D.Door.returned l.fn.door) (g.D.Door.returned l.door) (g.D.Door.out l.fn.door) (g.D.Door.out l.door) l.counter false
          (g.A.Answerer.faults l.fn.a) (g.A.Answerer.faults l.a);
      out : g.D.Door.out l.door ≡ g.D.Door.out l.fn.door;
      kept : g.A.Answerer.kept l.a ≡ g.A.Answerer.kept l.fn.a;
      later : g.A.Answerer.faults l.fn.a ≤ g.A.Answerer.faults l.a;
      door_later : g.D.Door.faults l.fn.door ≤ g.D.Door.faults l.door;
    }
