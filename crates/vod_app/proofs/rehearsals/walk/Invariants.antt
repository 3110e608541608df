use Rattle.std.proofs.Common.{◌≡◌, ◌++◌, IsTrue, Some}
use Rattle.std.specs.Prelude.{IfSome}
use Rattle.vod_http.specs.Answered.{Rest}
use Rattle.vod_app.proofs.rehearsals.walk.Given as goal

abbrev pub invariant-steps : goal.invariant-steps
invariant-steps g l = record {
  belongs : g.A.Answerer.belongs (g.A.Answerer.kept l.a) l.cursor;
  under_way : IsTrue (g.A.Answerer.under_way l.cursor);
  kept : g.A.Answerer.kept l.a ≡ g.A.Answerer.kept l.fn.a;
  rest : IfSome (g.A.Answerer.rest (g.A.Answerer.kept l.fn.a) l.fn.cursor) (λ all.
      (left : Rest) × (g.A.Answerer.rest (g.A.Answerer.kept l.fn.a) l.cursor ≡ Some left) × (all.0 ≡ l.sink.bytes ++ left.0));
}

abbrev pub decreases-steps : goal.decreases-steps
decreases-steps g l = g.A.Answerer.calls_left l.cursor
