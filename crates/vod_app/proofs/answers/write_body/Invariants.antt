use Rattle.std.proofs.Common.{◌≡◌, ◌≤◌, IsTrue}
use Rattle.vod_origin.specs.Bodies.{IsBodyOf, calls_left, is_under_way}
use Rattle.vod_app.proofs.BodyLemmas.{HasRead, Wrote}
use Rattle.vod_app.proofs.answers.write_body.Given as goal

abbrev pub invariant-steps : goal.invariant-steps
invariant-steps g l =
    let told = g.S.Store.content l.fn.origin.store in
    record {
      belongs : IsBodyOf told l.left;
      under_way : IsTrue (is_under_way l.left);
      wrote : Wrote l.fn.cursor told l.left (g.K.Sink.written l.fn.out) (g.K.Sink.written l.out);
      read : HasRead l.fn.cursor told l.left (g.S.Store.log l.fn.origin.store) (g.S.Store.log l.origin.store);
      content : g.S.Store.content l.origin.store ≡ told;
      kept : g.K.Sink.kept l.out ≡ g.K.Sink.kept l.fn.out;
      store_later : g.S.Store.faults l.fn.origin.store ≤ g.S.Store.faults l.origin.store;
      out_later : g.K.Sink.faults l.fn.out ≤ g.K.Sink.faults l.out;
    }

abbrev pub decreases-steps : goal.decreases-steps
decreases-steps g l = calls_left l.left
