use Rattle.std.proofs.Common.{rules, ◌∙◌, arith, false, refl, sym, subst}
use Rattle.vod_session.specs.Calls.{AreAnswers}
use Rattle.vod_session.proofs.DoorLemmas.{door_same, one_last, one_more}
use Rattle.vod_session.proofs.doors.serve_door.Goals as goal

pub loop-init : goal.loop-init
loop-init g c = record {
  served = λ answer told. door_same answer g.D.L.Link.left g.D.L.Sink.written _ _ _ _ _ _ false _ _ refl refl refl (omega arith);
  out = refl;
  kept = refl;
  later = omega arith;
  door_later = omega arith;
}

pub loop-preserved : goal.loop-preserved
loop-preserved g c =
    let kept = c.loop.invariant.kept in
    record {
      served = λ answer told.
          let told_now = subst (λ (k : g.A.Answerer.Kept). AreAnswers (g.A.Answerer.answer k) answer) (sym kept) told in
          one_more c.loop.counter (c.loop.invariant.served answer told) (c.in-Served.ensures.served answer told_now);
      out = search rules;
      kept = search rules;
      later = search rules;
      door_later = search rules;
    }

pub returns-in_default : goal.returns-in_default
returns-in_default g c =
    let kept = c.loop.invariant.kept in
    record {
      served = λ answer told.
          let told_now = subst (λ (k : g.A.Answerer.Kept). AreAnswers (g.A.Answerer.answer k) answer) (sym kept) told in
          one_last c.loop.counter c.args.count c.serve_next.result c.loop-test.true c.in_default.not-Served (c.loop.invariant.served answer told) (c.serve_next.ensures.served answer told_now);
      out = c.serve_next.ensures.out ∙ c.loop.invariant.out;
      door_failed = λ e. let rose = c.serve_next.ensures.door_failed e in omega (arith, rose, c.loop.invariant.door_later);
      kept = c.serve_next.ensures.kept ∙ kept;
      later = omega (arith, c.loop.invariant.later, c.serve_next.ensures.later);
      door_later = omega (arith, c.loop.invariant.door_later, c.serve_next.ensures.door_later);
    }
