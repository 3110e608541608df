use Rattle.std.proofs.Common.{refl, arith}
use Rattle.vod_turns.proofs.SeatLemmas.{falls_over, falls_again, falls_end, seat_idle, seat_again, seat_ends}
use Rattle.vod_turns.proofs.seats.take_turn.Goals as goal

pub returns-in-Some-clause-seated : goal.returns-in-Some-clause-seated
returns-in-Some-clause-seated g c = λ first turns met faults is.
    seat_idle g.L.Link.left g.L.Sink.written g.L.Sink.faults (g.A.Answerer.answer (g.A.Answerer.kept c.args.a.now)) (g.A.Answerer.rest (g.A.Answerer.kept c.args.a.now))
    first c.args.link.now c.args.link.now c.args.seat.now turns met faults (g.A.Answerer.faults c.args.a.now) (g.A.Answerer.faults c.args.a.now) is (omega arith) c.in-Some.field-0 c.in-Some.is

pub returns-in-Again-clause-seated : goal.returns-in-Again-clause-seated
returns-in-Again-clause-seated g c = λ first turns met faults is.
    seat_again g.L.Link.left g.L.Sink.written g.L.Sink.faults (g.A.Answerer.answer (g.A.Answerer.kept c.args.a.now)) (g.A.Answerer.rest (g.A.Answerer.kept c.args.a.now))
    first c.args.link.now c.step.new.link c.args.seat.now turns met faults (g.A.Answerer.faults c.args.a.now) (g.A.Answerer.faults c.step.new.a) is c.in-Again.ensures.later
    c.step.new.self c.in-None.is c.in-Again.ensures.link_later c.in-Again.ensures.did (c.in-Again.ensures.progress refl)

pub returns-in-Ended-clause-seated : goal.returns-in-Ended-clause-seated
returns-in-Ended-clause-seated g c = λ first turns met faults is.
    seat_ends g.L.Link.left g.L.Sink.written g.L.Sink.faults (g.A.Answerer.answer (g.A.Answerer.kept c.args.a.now)) (g.A.Answerer.rest (g.A.Answerer.kept c.args.a.now))
    first c.args.link.now c.step.new.link c.args.seat.now turns met faults (g.A.Answerer.faults c.args.a.now) (g.A.Answerer.faults c.step.new.a) is c.in-Ended.ensures.later
    c.step.new.self c.in-None.is c.in-Ended.ensures.link_later c.in-Ended.end c.in-Ended.ensures.did c.in-Ended.ensures.link_failed c.in-Ended.ensures.store_failed c.in-Ended.ensures.memory

pub returns-in-Some-clause-left : goal.returns-in-Some-clause-left
returns-in-Some-clause-left g c = falls_over c.args.seat.now.end c.in-Some.field-0 _ c.in-Some.is

pub returns-in-Again-clause-left : goal.returns-in-Again-clause-left
returns-in-Again-clause-left g c = falls_again g.A.Answerer.calls_left c.args.seat.now.session c.step.new.self c.args.seat.now.end c.in-None.is (c.in-Again.ensures.fewer refl)

pub returns-in-Ended-clause-left : goal.returns-in-Ended-clause-left
returns-in-Ended-clause-left g c = falls_end g.A.Answerer.calls_left c.args.seat.now.session c.step.new.self c.args.seat.now.end c.in-None.is c.in-Ended.end
