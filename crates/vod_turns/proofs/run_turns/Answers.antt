use Rattle.std.proofs.Common.{rules, List, refl, sym, subst, arith}
use Rattle.vod_turns.specs.declared.seats.Seat.{Seat}
use Rattle.vod_turns.specs.Seats.{AreFresh}
use Rattle.vod_turns.specs.Turns.{times}
use Rattle.vod_turns.proofs.SeatEnds.{links_untouched, links_turned, links_come, links_causes}
use Rattle.vod_turns.proofs.run_turns.Goals as goal

pub turns_in_order-requires-clause-fresh : goal.turns_in_order-requires-clause-fresh
turns_in_order-requires-clause-fresh g c = subst (λ (seats : List (Seat g.row.A-Cursor.Denot)). AreFresh seats) (sym c.deref_mut-places.ensures.value) c.in_ok-seats.ensures.fresh

pub returns-clause-turned : goal.returns-clause-turned
returns-clause-turned g c = λ answer told.
    links_turned g.L.Link.left g.L.Sink.written g.L.Sink.faults (g.A.Answerer.answer (g.A.Answerer.kept c.args.a.now)) (g.A.Answerer.rest (g.A.Answerer.kept c.args.a.now))
    c.args.links.now c.turns_in_order.new.links c.turns_in_order.new.seats (λ i. times i c.args.order.now) (g.A.Answerer.faults c.args.a.now) (g.A.Answerer.faults c.turns_in_order.new.a)
    c.turns_in_order.ensures.seated (omega arith) (search rules) c.told_states.result.items c.told_states.ensures.many c.told_states.ensures.told answer told c.args.order.now (λ i. refl)

pub returns-clause-come : goal.returns-clause-come
returns-clause-come g c =
    links_come g.L.Link.left g.L.Sink.written g.L.Sink.faults (g.A.Answerer.answer (g.A.Answerer.kept c.args.a.now)) (g.A.Answerer.rest (g.A.Answerer.kept c.args.a.now))
    c.args.links.now c.turns_in_order.new.links c.turns_in_order.new.seats (λ i. times i c.args.order.now) (g.A.Answerer.faults c.args.a.now) (g.A.Answerer.faults c.turns_in_order.new.a)
    c.turns_in_order.ensures.seated (omega arith) (search rules) c.told_states.result.items c.told_states.ensures.many c.told_states.ensures.told c.args.order.now c.turns_in_order.ensures.small (λ i. refl)

pub returns-clause-untouched : goal.returns-clause-untouched
returns-clause-untouched g c =
    links_untouched g.L.Link.left g.L.Sink.written g.L.Sink.faults (g.A.Answerer.answer (g.A.Answerer.kept c.args.a.now)) (g.A.Answerer.rest (g.A.Answerer.kept c.args.a.now))
    c.args.links.now c.turns_in_order.new.links c.turns_in_order.new.seats (λ i. times i c.args.order.now) (g.A.Answerer.faults c.args.a.now) (g.A.Answerer.faults c.turns_in_order.new.a)
    c.turns_in_order.ensures.seated (omega arith) (search rules)

pub returns-clause-causes : goal.returns-clause-causes
returns-clause-causes g c =
    links_causes g.L.Link.left g.L.Sink.written g.L.Sink.faults (g.A.Answerer.answer (g.A.Answerer.kept c.args.a.now)) (g.A.Answerer.rest (g.A.Answerer.kept c.args.a.now))
    c.args.links.now c.turns_in_order.new.links c.turns_in_order.new.seats (λ i. times i c.args.order.now) (g.A.Answerer.faults c.args.a.now) (g.A.Answerer.faults c.turns_in_order.new.a)
    c.turns_in_order.ensures.seated (omega arith) (search rules) c.told_states.result.items c.told_states.ensures.many c.told_states.ensures.told
