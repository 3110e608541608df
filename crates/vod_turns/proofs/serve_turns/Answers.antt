use Rattle.std.proofs.Common.{rules, List, sym, subst, arith}
use Rattle.vod_turns.specs.declared.seats.Seat.{Seat}
use Rattle.vod_turns.specs.Seats.{AreFresh}
use Rattle.vod_turns.proofs.SeatEnds.{links_served, served_causes}
use Rattle.vod_turns.proofs.serve_turns.Goals as goal

pub take_rounds-requires-clause-fresh : goal.take_rounds-requires-clause-fresh
take_rounds-requires-clause-fresh g c = subst (λ (seats : List (Seat g.row.A-Cursor.Denot)). AreFresh seats) (sym c.deref_mut-places.ensures.value) c.in_ok-seats.ensures.fresh

pub returns-clause-served : goal.returns-clause-served
returns-clause-served g c = λ answer told.
    links_served g.L.Link.left g.L.Sink.written g.L.Sink.faults (g.A.Answerer.answer (g.A.Answerer.kept c.args.a.now)) (g.A.Answerer.rest (g.A.Answerer.kept c.args.a.now))
    c.args.links.now c.take_rounds.new.links c.take_rounds.new.seats c.take_rounds.ensures.seated.0 (g.A.Answerer.faults c.args.a.now) (g.A.Answerer.faults c.take_rounds.new.a)
    c.take_rounds.ensures.seated.1 (omega arith) (search rules) c.told_ends.result.items c.take_rounds.ensures.over c.told_ends.ensures.told answer told

pub returns-clause-causes : goal.returns-clause-causes
returns-clause-causes g c =
    served_causes g.L.Link.left g.L.Sink.written g.L.Sink.faults (g.A.Answerer.answer (g.A.Answerer.kept c.args.a.now)) (g.A.Answerer.rest (g.A.Answerer.kept c.args.a.now))
    c.args.links.now c.take_rounds.new.links c.take_rounds.new.seats c.take_rounds.ensures.seated.0 (g.A.Answerer.faults c.args.a.now) (g.A.Answerer.faults c.take_rounds.new.a)
    c.take_rounds.ensures.seated.1 (omega arith) (search rules) c.told_ends.result.items c.take_rounds.ensures.over c.told_ends.ensures.told c.told_ends.ensures.many
