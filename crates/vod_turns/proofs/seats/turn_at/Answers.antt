use Rattle.std.proofs.Common.{◌<◌, length, sym, subst, arith}
use Rattle.std.proofs.lemmas.Option.{slice_get-get_or}
use Rattle.vod_turns.specs.Seats.{AreReady, seat_left}
use Rattle.vod_turns.proofs.SeatLemmas.{get_other, all_fall, ready_set, seats_next}
use Rattle.vod_turns.proofs.seats.turn_at.Goals as goal

pub take_turn-requires : goal.take_turn-requires
take_turn-requires g c =
    let within : c.args.n < length c.args.seats.now = omega (arith, c.requires.within, c.requires.seats) in
    c.requires.ready c.args.n _ (slice_get-get_or c.args.seats.now c.args.n c.index-seats-n.result within)

pub returns-clause-ready : goal.returns-clause-ready
returns-clause-ready g c =
    ready_set (g.A.Answerer.belongs (g.A.Answerer.kept c.take_turn.new.a)) g.A.Answerer.under_way g.A.Answerer.in_packets c.args.seats.now c.args.n c.take_turn.new.seat
    (subst (λ (k : g.A.Answerer.Kept). AreReady (g.A.Answerer.belongs k) g.A.Answerer.under_way g.A.Answerer.in_packets c.args.seats.now) (sym c.take_turn.ensures.kept) c.requires.ready)
    c.take_turn.ensures.ready

pub returns-clause-seated : goal.returns-clause-seated
returns-clause-seated g c = λ first turns turns_now faults same next are.
    let within : c.args.n < length c.args.seats.now = omega (arith, c.requires.within, c.requires.seats) in
    seats_next g.L.Link.left g.L.Sink.written g.L.Sink.faults (g.A.Answerer.answer (g.A.Answerer.kept c.args.a.now)) (g.A.Answerer.rest (g.A.Answerer.kept c.args.a.now))
    first c.args.links.now c.args.seats.now turns turns_now c.args.n faults (g.A.Answerer.faults c.args.a.now) (g.A.Answerer.faults c.take_turn.new.a) c.take_turn.ensures.later
    c.requires.within same next are _ c.take_turn.new.link _ c.take_turn.new.seat
    (slice_get-get_or c.args.links.now c.args.n c.index-links-n.result c.requires.within)
    (slice_get-get_or c.args.seats.now c.args.n c.index-seats-n.result within)
    (λ f t m is. c.take_turn.ensures.seated f t m faults is)

pub returns-clause-others : goal.returns-clause-others
returns-clause-others g c = λ i other. get_other c.args.seats.now c.args.n i c.take_turn.new.seat other

pub returns-clause-left : goal.returns-clause-left
returns-clause-left g c = λ seat is.
    let within : c.args.n < length c.args.seats.now = omega (arith, c.requires.within, c.requires.seats) in
    all_fall (λ s. seat_left g.A.Answerer.calls_left s) c.args.seats.now c.args.n c.take_turn.new.seat c.index-seats-n.result seat within c.take_turn.ensures.left is
