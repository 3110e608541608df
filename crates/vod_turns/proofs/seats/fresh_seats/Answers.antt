use Rattle.std.proofs.Common.{rules, sym, subst, List}
use Rattle.vod_turns.specs.Seats.{AreFresh}
use Rattle.vod_turns.specs.declared.seats.Seat.{Seat}
use Rattle.vod_turns.proofs.SeatLemmas.{fresh_push}
use Rattle.vod_turns.proofs.seats.fresh_seats.Goals as goal

pub loop-preserved : goal.loop-preserved
loop-preserved g c = record {
  many = search rules;
  fresh = subst (λ (seats : List (Seat g.row.C.Denot)). AreFresh seats) (sym c.in_ok-push.ensures.items) (fresh_push c.loop.seats.items c.in_ok-session.session c.loop.invariant.fresh c.in_ok-session.ensures);
}
