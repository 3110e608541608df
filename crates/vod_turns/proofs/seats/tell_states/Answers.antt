use Rattle.std.proofs.Common.{Some, ap, ◌∙◌, inl, inr, arith, ◌≡◌, subst, get_or, ℕ}
use Rattle.std.specs.Prelude.{slice_get}
use Rattle.std.proofs.lemmas.Option.{slice_get_within, get_or_from_slice_get}
use Rattle.vod_turns.specs.declared.seats.Seat.{Seat}
use Rattle.vod_turns.proofs.SeatLemmas.{get_set}
use Rattle.vod_turns.proofs.seats.tell_states.Goals as goal

pub loop-i-preserved : goal.loop-i-preserved
loop-i-preserved g c = λ k seat state below seat_is state_is.
    elim (get_set c.loop-i.states c.loop-i.i k (record { progress = c.progress.result; end = (get_or c.args.seats.now c.loop-i.i c.index-seats-i-in-loop-i.result).end }) state state_is) [
      | inl here ↦
          let at = subst (λ (n : ℕ). slice_get c.args.seats.now n ≡ Some seat) here.0 seat_is in
          let progress = c.progress.ensures ∙ ap (λ (s : Seat g.row.C.Denot). s.session.progress) (get_or_from_slice_get c.args.seats.now c.loop-i.i seat c.index-seats-i.result at) in
          let end = ap (λ (s : Seat g.row.C.Denot). s.end) (get_or_from_slice_get c.args.seats.now c.loop-i.i seat c.index-seats-i-in-loop-i.result at) in
          let new = here.1 in
          cc (progress, end, new)
      | inr other ↦ c.loop-i.invariant k seat state (omega (arith, other.0)) seat_is other.1
    ]

pub returns : goal.returns
returns g c = λ i seat state seat_is state_is.
    let within = slice_get_within c.args.seats.now i seat seat_is in
    c.loop-i.invariant i seat state (omega arith) seat_is state_is
