use Rattle.std.proofs.Common.{◌≡◌, ◌∙◌, ℕ, List, Some, None, inl, inr, sym, ap, subst, arith}
use Rattle.std.specs.Prelude.{slice_get}
use Rattle.std.proofs.lemmas.Option.{slice_get_within, get_or_from_slice_get}
use Rattle.vod_session.specs.declared.state.LinkEnd.{LinkEnd}
use Rattle.vod_turns.specs.declared.seats.Seat.{Seat}
use Rattle.vod_turns.proofs.SeatLemmas.{below_or_at, get_set}
use Rattle.vod_turns.proofs.rounds.tell_ends.Goals as goal
use Rattle.vod_turns.proofs.rounds.tell_ends.Goals.{in-Some, in-None}

pub loop-i-preserved : goal.loop-i-preserved
loop-i-preserved g c = λ k seat end told below seat_is told_is over.
    elim c.match-seats-i.branch [
      | in-Some w ↦
          elim (get_set c.loop-i.ends c.loop-i.i k w.in-Some.end told (subst (λ (ends : List LinkEnd). slice_get ends k ≡ Some told) w.ends-is told_is)) [
            | inl here ↦
                let at = subst (λ (n : ℕ). slice_get c.args.seats.now n ≡ Some seat) here.0 seat_is in
                let same = ap (λ (s : Seat g.row.C.Denot). s.end) (get_or_from_slice_get c.args.seats.now c.loop-i.i seat _ at) in
                let two : Some w.in-Some.end ≡ Some end = sym w.in-Some.is ∙ same ∙ over in
                let ends : w.in-Some.end ≡ end = cc in
                sym here.1 ∙ ends
            | inr other ↦ c.loop-i.invariant k seat end told (omega (arith, other.0)) seat_is other.1 over
          ]
      | in-None w ↦
          elim (below_or_at k c.loop-i.i below) [
            | inl less ↦ c.loop-i.invariant k seat end told less seat_is (subst (λ (ends : List LinkEnd). slice_get ends k ≡ Some told) w.ends-is told_is) over
            | inr here ↦
                let at = subst (λ (n : ℕ). slice_get c.args.seats.now n ≡ Some seat) here seat_is in
                let same = ap (λ (s : Seat g.row.C.Denot). s.end) (get_or_from_slice_get c.args.seats.now c.loop-i.i seat _ at) in
                let two : None ≡ Some end = sym w.in-None.is ∙ same ∙ over in
                absurd (cc)
          ]
    ]

pub returns : goal.returns
returns g c = λ i seat end told seat_is told_is over.
    let within = slice_get_within c.args.seats.now i seat seat_is in
    c.loop-i.invariant i seat end told (omega arith) seat_is told_is over
