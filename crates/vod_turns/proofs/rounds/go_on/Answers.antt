use Rattle.std.proofs.Common.{◌≡◌, ℕ, Some, inl, inr, sym, ap, ◌∙◌, subst, arith}
use Rattle.std.specs.Prelude.{slice_get}
use Rattle.std.proofs.lemmas.Option.{slice_get_within, get_or_from_slice_get}
use Rattle.vod_turns.specs.declared.seats.Seat.{Seat}
use Rattle.vod_turns.proofs.SeatLemmas.{below_or_at}
use Rattle.vod_turns.proofs.rounds.go_on.Goals as goal

pub loop-i-preserved : goal.loop-i-preserved
loop-i-preserved g c = λ k seat below is. elim (below_or_at k c.loop-i.i below) [
  | inl less ↦ c.loop-i.invariant k seat less is
  | inr at ↦
      let here = subst (λ (n : ℕ). slice_get c.args.seats.now n ≡ Some seat) at is in
      (c.in-Some.field-0, sym (ap (λ (s : Seat g.row.C.Denot). s.end) (get_or_from_slice_get c.args.seats.now c.loop-i.i seat _ here)) ∙ c.in-Some.is)
]

pub returns-clause-over : goal.returns-clause-over
returns-clause-over g c = λ no i seat is. let within = slice_get_within c.args.seats.now i seat is in c.loop-i.invariant i seat (omega arith) is
