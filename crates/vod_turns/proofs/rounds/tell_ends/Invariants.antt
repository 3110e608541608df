use Rattle.std.proofs.Common.{◌≡◌, ◌<◌, ℕ, Some}
use Rattle.std.specs.Prelude.{slice_get}
use Rattle.vod_session.specs.declared.state.LinkEnd.{LinkEnd}
use Rattle.vod_turns.specs.declared.seats.Seat.{Seat}
use Rattle.vod_turns.proofs.rounds.tell_ends.Given as goal

abbrev pub invariant-loop-i : goal.invariant-loop-i
invariant-loop-i g l = (k : ℕ) (seat : Seat g.row.C.Denot) (end told : LinkEnd) → k < l.i → slice_get l.seats k ≡ Some seat → slice_get l.ends k ≡ Some told → seat.end ≡ Some end → told ≡ end
