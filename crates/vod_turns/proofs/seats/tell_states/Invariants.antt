use Rattle.std.proofs.Common.{◌≡◌, ◌<◌, ℕ, Some}
use Rattle.std.specs.Prelude.{slice_get}
use Rattle.vod_turns.specs.declared.link_state.LinkState.{LinkState}
use Rattle.vod_turns.specs.declared.seats.Seat.{Seat}
use Rattle.vod_turns.specs.Seats.{state_of}
use Rattle.vod_turns.proofs.seats.tell_states.Given as goal

abbrev pub invariant-loop-i : goal.invariant-loop-i
invariant-loop-i g l = (k : ℕ) (seat : Seat g.row.C.Denot) (state : LinkState) → k < l.i → slice_get l.seats k ≡ Some seat → slice_get l.states k ≡ Some state → state ≡ state_of seat
