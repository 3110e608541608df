use Rattle.std.proofs.Common.{◌≡◌, length}
use Rattle.vod_turns.proofs.seats.untold_states.Given as goal

abbrev pub invariant-loop : goal.invariant-loop
invariant-loop l = length l.states.items ≡ l.counter
