use Rattle.std.proofs.Common.{◌≡◌, length}
use Rattle.vod_turns.specs.Seats.{AreFresh}
use Rattle.vod_turns.proofs.seats.fresh_seats.Given as goal

abbrev pub invariant-loop : goal.invariant-loop
invariant-loop g l = record { many : length l.seats.items ≡ l.counter; fresh : AreFresh l.seats.items }
