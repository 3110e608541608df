use Rattle.std.proofs.Common.{◌≡◌, length}
use Rattle.vod_turns.proofs.rounds.untold_ends.Given as goal

abbrev pub invariant-loop : goal.invariant-loop
invariant-loop l = length l.ends.items ≡ l.counter
