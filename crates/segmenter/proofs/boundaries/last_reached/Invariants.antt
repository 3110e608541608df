use Rattle.std.proofs.Common.{◌≡◌, ◌+◌, ◌≤◌, take, sum}
use Rattle.segmenter.proofs.boundaries.last_reached.Given as goal

abbrev pub invariant-loop-cell : goal.invariant-loop-cell
invariant-loop-cell l =
    record {
      passed : sum (take l.cell l.grid-inside.bootstrap.items) + l.rest ≡ l.fn.ms;
      small : l.cell + l.rest ≤ l.fn.ms;
    }
