use Rattle.std.proofs.Common.{◌≡◌, ◌+◌, ◌≤◌, ◌*◌, ◌^◌, drop, length, All}
use Rattle.std.specs.Prelude.{sum}
use Rattle.seq_cells.proofs.parts.sum_of.Given as goal

abbrev pub invariant-loop-count : goal.invariant-loop-count
invariant-loop-count l = record {
  left : l.all + sum (drop l.count-index l.counts) ≡ sum l.counts;
  bounded : All (λ count. count ≤ 2 ^ 42) l.counts;
  few : length l.counts ≤ 128;
  small : l.all ≤ l.count-index * 2 ^ 42;
}
