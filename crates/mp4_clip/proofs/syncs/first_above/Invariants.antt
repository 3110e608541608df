use Rattle.std.proofs.Common.{ℕ, ◌+◌, ◌-◌, ◌*◌, ◌<◌, ◌≤◌, ◌^◌, length, get_or}
use Rattle.mp4_tables.specs.Views.{stss_entries}
use Rattle.mp4_clip.proofs.syncs.first_above.Given as goal

abbrev pub invariant-loop-low : goal.invariant-loop-low
invariant-loop-low g l = record {
  order : l.low ≤ l.high;
  within : l.high ≤ length (stss_entries l.table);
  passed : (k : ℕ) → k < l.low → get_or (stss_entries l.table) k 0 ≤ l.i;
  ahead : (k : ℕ) → l.high ≤ k → k < length (stss_entries l.table) → l.i < get_or (stss_entries l.table) k 0;
  later : l.initial.steps ≤ l.steps;
  looks : l.steps ≤ l.initial.steps + 32;
  halves : (l.high - l.low) * 2 ^ (l.steps - l.initial.steps) < 2 ^ 32;
}

abbrev pub decreases-loop-low : goal.decreases-loop-low
decreases-loop-low g l = l.high - l.low
