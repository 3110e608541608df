-- No row stands in the pieces behind this one.
use Rattle.std.proofs.Common.{◌≡◌, ◌-◌, ◌≤◌, [], length}
use Rattle.vod_plan.proofs.PlaceLemmas.{rest}
use Rattle.vod_plan.proofs.cell.end_of_lead.Given as goal

abbrev pub invariant-loop-passed : goal.invariant-loop-passed
invariant-loop-passed g l = record {
  none : rest l.leads (length l.pieces - l.passed) l.pieces ≡ [];
  looks : l.steps ≤ l.fn.steps;
}
