use Rattle.std.proofs.Common.{◌≡◌, ◌++◌, drop, map}
use Rattle.flat_lists.proofs.track_rows.rows_of.Given as goal

abbrev pub invariant-loop-segment : goal.invariant-loop-segment
invariant-loop-segment l = record {
  rows : l.rows.items ++ map (λ s. s.row) (drop l.segment-index l.listed) ≡ map (λ s. s.row) l.listed;
}
