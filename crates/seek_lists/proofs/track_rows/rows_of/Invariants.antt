-- The rows of the segments so far, with times that a description can have.
use Rattle.std.proofs.Common.{◌≡◌, ◌++◌, All, drop, map}
use Rattle.list_model.specs.Manifest.{IsListedRow}
use Rattle.seek_lists.proofs.track_rows.rows_of.Given as goal

abbrev pub invariant-loop-segment : goal.invariant-loop-segment
invariant-loop-segment l = record {
  rows : l.rows.items ++ map (λ s. s.row) (drop l.segment-index l.listed) ≡ map (λ s. s.row) l.listed;
  times : All IsListedRow l.rows.items;
}
