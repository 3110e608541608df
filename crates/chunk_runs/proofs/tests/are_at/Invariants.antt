use Rattle.std.proofs.Common.{◌≡◌}
use Rattle.chunk_runs.specs.Cursors.{StandsAt}
use Rattle.chunk_runs.proofs.tests.are_at.Given as goal

abbrev pub invariant-loop-i : goal.invariant-loop-i
invariant-loop-i g l = record {
  row : l.cursor.row ≡ l.i;
  stands : StandsAt l.runs.tables l.i l.cursor;
}
