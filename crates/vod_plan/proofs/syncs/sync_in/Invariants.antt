-- The cursor stands at the next row, and the sync rows before it are counted.
use Rattle.std.proofs.Common.{◌≡◌, ◌+◌, ◌*◌, ◌≤◌, ℕ, Some, length, take}
use Rattle.segment_model.specs.Iframes.{sync_rows}
use Rattle.time_runs.specs.Cursors.{StandsAt}
use Rattle.vod_plan.specs.Ranges.{RowRange, range_of, range_rows}
use Rattle.vod_plan.specs.Spans.{piece_view}
use Rattle.vod_plan.proofs.syncs.sync_in.Given as goal

abbrev pub invariant-loop-at : goal.invariant-loop-at
invariant-loop-at g l = record {
  stands : (r : RowRange) → range_of l.fn.kind (piece_view l.piece) ≡ Some r → StandsAt r.track.tables (r.from + l.at) l.cursor;
  count : (file : ℕ) (r : RowRange) → range_of l.fn.kind (piece_view l.piece) ≡ Some r → l.syncs ≡ length (sync_rows (take l.at (range_rows l.fn.kind file l.piece.base r)));
  few : l.syncs ≤ l.at;
  most : l.syncs ≤ l.index;
  looks : l.steps ≤ l.fn.steps + 128 + 4 * l.at;
}
