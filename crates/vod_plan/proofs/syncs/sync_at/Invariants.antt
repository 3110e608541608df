-- The row isn't in the pieces before this one, of which all rows and all sync rows are counted.
use Rattle.std.proofs.Common.{◌≡◌, ◌+◌, ◌*◌, ◌≤◌, ℕ, length, map}
use Rattle.segment_model.specs.Iframes.{sync_rows}
use Rattle.vod_plan.specs.Ranges.{planned_of}
use Rattle.vod_plan.specs.Spans.{piece_view}
use Rattle.vod_plan.specs.Syncs.{IsSyncAt}
use Rattle.vod_plan.proofs.PlaceLemmas.{rest}
use Rattle.vod_plan.proofs.syncs.sync_at.Given as goal

abbrev pub invariant-loop-piece : goal.invariant-loop-piece
invariant-loop-piece g l = record {
  moved : (index place : ℕ) → IsSyncAt (rest l.kind l.piece-index l.pieces) index place → IsSyncAt (planned_of l.kind (map piece_view l.pieces)) (l.passed + index) (l.place + place);
  syncs : l.passed + length (sync_rows (rest l.kind l.piece-index l.pieces)) ≡ length (sync_rows (planned_of l.kind (map piece_view l.pieces)));
  rows : l.place + length (rest l.kind l.piece-index l.pieces) ≡ length (planned_of l.kind (map piece_view l.pieces));
  most : l.passed ≤ l.index;
  small : l.place ≤ l.piece-index * 4294967296;
  fewer : l.passed ≤ l.place;
  looks : l.steps ≤ l.fn.steps + 128 * l.piece-index + 4 * l.place;
}
