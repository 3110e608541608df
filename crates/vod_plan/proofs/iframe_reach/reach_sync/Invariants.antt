-- No row of the pieces before this one, from the given row on, is a sync row.
use Rattle.std.proofs.Common.{◌≡◌, ◌+◌, ◌*◌, ◌^◌, ◌≤◌, Some, drop, length, map}
use Rattle.std.specs.Prelude.{slice_get}
use Rattle.vod_plan.specs.declared.spans.PlanPiece.{PlanPiece}
use Rattle.vod_plan.specs.ListingReach.{place_of}
use Rattle.vod_plan.specs.Ranges.{planned_of}
use Rattle.vod_plan.specs.Spans.{piece_view, rows_in}
use Rattle.vod_plan.proofs.IframeReaches.{first_sync}
use Rattle.vod_plan.proofs.PlaceLemmas.{rest}
use Rattle.vod_plan.proofs.iframe_reach.reach_sync.Given as goal

abbrev pub invariant-loop-place : goal.invariant-loop-place
invariant-loop-place g l = record {
  from : l.fn.from.piece ≤ l.place;
  within : l.place ≤ length l.pieces;
  front : rest l.kind l.place l.pieces ≡ drop l.before (planned_of l.kind (map piece_view l.pieces));
  small : l.before ≤ l.place * 2 ^ 32;
  inside : (p : PlanPiece) → slice_get l.pieces l.place ≡ Some p → l.index ≤ rows_in l.kind (piece_view p);
  due : l.before + (l.index + first_sync (drop l.index (rest l.kind l.place l.pieces))) ≡ place_of l.fn.from + first_sync (drop (place_of l.fn.from) (planned_of l.kind (map piece_view l.pieces)));
  looks : l.steps + 128 * l.fn.from.piece ≤ l.fn.steps + 128 * l.place;
}
