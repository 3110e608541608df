-- No row of the pieces before this one may begin.
use Rattle.std.proofs.Common.{◌≡◌, ◌+◌, ◌*◌, ◌^◌, ◌≤◌, drop, length, map}
use Rattle.vod_plan.specs.Ranges.{planned_of}
use Rattle.vod_plan.specs.Spans.{piece_view}
use Rattle.vod_plan.proofs.ListingReaches.{IsSearch}
use Rattle.vod_plan.proofs.PlaceLemmas.{rest}
use Rattle.vod_plan.proofs.reach.reach_time.Given as goal

abbrev pub invariant-loop-place : goal.invariant-loop-place
invariant-loop-place g l = record {
  from : l.fn.earlier.piece ≤ l.place;
  within : l.place ≤ length l.pieces;
  front : rest l.kind l.place l.pieces ≡ drop l.before (planned_of l.kind (map piece_view l.pieces));
  small : l.before ≤ l.place * 2 ^ 32;
  due : IsSearch l.kind l.pieces l.align l.fn.time l.fn.earlier.before l.before l.place;
  looks : l.steps + 256 * l.fn.earlier.piece ≤ l.fn.steps + 256 * l.place;
}
