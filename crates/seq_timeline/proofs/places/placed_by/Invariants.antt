use Rattle.std.proofs.Common.{◌≡◌, ◌≤◌, ◌*◌, ◌^◌, ◌++◌, Some, map, drop, length}
use Rattle.clip_model.specs.Timeline.{placed_from}
use Rattle.clip_map.specs.Views.{clip_view}
use Rattle.seq_timeline.specs.Views.{placed_view}
use Rattle.seq_timeline.proofs.places.placed_by.Given as goal

abbrev pub invariant-loop-i : goal.invariant-loop-i
invariant-loop-i l = record {
  placed : map placed_view l.placed.items ++ placed_from l.start (map Some (drop l.i l.durations)) (map clip_view (drop l.i l.clips)) ≡ placed_from 0 (map Some l.durations) (map clip_view l.clips);
  bound : l.start ≤ l.i * 2 ^ 32;
  count : length l.clips ≤ 128;
  durations : length l.durations ≡ length l.clips;
}
