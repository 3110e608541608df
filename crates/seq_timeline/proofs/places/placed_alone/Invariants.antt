use Rattle.std.proofs.Common.{◌≡◌, ◌≤◌, ◌*◌, ◌++◌, map, drop, length}
use Rattle.std.specs.List.{AllByRecursion}
use Rattle.clip_model.specs.Mapping.{IsClip}
use Rattle.clip_model.specs.Timeline.{placed_from, own_length}
use Rattle.clip_map.specs.Views.{clip_view}
use Rattle.seq_timeline.specs.Bounds.{longest}
use Rattle.seq_timeline.specs.Views.{placed_view}
use Rattle.seq_timeline.proofs.places.placed_alone.Given as goal

abbrev pub invariant-loop-clip : goal.invariant-loop-clip
invariant-loop-clip l = record {
  placed : map placed_view l.placed.items ++ placed_from l.start (map own_length (map clip_view (drop l.clip-index l.clips))) (map clip_view (drop l.clip-index l.clips))
      ≡ placed_from 0 (map own_length (map clip_view l.clips)) (map clip_view l.clips);
  bound : l.start ≤ l.clip-index * longest;
  count : length l.clips ≤ 128;
  rest : AllByRecursion IsClip (map clip_view (drop l.clip-index l.clips));
}
