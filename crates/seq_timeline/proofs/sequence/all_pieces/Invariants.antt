use Rattle.std.proofs.Common.{◌≡◌, ◌++◌, map, drop}
use Rattle.std.specs.Prelude.{flat_map}
use Rattle.std.specs.List.{AllByRecursion}
use Rattle.clip_model.specs.Trim.{trimmed}
use Rattle.clip_model.specs.Timeline.{placed_pieces}
use Rattle.seq_timeline.specs.Bounds.{IsPlaced}
use Rattle.seq_timeline.specs.Views.{placed_view}
use Rattle.seq_timeline.proofs.sequence.all_pieces.Given as goal

abbrev pub invariant-loop-placed : goal.invariant-loop-placed
invariant-loop-placed l = record {
  made : l.pieces.items ++ trimmed l.selection.window (flat_map (placed_pieces l.selection.root.now l.selection.tracks 0) (map placed_view (drop l.placed-index l.clips)))
      ≡ trimmed l.selection.window (flat_map (placed_pieces l.selection.root.now l.selection.tracks 0) (map placed_view l.clips));
  each : AllByRecursion IsPlaced (map placed_view (drop l.placed-index l.clips));
}
