use Rattle.std.proofs.Common.{◌≡◌, ◌≤◌, ◌+◌, true, map, drop, length}
use Rattle.std.specs.Prelude.{sum_by}
use Rattle.std.specs.List.{AllByRecursion}
use Rattle.clip_model.specs.Mapping.{file_count}
use Rattle.clip_model.specs.Timeline.{spans}
use Rattle.seq_timeline.specs.Bounds.{IsPlaced}
use Rattle.seq_timeline.specs.Spans.{timeline_of_clips, kept_shares, with_shares}
use Rattle.seq_timeline.specs.Views.{placed_view}
use Rattle.seq_timeline.specs.Drafts.{draft_view}
use Rattle.seq_timeline.proofs.sequence.apart.Given as goal

abbrev pub invariant-loop-placed : goal.invariant-loop-placed
invariant-loop-placed l = record {
  shares : with_shares (draft_view l.draft) (kept_shares l.selection.root.now l.selection.tracks l.selection.window (length l.draft.parts.items) (spans true (map placed_view (drop l.placed-index l.clips))))
      ≡ timeline_of_clips l.selection.root.now l.selection.tracks l.selection.window true (map placed_view l.clips);
  pieces : length l.draft.pieces.items + sum_by (λ p. file_count p.clip) (map placed_view (drop l.placed-index l.clips)) ≤ 1024;
  parts : length l.draft.parts.items ≤ l.placed-index;
  count : length l.clips ≤ 128;
  each : AllByRecursion IsPlaced (map placed_view (drop l.placed-index l.clips));
}
