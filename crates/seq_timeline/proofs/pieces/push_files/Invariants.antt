use Rattle.std.proofs.Common.{◌≡◌, ◌≤◌, ◌+◌, ◌*◌, ◌++◌, map, drop, length, pos, ◌+ℤ◌, ◌≤ℤ◌}
use Rattle.std.specs.Int.{IsInRange}
use Rattle.std.specs.List.{AllByRecursion}
use Rattle.clip_map.specs.Views.{file_view}
use Rattle.clip_model.specs.Trim.{trimmed}
use Rattle.seq_timeline.specs.Bounds.{longest}
use Rattle.seq_timeline.proofs.PieceLemmas.{pieces_of_files}
use Rattle.seq_timeline.proofs.pieces.push_files.Given as goal

abbrev pub invariant-loop-file : goal.invariant-loop-file
invariant-loop-file l = record {
  pieces : l.pieces.items ++ trimmed l.selection.window (pieces_of_files l.selection.root.now l.tracks l.part l.placed.start l.placed.length l.at (drop l.file-index l.file-items))
      ≡ l.initial.pieces.items ++ trimmed l.selection.window (pieces_of_files l.selection.root.now l.tracks l.part l.placed.start l.placed.length l.initial.at l.file-items);
  low : pos 0 ≤ℤ (l.at +ℤ pos 86400000);
  high : l.at ≤ℤ pos (longest + 86400000 + l.file-index * 86400000);
  count : length l.file-items ≤ 128;
  rest : AllByRecursion (λ f. IsInRange 1 86400000 f.duration) (map file_view (drop l.file-index l.file-items));
}
