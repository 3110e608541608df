use Rattle.std.proofs.Common.{◌≡◌, ◌≤◌, ◌+◌, ◌*◌, map, drop, length, pos, ◌+ℤ◌, ◌≤ℤ◌}
use Rattle.std.specs.Prelude.{sum_by}
use Rattle.std.specs.Int.{IsInRange}
use Rattle.std.specs.List.{AllByRecursion}
use Rattle.clip_map.specs.Views.{file_view}
use Rattle.seq_timeline.proofs.places.concat_length.Given as goal

abbrev pub invariant-loop-file : goal.invariant-loop-file
invariant-loop-file l = record {
  total : (l.length +ℤ pos (sum_by (λ f. f.duration) (map file_view (drop l.file-index l.file-items)))) ≡ (l.initial.length +ℤ pos (sum_by (λ f. f.duration) (map file_view l.file-items)));
  low : pos 0 ≤ℤ (l.length +ℤ pos 86400000);
  high : l.length ≤ℤ pos (86400000 + l.file-index * 86400000);
  count : length l.file-items ≤ 128;
  rest : AllByRecursion (λ f. IsInRange 1 86400000 f.duration) (map file_view (drop l.file-index l.file-items));
}
