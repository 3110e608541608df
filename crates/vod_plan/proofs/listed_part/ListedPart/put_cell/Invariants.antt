-- The I-frames from the row that is reached on are left.
use Rattle.std.proofs.Common.{◌≡◌, ◌+◌, ◌-◌, ◌*◌, ◌≤◌, ℕ, drop, length, min}
use Rattle.vod_plan.specs.IframeMarks.{cell_marks, first_sync, rows_before}
use Rattle.vod_plan.specs.ListingCells.{part_rows}
use Rattle.vod_plan.specs.ListingReach.{place_of, IsReached}
use Rattle.vod_plan.proofs.IframeCells.{marks_at, AreLeft}
use Rattle.vod_plan.proofs.listed_part.ListedPart.put_cell.Given as goal

abbrev pub invariant-loop : goal.invariant-loop
invariant-loop g l = record {
  reached : IsReached l.self.leads l.self.pieces.now l.at;
  sync : first_sync (drop (place_of l.at) (part_rows l.self).lead) ≡ 0;
  low : l.counter ≤ place_of l.at;
  begun : l.others ≡ l.fn.out.count;
  others : l.others ≤ l.out.count;
  kept : length l.out.kept.items ≡ min l.out.count 100000;
  left : AreLeft l.fn.out l.out (marks_at (part_rows l.self).lead l.of l.to (l.out.count - l.others + 1) (place_of l.at)) (cell_marks l.of (rows_before (place_of l.fn.first) l.to (part_rows l.self).lead));
  since : (s : ℕ) → s ≤ l.to → place_of l.fn.first ≡ s + first_sync (drop s (part_rows l.self).lead) → (p : ℕ) × (p ≤ l.to) × (place_of l.at ≡ p + first_sync (drop p (part_rows l.self).lead));
  looks : l.steps + 128 * l.fn.first.piece + 256 * l.fn.out.count ≤ l.fn.steps + 128 * l.at.piece + 256 * l.out.count;
}
