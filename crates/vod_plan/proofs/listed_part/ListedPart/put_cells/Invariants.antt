-- The I-frames of the cells from one on are left.
use Rattle.std.proofs.Common.{◌≡◌, ◌+◌, ◌*◌, ◌≤◌, drop, length, map, min}
use Rattle.segment_model.specs.Iframes.{lone_iframes}
use Rattle.segment_model.specs.Lone.{first_row}
use Rattle.segment_model.specs.Timeline.{lead_end}
use Rattle.seq_cells.specs.Cells.{part_grid_of}
use Rattle.vod_plan.specs.IframeMarks.{first_sync, mark_at}
use Rattle.vod_plan.specs.ListingCells.{part_rows}
use Rattle.vod_plan.specs.ListingReach.{place_of, IsReached}
use Rattle.vod_plan.proofs.IframeCells.{cells_from, AreLeft}
use Rattle.vod_plan.proofs.listed_part.ListedPart.put_cells.Given as goal

abbrev pub invariant-loop-k : goal.invariant-loop-k
invariant-loop-k g l = record {
  begun : IsReached l.self.leads l.self.pieces.now l.from;
  begins : place_of l.from ≡ first_row (part_grid_of l.self.cells) (part_rows l.self).lead l.k;
  reached : IsReached l.self.leads l.self.pieces.now l.at;
  next : place_of l.at ≡ first_row (part_grid_of l.self.cells) (part_rows l.self).lead l.k + first_sync (drop (first_row (part_grid_of l.self.cells) (part_rows l.self).lead l.k) (part_rows l.self).lead);
  kept : length l.out.kept.items ≡ min l.out.count 100000;
  left : AreLeft l.fn.out l.out (cells_from l.self.part (lead_end l.self.cells.start (part_rows l.self).lead) l.self.number (part_grid_of l.self.cells) (part_rows l.self) l.k)
      (map (mark_at l.self.part (lead_end l.self.cells.start (part_rows l.self).lead)) (lone_iframes l.self.number (part_grid_of l.self.cells) (part_rows l.self)));
  looks : l.steps + 256 * l.fn.out.count ≤ l.fn.steps + 128 * l.at.piece + 256 * l.from.piece + 256 * l.k + 640 + 256 * l.out.count;
}
