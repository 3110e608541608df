use Rattle.std.proofs.Common.{◌≡◌, ◌++◌, ◌≤◌, ℤ, length, map}
use Rattle.segment_model.specs.Iframes.{lone_iframes}
use Rattle.segment_model.specs.Laws.{PlaceRises}
use Rattle.segment_model.specs.Lone.{first_row}
use Rattle.segment_model.specs.Timeline.{lead_end}
use Rattle.flat_segments.specs.Cells.{part_grid_of}
use Rattle.flat_lists.specs.ListedCells.{slices_view}
use Rattle.flat_lists.specs.Marks.{mark_at, AreMarks}
use Rattle.flat_lists.proofs.IframeMarks.{cells_from}
use Rattle.flat_lists.proofs.iframe_marks.put_part.Given as goal

abbrev pub invariant-loop-k : goal.invariant-loop-k
invariant-loop-k l = record {
  within : l.from ≤ length l.part.rows.lead.now;
  small : AreMarks l.initial.out.items → AreMarks l.out.items;
  marks : (s : ℤ) → PlaceRises s (slices_view l.part.rows).lead → (l.from ≡ first_row (part_grid_of l.part.cells) (slices_view l.part.rows).lead l.k)
      × (l.out.items ++ cells_from l.part.part (lead_end l.part.cells.start (slices_view l.part.rows).lead) l.part.number (part_grid_of l.part.cells) (slices_view l.part.rows) l.k
      ≡ l.initial.out.items ++ map (mark_at l.part.part (lead_end l.part.cells.start (slices_view l.part.rows).lead)) (lone_iframes l.part.number (part_grid_of l.part.cells) (slices_view l.part.rows)));
}
