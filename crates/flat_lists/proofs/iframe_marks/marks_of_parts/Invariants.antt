use Rattle.std.proofs.Common.{List, ◌≡◌, ◌+◌, drop, map}
use Rattle.std.specs.Prelude.{sum}
use Rattle.segment_model.specs.Iframes.{iframes}
use Rattle.segment_model.specs.Timeline.{SourcePiece}
use Rattle.flat_lists.specs.ListedCells.{slices_view}
use Rattle.flat_lists.specs.ListedParts.{part_over, AreRowsOfParts}
use Rattle.flat_lists.specs.Marks.{marks_from, AreMarks}
use Rattle.flat_samples.specs.Rows.{ArePlacedRows}
use Rattle.flat_lists.proofs.IframeMarks.{IsLeft}
use Rattle.flat_lists.proofs.iframe_marks.marks_of_parts.Given as goal

abbrev pub invariant-loop-place : goal.invariant-loop-place
invariant-loop-place l = record {
  numbers : l.number + sum (drop l.place l.counts) ≡ 1 + sum l.counts;
  small : AreMarks l.out.items;
  placed : ArePlacedRows (slices_view l.rest);
  rest : (pieces : List SourcePiece) → AreRowsOfParts l.cut.grid.now l.cut.align l.parts l.counts (slices_view l.rows) pieces
      → IsLeft l.cut.grid.now l.cut.align pieces (drop l.place l.parts) (drop l.place l.counts) l.place l.number (slices_view l.rest) l.out.items
      (marks_from 1 (iframes l.cut.grid.now l.cut.align (map (part_over pieces) l.parts)));
}
