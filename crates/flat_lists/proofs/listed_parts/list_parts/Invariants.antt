use Rattle.std.proofs.Common.{All, List, ◌≡◌, ◌+◌, drop, map}
use Rattle.std.specs.Prelude.{sum}
use Rattle.segment_model.specs.Cut.{listed}
use Rattle.segment_model.specs.Timeline.{SourcePiece}
use Rattle.flat_lists.specs.ListedCells.{slices_view}
use Rattle.flat_lists.specs.ListedParts.{part_over, AreRowsOfParts}
use Rattle.segment_model.specs.Listing.{listed_view}
use Rattle.flat_lists.specs.Listings.{HasPart}
use Rattle.flat_samples.specs.Rows.{ArePlacedRows}
use Rattle.flat_lists.proofs.ListedParts.{IsRest}
use Rattle.flat_lists.proofs.listed_parts.list_parts.Given as goal

abbrev pub invariant-loop-place : goal.invariant-loop-place
invariant-loop-place l = record {
  numbers : l.number + sum (drop l.place l.counts) ≡ 1 + sum l.counts;
  parts : All HasPart l.out.items;
  placed : ArePlacedRows (slices_view l.rest);
  rest : (pieces : List SourcePiece) → AreRowsOfParts l.cut.grid.now l.cut.align l.parts l.counts (slices_view l.rows) pieces
      → IsRest l.cut.grid.now l.cut.align l.leads pieces (drop l.place l.parts) (drop l.place l.counts) l.place l.number (slices_view l.rest) (map listed_view l.out.items)
      (listed l.leads l.cut.grid.now l.cut.align (map (part_over pieces) l.parts));
}
