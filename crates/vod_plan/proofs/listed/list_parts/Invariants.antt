-- The segments of the first parts are listed, and those of the others are left.
use Rattle.std.proofs.Common.{◌≡◌, ◌+◌, ◌-◌, ◌≤◌, ◌++◌, ℕ, List, drop, length, map}
use Rattle.std.specs.Prelude.{sum, All}
use Rattle.vod_types.specs.Tracks.{lead_of}
use Rattle.clip_model.specs.IsTimeline.{Follow}
use Rattle.segment_model.specs.Cut.{listed}
use Rattle.segment_model.specs.Listing.{listed_view}
use Rattle.origin_model.specs.Loaded.{CheckedPiece}
use Rattle.origin_model.specs.Sources.{source_piece}
use Rattle.vod_plan.specs.ListingCells.{HasPart}
use Rattle.vod_plan.specs.ListingParts.{counts_over, part_over, ArePiecesOfParts}
use Rattle.vod_plan.proofs.ListingRests.{left_rows, AreLooksFor}
use Rattle.vod_plan.proofs.listed.list_parts.Given as goal

abbrev pub invariant-loop-place : goal.invariant-loop-place
invariant-loop-place g l = record {
  first : 1 ≤ l.number;
  numbers : l.number + sum (drop l.place l.counts) ≡ 1 + sum l.counts;
  few : length l.out.items + 1 ≤ l.number;
  parts : All HasPart l.out.items;
  rest : (cs : List CheckedPiece) (h : ArePiecesOfParts l.fn.asked l.pieces cs) → l.counts ≡ counts_over l.cut.grid.now l.cut.align cs l.parts
      → map listed_view l.out.items ++ left_rows l.cut.grid.now l.cut.align l.fn.asked l.pieces cs h l.place l.number (drop l.place l.parts)
      ≡ listed (lead_of l.fn.asked) l.cut.grid.now l.cut.align (map (part_over (map source_piece cs)) l.parts);
  looks : (cs : List CheckedPiece) (n : ℕ) → ArePiecesOfParts l.fn.asked l.pieces cs → Follow 0 l.parts n → AreLooksFor l.fn.asked (drop l.place l.parts) n (l.number - 1) l.fn.steps l.steps;
}
