-- The I-frames of the parts from one on are left.
use Rattle.std.proofs.Common.{List, ◌≡◌, ◌+◌, ◌-◌, ◌≤◌, ℕ, drop, length, map, min}
use Rattle.std.specs.Prelude.{sum}
use Rattle.clip_model.specs.IsTimeline.{Follow}
use Rattle.segment_model.specs.Iframes.{iframes}
use Rattle.origin_model.specs.Loaded.{CheckedPiece}
use Rattle.origin_model.specs.Sources.{source_piece}
use Rattle.vod_plan.specs.IframeMarks.{marks_from}
use Rattle.vod_plan.specs.ListingParts.{counts_over, part_over, ArePiecesOfParts}
use Rattle.vod_plan.proofs.IframeParts.{left_marks, AreMarkLooks, AreRest}
use Rattle.vod_plan.proofs.iframe_parts.marks_of_parts.Given as goal

abbrev pub invariant-loop-place : goal.invariant-loop-place
invariant-loop-place g l = record {
  first : 1 ≤ l.number;
  numbers : l.number + sum (drop l.place l.counts) ≡ 1 + sum l.counts;
  kept : length l.out.kept.items ≡ min l.out.count 100000;
  rest : (cs : List CheckedPiece) (h : ArePiecesOfParts l.fn.asked l.pieces cs) → l.counts ≡ counts_over l.cut.grid.now l.cut.align cs l.parts
      → AreRest l.out (left_marks l.cut.grid.now l.cut.align l.fn.asked l.pieces cs h l.place l.number (drop l.place l.parts)) (marks_from 1 (iframes l.cut.grid.now l.cut.align (map (part_over (map source_piece cs)) l.parts)));
  looks : (cs : List CheckedPiece) (n : ℕ) → ArePiecesOfParts l.fn.asked l.pieces cs → Follow 0 l.parts n → AreMarkLooks (drop l.place l.parts) n (l.number - 1) l.out.count l.fn.steps l.steps;
}
