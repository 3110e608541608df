-- The listed segments of the parts of a sequence; this project's own.
use Rattle.std.specs.Prelude.{ℕ, ◌+◌, ◌≤◌, Bool, List, All, Option, Result, map, pos, slice_range}
use Rattle.vod_types.specs.declared.refusal.Refusal.{Refusal}
use Rattle.vod_types.specs.declared.tracks.Asked.{Asked}
use Rattle.clip_model.specs.declared.Part.{Part}
use Rattle.clip_model.specs.Timeline.{Timeline}
use Rattle.segment_model.specs.Grid.{SegmentGrid, cell_counts}
use Rattle.segment_model.specs.Laws.{AreTimelineRows}
use Rattle.segment_model.specs.Listing.{ListedSegment}
use Rattle.segment_model.specs.Timeline.{SourcePart, SourcePiece, timeline}
use Rattle.vod_source.specs.Calls.{AnswersUnlessFailed}
use Rattle.vod_source.specs.Stored.{Read}
use Rattle.origin_model.specs.Loaded.{CheckedPiece}
use Rattle.origin_model.specs.Plans.{Cutting, planned_rows, rows_looks}
use Rattle.origin_model.specs.Reads.{Cache}
use Rattle.origin_model.specs.Sources.{source_piece}
use Rattle.origin_model.specs.Writable.{IsSoundPiece}
use Rattle.vod_plan.specs.declared.spans.PlanPiece.{PlanPiece}
use Rattle.vod_plan.specs.Looks.{names_of, rows_bound}
use Rattle.vod_plan.specs.Needed.{AreFoundOf}
use Rattle.vod_plan.specs.Turned.{AreTurns}

-- a part with its pieces
abbrev pub part_over : List SourcePiece → Part → SourcePart
part_over pieces part = record { start = part.start; length_ms = part.length_ms; pieces = slice_range pieces part.first (part.first + part.count) }

-- The pieces that were found are those of checked ones, and the rows of each part keep their order.
pub record ArePiecesOfParts (asked : Asked) (found : List PlanPiece) (cs : List CheckedPiece) : Type 0 where
  pub sound : All (IsSoundPiece asked) cs
  pub are : AreFoundOf cs found
  pub order : (part : Part) → AreTimelineRows (pos 0) (timeline (part_over (map source_piece cs) part).pieces)

-- the numbers of cells of parts over these pieces
abbrev pub counts_over : SegmentGrid → Bool → List CheckedPiece → List Part → List ℕ
counts_over grid align cs parts = cell_counts grid align (map (part_over (map source_piece cs)) parts)

-- The listed segments, or their first refusal, with the turns for it and so many looks.
pub record AreListedBy {X : Type 0} (view : X → List ListedSegment) (c : Cutting) (asked : Asked) (t : Timeline) (result : Result X Refusal) (held held_now : Cache) (log log_now : Option (List Read)) (steps steps_now : ℕ) : Type 0 where
  pub answered : AnswersUnlessFailed view result (planned_rows c asked t)
  pub turned : AreTurns c.files (names_of (rows_looks c asked t)) result held held_now log log_now
  pub looks : steps_now ≤ steps + rows_bound c asked t
