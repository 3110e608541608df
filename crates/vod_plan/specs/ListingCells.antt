-- The listed segments of a part, from cell to cell; this project's own.
use Rattle.std.specs.Prelude.{ℕ, ◌-◌, ◌≤◌, ◌^◌, Bool, List, map, slice_get, unwrap_or, Option, ℤ, ◌-ℤ◌, unsigned_abs, IfSome}
use Rattle.std.specs.List.{position_or_len}
use Rattle.vod_types.specs.declared.segments.Listed.{Listed}
use Rattle.vod_types.specs.declared.segments.SegmentRow.{SegmentRow}
use Rattle.vod_types.specs.declared.tracks.Kind.{Kind}
use Rattle.vod_types.specs.declared.tracks.Kind.TheVariants.{Video, Audio}
use Rattle.segment_model.specs.Listing.{ListedSegment}
use Rattle.segment_model.specs.Lone.{is_from}
use Rattle.segment_model.specs.Rows.{TimedRow}
use Rattle.segment_model.specs.Timeline.{TrackRows}
use Rattle.vod_plan.specs.declared.listed_part.CellStart.{CellStart}
use Rattle.vod_plan.specs.declared.listed_part.ListedPart.{ListedPart}
use Rattle.vod_plan.specs.declared.spans.PlanPiece.{PlanPiece}
use Rattle.vod_plan.specs.ListingReach.{place_of, IsFront}
use Rattle.vod_plan.specs.Narrowed.{is_after, other_kind}
use Rattle.vod_plan.specs.Ranges.{planned_of}
use Rattle.vod_plan.specs.Spans.{piece_view}

-- the rows of the pieces of a part
abbrev pub part_rows : ListedPart → TrackRows
part_rows p = record { lead = planned_of p.leads (map piece_view p.pieces.now); other = planned_of (other_kind p.leads) (map piece_view p.pieces.now) }

-- the index of the first row that isn't before a time, of which none is above all
abbrev pub first_after : Option ℤ → List TimedRow → ℕ
first_after time rows = position_or_len (λ r. is_after time r.place) rows

-- the index of the first row of the other track that isn't before a lead row
abbrev pub other_from : TrackRows → ℕ → ℕ
other_from rows i = position_or_len (λ r. is_from (slice_get rows.lead i) r.place) rows.other

-- what lists say of a segment, from its numbers of rows of the lead track and of the other one
abbrev pub counted : Kind → SegmentRow → ℕ → ℕ → ListedSegment
counted Video row lead other = (row, lead, other)
counted Audio row lead other = (row, other, lead)

abbrev pub row_between : ℕ → ℕ → ℤ → ℤ → Bool → SegmentRow
row_between part number start end first = record { number = number; start = start; length = unsigned_abs (end -ℤ start); first_in_part = first; part = part }

-- the segment of a cell between where it begins and where the next one does, where the lead ends at a time
abbrev pub segment_between : Kind → ℕ → ℕ → ℤ → CellStart → CellStart → Bool → ListedSegment
segment_between leads part number end from next first =
    counted leads (row_between part number (unwrap_or from.time end) (unwrap_or next.time end) first) (place_of next.lead - place_of from.lead) (place_of next.other - place_of from.other)

-- So many rows of each kind stand in the pieces before those that are reached, and the time is a small one.
pub record AreFronts (leads : Kind) (ps : List PlanPiece) (s : CellStart) : Type 0 where
  pub lead : IsFront leads ps s.lead
  pub other : IsFront (other_kind leads) ps s.other
  pub time : IfSome s.time (λ time. unsigned_abs time ≤ 2 ^ 43)

-- the number of its part has at most four digits, as names have it
abbrev pub HasPart : Listed → Type 0
HasPart l = l.row.part ≤ 9999
