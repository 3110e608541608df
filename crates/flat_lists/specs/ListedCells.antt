-- The listed segments of a part, over its samples; this project's own.
use Rattle.std.specs.Prelude.{ℕ, ◌-◌, Bool, map, ℤ, ◌-ℤ◌, unsigned_abs, slice_get}
use Rattle.std.specs.List.{position_or_len}
use Rattle.vod_types.specs.declared.tracks.Kind.{Kind}
use Rattle.vod_types.specs.declared.tracks.Kind.TheVariants.{Video, Audio}
use Rattle.vod_types.specs.declared.segments.SegmentRow.{SegmentRow}
use Rattle.segment_model.specs.Listing.{ListedSegment}
use Rattle.segment_model.specs.Lone.{is_from, time_of}
use Rattle.segment_model.specs.Timeline.{TrackRows, lead_end}
use Rattle.flat_lists.specs.declared.listed_part.Begin.{Begin}
use Rattle.flat_lists.specs.declared.listed_part.RowSlices.{RowSlices}
use Rattle.flat_samples.specs.Rows.{timed_view}

abbrev pub slices_view : RowSlices → TrackRows
slices_view r = record { lead = map timed_view r.lead.now; other = map timed_view r.other.now }

-- the index of the first row of the other track that isn't before a lead row
abbrev pub other_from : TrackRows → ℕ → ℕ
other_from rows i = position_or_len (λ r. is_from (slice_get rows.lead i) r.place) rows.other

-- what lists say of a segment, from its numbers of rows of the lead track and of the other one
abbrev pub counted : Kind → SegmentRow → ℕ → ℕ → ListedSegment
counted Video row lead other = (row, lead, other)
counted Audio row lead other = (row, other, lead)

abbrev pub row_between : ℕ → ℕ → ℤ → ℤ → Bool → SegmentRow
row_between part number start end first = record { number = number; start = start; length = unsigned_abs (end -ℤ start); first_in_part = first; part = part }

-- the time of a lead row, and the end of the lead track behind the last one
abbrev pub row_time : ℤ → TrackRows → ℕ → ℤ
row_time start rows i = time_of (lead_end start rows.lead) (slice_get rows.lead i)

-- the segment of a cell between where it begins and where the next one does
abbrev pub segment_between : Kind → ℕ → ℕ → ℤ → TrackRows → Begin → Begin → Bool → ListedSegment
segment_between leads part number start rows from next first =
    counted leads (row_between part number (row_time start rows from.lead) (row_time start rows next.lead) first) (next.lead - from.lead) (next.other - from.other)
