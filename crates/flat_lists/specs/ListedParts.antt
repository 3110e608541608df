-- The samples of all parts of a sequence, and those of each part; this project's own.
use Rattle.std.specs.Prelude.{◌≡◌, ℕ, ◌+◌, Bool, List, length, map, nat_le, pos, slice_range, take, drop}
use Rattle.std.specs.List.{position_or_len}
use Rattle.clip_model.specs.declared.Part.{Part}
use Rattle.clip_model.specs.IsTimeline.{Follow}
use Rattle.segment_model.specs.Grid.{SegmentGrid, cell_counts}
use Rattle.segment_model.specs.Laws.{AreTimelineRows}
use Rattle.segment_model.specs.Timeline.{SourcePiece, SourcePart, TrackRows, timeline}

-- the rows before those of a piece, by its place
abbrev pub rows_before : ℕ → TrackRows → TrackRows
rows_before place rows = record {
  lead = take (position_or_len (λ r. nat_le place r.file) rows.lead) rows.lead;
  other = take (position_or_len (λ r. nat_le place r.file) rows.other) rows.other;
}

-- the rows from those of that piece on
abbrev pub rows_from : ℕ → TrackRows → TrackRows
rows_from place rows = record {
  lead = drop (position_or_len (λ r. nat_le place r.file) rows.lead) rows.lead;
  other = drop (position_or_len (λ r. nat_le place r.file) rows.other) rows.other;
}

-- a part with its pieces
abbrev pub part_over : List SourcePiece → Part → SourcePart
part_over pieces part = record { start = part.start; length_ms = part.length_ms; pieces = slice_range pieces part.first (part.first + part.count) }

-- The rows are those of the pieces of all parts, and parts have so many cells. The rows of each part keep their order.
pub record AreRowsOfParts (grid : SegmentGrid) (align : Bool) (parts : List Part) (counts : List ℕ) (rows : TrackRows) (pieces : List SourcePiece) : Type 0 where
  pub rows_are : rows ≡ timeline pieces
  pub follow : Follow 0 parts (length pieces)
  pub counts_are : counts ≡ cell_counts grid align (map (part_over pieces) parts)
  pub order : (part : Part) → AreTimelineRows (pos 0) (timeline (part_over pieces part).pieces)
