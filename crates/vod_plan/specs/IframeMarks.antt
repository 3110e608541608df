-- The I-frames of all parts in one list, of which the first are kept; this project's own.
use Rattle.std.specs.Prelude.{◌≡◌, ℕ, ◌+◌, ◌-◌, Bool, not, ◌==◌, cond, List, [], ◌∷◌, ◌++◌, length, map, take, drop, ℤ, ◌-ℤ◌, unsigned_abs, slice_get, Option, Some, None}
use Rattle.std.specs.List.{flat_map, enumerate_from, position_or_len}
use Rattle.vod_types.specs.declared.segments.IframeRow.{IframeRow}
use Rattle.segment_model.specs.Iframes.{Iframe, PartIframes, segment_iframes}
use Rattle.segment_model.specs.Rows.{TimedRow}
use Rattle.vod_plan.specs.declared.iframe_marks.Mark.{Mark}
use Rattle.vod_plan.specs.declared.iframe_marks.Marks.{Marks}

-- the index of the first sync row
abbrev pub first_sync : List TimedRow → ℕ
first_sync rows = position_or_len (λ r. r.sync) rows

abbrev pub mark_at : ℕ → ℤ → Iframe → Mark
mark_at part end i = record { part = part; end = end; number = i.number; index = i.index; start = i.row.place }

abbrev pub part_marks : ℕ × PartIframes → List Mark
part_marks (part, p) = map (mark_at part p.end) p.iframes

-- those of parts, the first of which has this number
abbrev pub marks_from : ℕ → List PartIframes → List Mark
marks_from part ps = flat_map part_marks (enumerate_from part ps)

-- those of a cell, with the part and the number of a mark
abbrev pub cell_marks : Mark → List TimedRow → List Mark
cell_marks of lead = map (mark_at of.part of.end) (segment_iframes (of.number, record { lead = lead; other = [] }))

-- the lead rows from a place on and before another
abbrev pub rows_before : ℕ → ℕ → List TimedRow → List TimedRow
rows_before from to lead = take (to - from) (drop from lead)

-- These were put behind others: all are counted, and the first 100,000 of all are kept.
pub record AreAdded (marks : List Mark) (old new : Marks) : Type 0 where
  pub count : new.count ≡ old.count + length marks
  pub kept : new.kept.items ≡ take 100000 (old.kept.items ++ marks)

-- ---- as a playlist lists them

-- where an I-frame ends: with the next one of its part, or with its part's lead track
abbrev pub end_of_mark : Mark → Option Mark → ℤ
end_of_mark m None = m.end
end_of_mark m (Some next) = cond (next.part == m.part) next.start m.end

abbrev pub row_of_mark : Mark → Option Mark → Bool → IframeRow
row_of_mark m next first = record {
  number = m.number;
  index = m.index;
  start = m.start;
  length = unsigned_abs (end_of_mark m next -ℤ m.start);
  first_in_part = first;
  part = m.part;
}

-- the rows of I-frames behind one of a part
abbrev pub rows_of_marks : ℕ → List Mark → List IframeRow
rows_of_marks part [] = []
rows_of_marks part (m ∷ later) = row_of_mark m (slice_get later 0) (not (m.part == part)) ∷ rows_of_marks m.part later

-- all of them were counted, and the first 100,000 are kept
pub record AreAll (all : List Mark) (m : Marks) : Type 0 where
  pub count : m.count ≡ length all
  pub kept : m.kept.items ≡ take 100000 all
