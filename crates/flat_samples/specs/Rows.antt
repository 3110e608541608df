-- Samples as they are written out; this project's own.
use Rattle.std.specs.Prelude.{ℕ, ◌≤◌, ◌^◌, ◌++◌, map, pos, ◌≤ℤ◌, ◌-ℤ◌, unsigned_abs, FitsSigned, All}
use Rattle.std.specs.Int.{w32}
use Rattle.segment_model.specs.Rows.{TimedRow}
use Rattle.segment_model.specs.Timeline.{SourcePiece, TrackRows, placed_lead, placed_other}
use Rattle.flat_samples.specs.declared.samples.TimedSample.{TimedSample}
use Rattle.flat_samples.specs.declared.selection.PartRows.{PartRows}

abbrev pub timed_view : TimedSample → TimedRow
timed_view s = record {
  file = s.file;
  number = s.number;
  offset = s.offset;
  size = s.size;
  place = s.place;
  presentation = s.presentation;
  duration = s.duration;
  lead_in = s.lead_in;
  sync = s.sync;
}

abbrev pub part_rows : PartRows → TrackRows
part_rows r = record { lead = map timed_view r.lead.items; other = map timed_view r.other.items }

-- the rows of one more piece behind those of others
abbrev pub rows_with : TrackRows → ℕ → SourcePiece → TrackRows
rows_with rows file p = record { lead = rows.lead ++ placed_lead file p; other = rows.other ++ placed_other file p }

-- presentation minus decode time fits 32 bits
abbrev pub OffsetFits : TimedRow → Type 0
OffsetFits r = FitsSigned w32 (r.presentation -ℤ r.place)

-- A row in the time of its file: at most 2^40 units long and delayed by at most as much, with composition offsets of at most
-- an hour. At most a second of what its edit skips is kept for decoding.
pub record IsFileRow (r : TimedRow) : Type 0 where
  pub low : pos 0 ≤ℤ r.place
  pub high : r.place ≤ℤ pos (2 ^ 41)
  pub presentation : unsigned_abs r.presentation ≤ 2 ^ 42
  pub duration : r.duration ≤ 2 ^ 40
  pub lead_in : r.lead_in ≤ 90000
  pub offset : OffsetFits r

-- a row in the time of the output
pub record IsPlacedRow (r : TimedRow) : Type 0 where
  pub place : unsigned_abs r.place ≤ 2 ^ 42
  pub presentation : unsigned_abs r.presentation ≤ 2 ^ 43
  pub duration : r.duration ≤ 2 ^ 40
  pub lead_in : r.lead_in ≤ 90000
  pub offset : OffsetFits r

pub record ArePlacedRows (rows : TrackRows) : Type 0 where
  pub lead : All IsPlacedRow rows.lead
  pub other : All IsPlacedRow rows.other
