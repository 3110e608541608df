-- Tracks of which a cut keeps a part, and their samples; this project's own.
use Rattle.std.specs.Prelude.{ℕ, ◌*◌, ◌+◌, ◌-◌, ◌≤◌, ◌^◌, [], ℤ, pos, ◌-ℤ◌, unsigned_abs}
use Rattle.vod_types.specs.declared.segments.Form.{Form}
use Rattle.vod_types.specs.declared.segments.Form.TheVariants.{Ts, Fmp4}
use Rattle.mp4_model.specs.Clock.{to_units}
use Rattle.mp4_model.specs.Edits.{Edit}
use Rattle.mp4_model.specs.Samples.{FlatRow}
use Rattle.segment_model.specs.Rows.{SourceTrack, TimedRow}
use Rattle.vod_plan.specs.declared.cut.Cut.{Cut}
use Rattle.vod_plan.specs.declared.samples.FlatSample.{FlatSample}
use Rattle.vod_plan.specs.declared.samples.TimedSample.{TimedSample}

-- the edit whose cut it is
abbrev pub edit_of_cut : Cut → Edit
edit_of_cut cut = record { delay = cut.delay; skip = cut.skip }

-- a track of a timescale, of which it keeps a part, where the rows don't count
abbrev pub cut_of : Cut → ℕ → SourceTrack
cut_of cut timescale = record { timescale = timescale; edit = edit_of_cut cut; lead_in = cut.lead_in; rows = [] }

-- where a row stands in the time of its file that is decoded at a time in units
abbrev pub place_by : Cut → ℕ → ℤ
place_by cut units = pos (units + cut.delay - cut.from)

abbrev pub flat_view : FlatSample → FlatRow
flat_view s = record {
  offset = s.offset;
  size = s.size;
  decode_time = s.decode_time;
  delta = s.delta;
  composition_offset = s.composition_offset;
  sync = s.sync;
}

-- in the time of its file
abbrev pub timed_view : TimedSample → TimedRow
timed_view s = record {
  file = 0;
  number = s.number;
  offset = s.offset;
  size = s.size;
  place = s.place;
  presentation = s.presentation;
  duration = s.duration;
  lead_in = s.lead_in;
  sync = s.sync;
}

-- the most units that a track lasts, and the units of an hour
abbrev pub most_units : ℕ
most_units = 2 ^ 40

abbrev pub most_shift : ℕ
most_shift = 3600 * 90000

-- a sample of a track that isn't too long, which is shown within an hour of its decode time
pub record IsTimely (timescale : ℕ) (r : FlatRow) : Type 0 where
  pub short : to_units timescale (r.decode_time + r.delta) ≤ most_units
  pub near : unsigned_abs r.composition_offset ≤ 3600 * timescale

-- times that can be moved by a base
pub record AreSmall (s : TimedSample) : Type 0 where
  pub place : unsigned_abs s.place ≤ 2 ^ 41
  pub presentation : unsigned_abs s.presentation ≤ 2 ^ 42
  pub lead_in : s.lead_in ≤ 90000

-- when a row of a place is decoded, with its lead-in
abbrev pub decoded_at : Form → ℤ → ℕ → ℤ
decoded_at Ts place lead_in = place -ℤ pos lead_in
decoded_at Fmp4 place lead_in = place
