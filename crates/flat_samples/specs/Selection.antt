-- The samples of a piece by lists and times; this project's own.
use Rattle.std.specs.Prelude.{ℕ, Bool, ◌&&◌, List, ◌++◌, ℤ, int_le, Option, filter, map}
use Rattle.vod_types.specs.Lists.{from_first}
use Rattle.segment_model.specs.Rows.{TimedRow}
use Rattle.segment_model.specs.Timeline.{TrackRows, is_below, placed, selected_from}

-- a row isn't before a time, and is below a bound
abbrev pub is_within : ℤ → Option ℤ → TimedRow → Bool
is_within from hi r = int_le from r.place && is_below r.place hi

-- those of the lead track within bounds begin with a sync row
abbrev pub lead_within : ℤ → Option ℤ → List TimedRow → List TimedRow
lead_within lo hi lead = from_first (λ r. r.sync) (filter (is_within lo hi) lead)

-- rows with those of one more piece behind, whose tracks have these
abbrev pub rows_added : TrackRows → ℕ → ℤ → ℤ → Option ℤ → List TimedRow → List TimedRow → TrackRows
rows_added rows file base lo hi lead other = record {
  lead = rows.lead ++ map (placed file base) (lead_within lo hi lead);
  other = rows.other ++ map (placed file base) (selected_from hi (lead_within lo hi lead) other);
}
