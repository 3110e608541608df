-- What is wanted of a segment; this project's own.
use Rattle.std.specs.Prelude.{◌≡◌, ℕ, Some, List, [], ◌∷◌, map, Result}
use Rattle.vod_types.specs.declared.refusal.Refusal.{Refusal}
use Rattle.vod_types.specs.declared.segments.Form.{Form}
use Rattle.vod_types.specs.declared.segments.Form.TheVariants.{Ts}
use Rattle.vod_types.specs.declared.tracks.Asked.{Asked}
use Rattle.vod_types.specs.Lists.{nth_from_one}
use Rattle.vod_types.specs.Results.{◌>>=◌, each_in_turn}
use Rattle.clip_model.specs.Timeline.{Timeline}
use Rattle.segment_model.specs.Iframes.{sync_rows}
use Rattle.segment_model.specs.Lone.{lone_cell}
use Rattle.segment_model.specs.Rows.{TimedRow}
use Rattle.segment_model.specs.Timeline.{TrackRows, timeline}
use Rattle.origin_model.specs.Iframes.{checked_iframe}
use Rattle.origin_model.specs.Loaded.{CheckedPiece, checked}
use Rattle.origin_model.specs.Plans.{Cutting, located_cell, segment_pieces}
use Rattle.origin_model.specs.Samples.{SegmentPlan, checked_rows}
use Rattle.origin_model.specs.Sources.{source_piece}
use Rattle.vod_plan.specs.declared.lone.Wanted.{Wanted}
use Rattle.vod_plan.specs.declared.lone.Wanted.TheVariants.{Iframe, Whole}

-- a row as the only one
abbrev pub lone_row : TimedRow → TrackRows
lone_row row = record { lead = row ∷ []; other = [] }

-- the only row is the sync row of an index from 1
abbrev pub IsNthSync : List TimedRow → ℕ → TrackRows → Type 0
IsNthSync lead index rows = (row : TimedRow) × (nth_from_one (sync_rows lead) index ≡ Some row) × (rows ≡ lone_row row)

abbrev pub form_of : Wanted → Form
form_of (Whole form) = form
form_of (Iframe index) = Ts

-- the rows that are wanted, or their first refusal
abbrev pub wanted_rows : ℕ → Wanted → Asked → List CheckedPiece → TrackRows → Result SegmentPlan Refusal
wanted_rows number (Whole form) asked pieces rows = checked_rows number form asked pieces rows
wanted_rows number (Iframe index) asked pieces rows = checked_iframe number index asked pieces rows

-- those of the segment of a number over the pieces that it needs
unfoldable pub planned_wanted : Cutting → Asked → Timeline → ℕ → Wanted → Result SegmentPlan Refusal
planned_wanted c asked t number wanted = do
  needed ← segment_pieces c asked t number
  pieces ← each_in_turn (checked c.files c.edits asked) needed
  cell ← located_cell c asked t number
  wanted_rows number wanted asked pieces (lone_cell cell.grid (timeline (map source_piece pieces)) cell.number)
