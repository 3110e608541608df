-- The rows of a segment over the pieces that it needs; this project's own.
use Rattle.std.specs.Prelude.{◌≡◌, ℕ, Some, Bool, List, [], ◌∷◌, map, sum, ok_or, unwrap_or, option_map, ℤ, ◌+ℤ◌, Result}
use Rattle.vod_types.specs.declared.refusal.Refusal.{Refusal}
use Rattle.vod_types.specs.declared.refusal.Refusal.TheVariants as refusals
use Rattle.vod_types.specs.declared.tracks.Asked.{Asked}
use Rattle.vod_types.specs.declared.segments.Form.{Form}
use Rattle.vod_types.specs.declared.segments.Form.TheVariants.{Ts}
use Rattle.vod_types.specs.Lists.{nth_from_one}
use Rattle.vod_types.specs.Results.{◌>>=◌, ◌>>◌, each_in_turn}
use Rattle.clip_model.specs.declared.Part.{Part}
use Rattle.clip_model.specs.declared.Piece.{Piece}
use Rattle.clip_model.specs.Timeline.{Timeline}
use Rattle.segment_model.specs.Grid.{SegmentGrid, cells, locate}
use Rattle.segment_model.specs.Iframes.{sync_rows}
use Rattle.segment_model.specs.Lone.{lone_cell}
use Rattle.segment_model.specs.Rows.{TimedRow}
use Rattle.segment_model.specs.Timeline.{TrackRows, is_below, timeline}
use Rattle.vod_source.specs.Stored.{Files, Read}
use Rattle.origin_model.specs.Iframes.{checked_iframe}
use Rattle.origin_model.specs.Loaded.{CheckedPiece, checked}
use Rattle.origin_model.specs.Plans.{Cutting, few_cells, located_cell, segment_looks, segment_pieces}
use Rattle.origin_model.specs.Reads.{turns}
use Rattle.origin_model.specs.Samples.{SegmentPlan, checked_rows}
use Rattle.origin_model.specs.Sources.{source_piece}
use Rattle.flat_segments.specs.declared.segment.Wanted.{Wanted}
use Rattle.flat_segments.specs.declared.segment.Wanted.TheVariants.{Iframe, Whole}

-- where a number stands among so many cells of each part, or why it doesn't
abbrev pub place_among : List ℕ → ℕ → Result (ℕ × ℕ) Refusal
place_among counts number = few_cells (sum counts) >> ok_or (locate counts number) (refusals.NoSegment number (sum counts))

-- the numbers of cells of parts whose lengths are declared
abbrev pub declared_counts : SegmentGrid → List Part → List ℕ
declared_counts g parts = map (λ part. cells g (unwrap_or part.length_ms 0)) parts

-- a piece ends after a time; an absent end is above all
abbrev pub piece_ends_after : ℤ → Piece → Bool
piece_ends_after time p = is_below time (option_map (λ hi. p.base +ℤ hi) p.hi)

-- how the parts are cut, and whether edits are honoured
abbrev pub cutting_of : Files → SegmentGrid → Bool → Bool → Cutting
cutting_of files grid align edits = record { files = files; edits = edits; grid = grid; align = align }

-- the reads of the movies of the pieces that a segment looks at
abbrev pub segment_turns : Cutting → Asked → Timeline → ℕ → List Read
segment_turns c asked t number = (turns c.files [] (map (λ piece. piece.name) (segment_looks c asked t number))).reads

-- ---- what is wanted of a segment

-- a row as the only one
abbrev pub lone_row : TimedRow → TrackRows
lone_row row = record { lead = row ∷ []; other = [] }

-- the only row is the sync row of an index from 1
abbrev pub IsNthSync : List TimedRow → ℕ → TrackRows → Type 0
IsNthSync lead index rows = (row : TimedRow) × (nth_from_one (sync_rows lead) index ≡ Some row) × (rows ≡ lone_row row)

abbrev pub form_of : Wanted → Form
form_of (Whole form) = form
form_of (Iframe index) = Ts

-- the rows that are wanted, or their first refusal
abbrev pub wanted_rows : ℕ → Wanted → Asked → List CheckedPiece → TrackRows → Result SegmentPlan Refusal
wanted_rows number (Whole form) asked pieces rows = checked_rows number form asked pieces rows
wanted_rows number (Iframe index) asked pieces rows = checked_iframe number index asked pieces rows

-- those of the segment of a number over the pieces that it needs
unfoldable pub planned_wanted : Cutting → Asked → Timeline → ℕ → Wanted → Result SegmentPlan Refusal
planned_wanted c asked t number wanted = do
  needed ← segment_pieces c asked t number
  pieces ← each_in_turn (checked c.files c.edits asked) needed
  cell ← located_cell c asked t number
  wanted_rows number wanted asked pieces (lone_cell cell.grid (timeline (map source_piece pieces)) cell.number)
