-- The sync rows of pieces, by their places among all rows; this project's own.
use Rattle.std.specs.Prelude.{◌≡◌, ℕ, List, [], slice_get, Some}
use Rattle.std.specs.Option.{option_map_or}
use Rattle.vod_types.specs.declared.tracks.Kind.{Kind}
use Rattle.segment_model.specs.Iframes.{sync_rows}
use Rattle.segment_model.specs.Rows.{TimedRow}
use Rattle.vod_plan.specs.Ranges.{PlannedPiece, range_of, range_rows}

-- the rows of a kind of a piece, whose file has this place
abbrev pub rows_at : Kind → ℕ → PlannedPiece → List TimedRow
rows_at kind file p = option_map_or (range_rows kind file p.base) (range_of kind p) []

-- The row at a place is the sync row of an index, both from 0.
abbrev pub IsSyncAt : List TimedRow → ℕ → ℕ → Type 0
IsSyncAt rows index place = (row : TimedRow) × (slice_get rows place ≡ Some row) × (slice_get (sync_rows rows) index ≡ Some row)
