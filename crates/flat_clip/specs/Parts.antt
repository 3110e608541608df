-- A part of a clip by what is kept of its file; this project's own.
use Rattle.std.specs.Prelude.{◌≡◌, ℕ, ◌+◌, ◌-◌, ◌++◌, length, ◌<◌, ◌^◌, nat_lt, if◌then◌else◌, true, List, [], filter_map, slice_get, Option, None}
use Rattle.std.specs.Bool.{then_some}
use Rattle.std.specs.Option.{option_or}
use Rattle.vod_types.specs.declared.refusal.Refusal.{Refusal}
use Rattle.vod_types.specs.declared.refusal.Refusal.TheVariants.{OutOfFile, SampleTooLong}
use Rattle.vod_types.specs.declared.segments.Row.{Row}
use Rattle.vod_bytes.specs.Fields.{zeros}
use Rattle.media_model.specs.Clip.{PlacedRow, meets, met_bytes}
use Rattle.vod_source.specs.Ranges.{file_reads}
use Rattle.vod_source.specs.Stored.{Files, InFile, Read, bytes_at}

-- the bytes of a row of a file; those that it doesn't have count as 0
abbrev pub bytes_in : Files → List ℕ → Row → List ℕ
bytes_in files name row = let bytes = bytes_at files name row.sample.at row.sample.size in bytes ++ zeros (row.sample.size - length bytes)

module _ (name : List ℕ) where
  -- the first fault of a row in a file of this size
  unfoldable pub row_fault : ℕ → PlacedRow → Option Refusal
  row_fault size r =
      option_or (then_some (nat_lt 16777216 r.row.row.sample.size) (SampleTooLong name r.row.row.number r.row.row.sample.size))
      (then_some (nat_lt size (r.row.row.sample.at + r.row.row.sample.size)) (OutOfFile name r.row.row.number))

  module _ (part : ℕ × ℕ) where
    -- that of a row that has bytes in the part
    abbrev pub met_fault : ℕ → PlacedRow → Option Refusal
    met_fault size r = if meets part r then row_fault size r else None

    abbrev pub first_fault : ℕ → List PlacedRow → Option Refusal
    first_fault size rows = slice_get (filter_map (met_fault size) rows) 0

    -- what is read of a row, and its bytes
    abbrev pub row_reads : PlacedRow → List Read
    row_reads r = if meets part r then (let met = met_bytes part r in file_reads name (r.row.row.sample.at + met.0) met.1) else []

    abbrev pub row_part : Files → PlacedRow → List ℕ
    row_part files r = if meets part r then (let met = met_bytes part r in bytes_at files name (r.row.row.sample.at + met.0) met.1) else []

    -- a row that has bytes in the part lies in the file
    pub record LiesIf (content : Option Files) (r : PlacedRow) : Type 0 where
      pub low : meets part r ≡ true → r.row.row.sample.at + r.row.row.sample.size < 2 ^ 64
      pub within : meets part r ≡ true → InFile content name r.row.row.sample.at r.row.row.sample.size
