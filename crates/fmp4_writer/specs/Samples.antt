-- The samples that a media segment has still to carry (this project's own).
use Rattle.std.specs.Prelude.{◌+◌, ◌<◌, ◌^◌, List, ◌++◌, length, nat_lt, if◌then◌else◌, Option, All, Contains, ◌⊎◌}
use Rattle.vod_types.specs.declared.tracks.Kind.{Kind}
use Rattle.vod_types.specs.declared.tracks.Kind.TheVariants.{Video, Audio}
use Rattle.vod_types.specs.declared.segments.Row.{Row}
use Rattle.vod_types.specs.SegmentRows.{SegmentRows, Places, rows_left}
use Rattle.vod_source.specs.Stored.{Files, Read, InFile}
use Rattle.vod_source.specs.Ranges.{file_reads}

-- the rows whose samples are still to come: those of video first
abbrev pub samples_left : SegmentRows → Places → List Row
samples_left rows places = rows_left Video rows places ++ rows_left Audio rows places

-- the kind of the row that comes next
abbrev pub next_kind : SegmentRows → Places → Kind
next_kind rows places = if nat_lt places.video (length rows.video) then Video else Audio

-- the reads of a row's sample
abbrev pub row_reads : SegmentRows → Row → List Read
row_reads rows row = file_reads (rows.name row.file) row.sample.at row.sample.size

-- one of the rows
abbrev pub IsRow : Row → SegmentRows → Type 0
IsRow row rows = Contains rows.video row ⊎ Contains rows.audio row

-- a sample whose range ends below 2^64 and lies in its file, where the content is told
pub record IsReadable (content : Option Files) (rows : SegmentRows) (row : Row) : Type 0 where
  pub fits : row.sample.at + row.sample.size < 2 ^ 64
  pub within : InFile content (rows.name row.file) row.sample.at row.sample.size

pub record AreReadable (content : Option Files) (rows : SegmentRows) : Type 0 where
  pub video : All (IsReadable content rows) rows.video
  pub audio : All (IsReadable content rows) rows.audio
