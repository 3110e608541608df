-- The sync samples of a track by their places in `stss`; this project's own.
use Rattle.std.specs.Prelude.{ℕ, length, filter}
use Rattle.std.specs.List.{range_with_len}
use Rattle.mp4_model.specs.Samples.{is_sync}
use Rattle.mp4_model.specs.Tables.{SampleTables}

-- how many sync samples stand before a sample
abbrev pub syncs_before : SampleTables → ℕ → ℕ
syncs_before t i = length (filter (is_sync t) (range_with_len 0 i))
