-- The reads of a mapping file; this project's own.
use Rattle.std.specs.Prelude.{ℕ, List, [], length, nat_le, if◌then◌else◌}
use Rattle.std.specs.Option.{option_map_or}
use Rattle.vod_source.specs.Ranges.{file_reads}
use Rattle.vod_source.specs.Stored.{Files, Read, file_named}

-- whole, unless it is too long
abbrev pub mapping_file_reads : Files → List ℕ → List Read
mapping_file_reads files name = option_map_or (λ bytes. if nat_le (length bytes) 1048576 then file_reads name 0 (length bytes) else []) (file_named files name) []
