-- How often files are read.
use Rattle.std.specs.Prelude.{ℕ, ◌+◌, ◌*◌, ◌≤◌, Bool, List, length, Option}
use Rattle.vod_types.specs.declared.paths.Ask.{Ask}
use Rattle.vod_types.specs.declared.paths.ByteRange.{ByteRange}
use Rattle.mp4_model.specs.Movie.{place_reads, movie_reads}
use Rattle.vod_source.specs.Ranges.{file_reads}
use Rattle.origin_model.specs.Reads.{Cache, looks_of, names_taken, ask_reads}
use Rattle.origin_model.specs.Requests.{Setup}

-- A movie is found by at most 64 reads of headers, and at most 512 more take its `moov` box.
abbrev pub FewMovieReads : Type 0
FewMovieReads = (file : List ℕ) → (length (place_reads file) ≤ 64) × (length (movie_reads file) ≤ 64 + 512)

-- A file of at most so many bytes as a mapping file may have is read by at most 16 reads.
abbrev pub FewMappingReads : Type 0
FewMappingReads = (name : List ℕ) (n : ℕ) → n ≤ 1048576 → length (file_reads name 0 n) ≤ 16

-- Beside its samples, a request has at most 16 reads for its mapping, and at most 576 for each turn on a file.
abbrev pub FewRequestReads : Type 0
FewRequestReads =
    (o : Setup) (cache : Cache) (with_body : Bool) (taken : List Bool) (range : Option ByteRange) (ask : Ask) →
    let looks = looks_of o range ask in
    length (ask_reads o cache with_body taken range ask) ≤ 16 + length (names_taken looks taken) * (64 + 512) + length looks.samples
