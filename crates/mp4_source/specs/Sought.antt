-- The way over the top boxes of a file, one box at a time.
use Rattle.std.specs.Prelude.{◌≡◌, ℕ, suc, ◌+◌, ◌≤◌, min, List, [], ◌∷◌, ◌++◌, drop, Option, Some, None, MatchOption, IfSome, Result, Ok, Err, nat_le, nat_lt, bytes_eq, codes, if◌then◌else◌}
use Rattle.vod_types.specs.declared.Refusal.{Refusal}
use Rattle.vod_types.specs.declared.Refusal.TheVariants as refusals
use Rattle.mp4_model.specs.declared.BoxHead.{BoxHead}
use Rattle.mp4_model.specs.Movie as movie
use Rattle.mp4_model.specs.Movie.{FileFault, moov_among, header_reads, place_reads}
use Rattle.vod_source.specs.Ranges.{of_file}
use Rattle.vod_source.specs.Stored.{Read}
use Rattle.vod_source.specs.Told.{told_with, GrewByPrefix}
use Rattle.mp4_source.specs.declared.seek.SeekFault.{SeekFault}
use Rattle.mp4_source.specs.declared.seek.SeekFault.TheVariants.{StoreFailed, BadBox, NoMovie, MovieTooLong}
use Rattle.mp4_source.specs.declared.seek.TopBox.{TopBox}
use Rattle.mp4_source.specs.declared.seek.TopBox.TheVariants.{Moov, Other}

-- what is wrong with the file, unless the store failed
abbrev pub file_fault : SeekFault → Option FileFault
file_fault StoreFailed = None
file_fault (BadBox at) = Some (movie.BadBox at)
file_fault NoMovie = Some movie.NoMovie
file_fault (MovieTooLong size) = Some (movie.MovieTooLong size)

-- the fault as the refusal of the file of this name
abbrev pub refusal_of : List ℕ → SeekFault → Refusal
refusal_of name StoreFailed = refusals.StoreFailed
refusal_of name (BadBox at) = refusals.BadBox name at
refusal_of name NoMovie = refusals.NoMovie name
refusal_of name (MovieTooLong size) = refusals.MovieTooLong name size

-- the box of a header
abbrev pub top_box_of : BoxHead → Result TopBox SeekFault
top_box_of h = if bytes_eq h.kind (codes "moov") then (if nat_lt 33554432 h.size then Err (MovieTooLong h.size) else Ok (Moov h.size)) else Ok (Other h.size)

-- the read of a header at a place, where there is room for one
abbrev pub box_reads : ℕ → ℕ → List (ℕ × ℕ)
box_reads at left = if nat_le 8 left then (at, min 16 left) ∷ [] else []

-- The log gained the reads of these headers of a file, or a prefix of them where the store failed.
abbrev pub GainsHeaders : {X : Type 0} → Option (List Read) → Option (List Read) → List ℕ → List (ℕ × ℕ) → Result X SeekFault → Type 0
GainsHeaders before now name reads (Ok x) = now ≡ told_with before (of_file name reads)
GainsHeaders before now name reads (Err fault) =
    MatchOption (file_fault fault) (GrewByPrefix before now (of_file name reads)) (λ _. now ≡ told_with before (of_file name reads))

-- What the box at a place says of the way from there on, however many boxes may follow.
abbrev pub IsStep : ℕ → ℕ → List ℕ → Result TopBox SeekFault → Type 0
IsStep at left rest (Ok (Moov size)) =
    (n : ℕ) → (moov_among (suc n) at rest ≡ Ok (at, size)) × (header_reads (suc n) at rest ≡ box_reads at left)
IsStep at left rest (Ok (Other size)) =
    (n : ℕ) → (moov_among (suc n) at rest ≡ moov_among n (at + size) (drop size rest))
    × (header_reads (suc n) at rest ≡ box_reads at left ++ header_reads n (at + size) (drop size rest))
IsStep at left rest (Err fault) =
    IfSome (file_fault fault) (λ f. (n : ℕ) → (moov_among (suc n) at rest ≡ Err f) × (header_reads (suc n) at rest ≡ box_reads at left))

-- it fits into what is left, and a `moov` isn't too long
abbrev pub IsWithin : ℕ → TopBox → Type 0
IsWithin left (Moov size) = (size ≤ left) × (size ≤ 33554432)
IsWithin left (Other size) = size ≤ left

-- The way so far: what is left to look at from a place on, and what was read.
pub record IsWay (file : List ℕ) (most at : ℕ) (made : List (ℕ × ℕ)) : Type 0 where
  pub place : moov_among 64 0 file ≡ moov_among most at (drop at file)
  pub reads : place_reads file ≡ made ++ header_reads most at (drop at file)

-- what was found is the place and the size of `moov`, or the fault
abbrev pub IsSought : List ℕ → Result (ℕ × ℕ) SeekFault → Type 0
IsSought file (Ok found) = moov_among 64 0 file ≡ Ok found
IsSought file (Err fault) = IfSome (file_fault fault) (λ f. moov_among 64 0 file ≡ Err f)
