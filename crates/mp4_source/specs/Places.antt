-- What is answered for the place of a movie in a stored file, and what is read on the way; this project's own.
use Rattle.std.specs.Prelude.{◌≡◌, ℕ, ◌+◌, ◌≤◌, List, [], ◌⊎◌, ok_or, Result}
use Rattle.std.specs.Option.{option_map_or}
use Rattle.std.specs.Result.{result_map_both}
use Rattle.vod_types.specs.declared.Refusal.{Refusal}
use Rattle.vod_types.specs.declared.Refusal.TheVariants as refusals
use Rattle.vod_types.specs.Results.{◌>>=◌}
use Rattle.mp4_model.specs.declared.MoviePlace.{MoviePlace}
use Rattle.mp4_model.specs.Movie.{FileFault, BadBox, NoMovie, MovieTooLong, movie_place, place_reads}
use Rattle.vod_source.specs.Ranges.{of_file}
use Rattle.vod_source.specs.Stored.{Files, Read, file_named}

-- ---- the place

-- a fault of the file of this name
abbrev pub refusal_of_fault : List ℕ → FileFault → Refusal
refusal_of_fault name (BadBox at) = refusals.BadBox name at
refusal_of_fault name NoMovie = refusals.NoMovie name
refusal_of_fault name (MovieTooLong size) = refusals.MovieTooLong name size

-- where a stored file has its movie, or why there is none
unfoldable pub stored_place : Files → List ℕ → Result MoviePlace Refusal
stored_place files name = do
  file ← ok_or (file_named files name) (refusals.NoFile name)
  result_map_both (λ place. place) (refusal_of_fault name) (movie_place file)

-- it lies within the file, and isn't too long to be read
pub record IsReadable (place : MoviePlace) : Type 0 where
  pub within : place.at + place.size ≤ place.file_size
  pub short : place.size ≤ 33554432

-- why there may be no place, whatever the store tells
abbrev pub IsPlaceRefusal : List ℕ → Refusal → Type 0
IsPlaceRefusal name r =
    (r ≡ refusals.StoreFailed) ⊎ (r ≡ refusals.NoMemory) ⊎ (r ≡ refusals.NoFile name) ⊎ ((fault : FileFault) × (r ≡ refusal_of_fault name fault))

-- ---- the reads

-- the reads that find it
unfoldable pub stored_place_reads : Files → List ℕ → List Read
stored_place_reads files name = of_file name (option_map_or place_reads (file_named files name) [])
