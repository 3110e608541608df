-- The movies that are held, and the bytes of a movie box that were read; this project's own.
use Rattle.std.specs.Prelude.{◌≡◌, ℕ, ◌+◌, ◌≤◌, Bool, true, false, not, List, [], ◌∷◌, length, filter, bytes_eq, Some, slice_get, Result, Ok, ⊤}
use Rattle.std.specs.List.{list_any, remove}
use Rattle.std.specs.Result.{result_map_both}
use Rattle.vod_types.specs.declared.refusal.Refusal.{Refusal}
use Rattle.vod_types.specs.declared.refusal.Refusal.TheVariants as refusals
use Rattle.vod_types.specs.Results.{◌>>=◌}
use Rattle.mp4_model.specs.declared.MoviePlace.{MoviePlace}
use Rattle.mp4_model.specs.Movie.{Movie, moov_bytes, moov_tracks, result_in_file}
use Rattle.vod_source.specs.Stored.{Files, bytes_of}
use Rattle.mp4_source.specs.Places.{stored_place}
use Rattle.mp4_tracks.specs.declared.kept.Tracks.{Tracks}
use Rattle.mp4_tracks.specs.declared.movie.MovieFault.{MovieFault}
use Rattle.mp4_tracks.specs.declared.movie.MovieFault.TheVariants as faults
use Rattle.mp4_tracks.specs.Made.{IsMadeOf}
use Rattle.origin_model.specs.Loaded.{refusal_of_file}
use Rattle.flat_samples.specs.Movies.{HeldMovie, names_held}

-- ---- one movie

-- The bytes of a movie box aren't too many, and lie within the file.
pub record LiesInFile (place : MoviePlace) (moov : List ℕ) : Type 0 where
  pub short : length moov ≤ 33554432
  pub within : place.at + length moov ≤ place.file_size

-- its tracks were made of them
pub record IsWholeMovie (place : MoviePlace) (moov : List ℕ) (tracks : Tracks) : Type 0 where
  pub made : IsMadeOf moov tracks
  pub lies : LiesInFile place moov

-- the place and the bytes of the movie box of a file, or the first fault on the way to it
unfoldable pub fetched : Files → List ℕ → Result (MoviePlace × List ℕ) Refusal
fetched files name = stored_place files name >>= λ place. Ok (place, moov_bytes (bytes_of files name) place)

-- the movie of these bytes, or their first fault
unfoldable pub movie_due : List ℕ → MoviePlace → List ℕ → Result Movie Refusal
movie_due name place moov =
    result_map_both (λ tracks. record { place = place; moov = moov; tracks = tracks }) (refusal_of_file name)
    (result_in_file place.at (moov_tracks moov))

-- the refusal for a fault in a movie box at a place
abbrev pub refusal_in : List ℕ → ℕ → MovieFault → Refusal
refusal_in name at (faults.Box place) = refusals.BadBox name (at + place)
refusal_in name at faults.Fragmented = refusals.NoMovie name
refusal_in name at faults.NoMemory = refusals.NoMemory

-- the place of the fault lies in the file
abbrev pub HasPlaceInFile : MoviePlace → MovieFault → Type 0
HasPlaceInFile movie (faults.Box place) = movie.at + place ≤ movie.file_size
HasPlaceInFile movie fault = ⊤

-- ---- the list

abbrev pub is_held : List ℕ → List HeldMovie → Bool
is_held name held = list_any (bytes_eq name) (names_held held)

-- no two have one name
abbrev pub AreApart : List HeldMovie → Type 0
AreApart [] = ⊤
AreApart (h ∷ held) = (is_held h.name held ≡ false) × AreApart held

-- where the movie of a name stands
pub record IsPlaceOf (name : List ℕ) (held : List HeldMovie) (place : ℕ) : Type 0 where
  pub found : HeldMovie
  pub at : slice_get held place ≡ Some found
  pub named : found.name ≡ name
  pub is_held : is_held name held ≡ true
  pub others : filter (λ other. not (bytes_eq other name)) (names_held held) ≡ names_held (remove held place)
