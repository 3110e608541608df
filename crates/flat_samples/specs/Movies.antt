-- The movies that a request holds, the most recently used first; this project's own.
use Rattle.std.specs.Prelude.{◌≡◌, ◌≢◌, ℕ, List, [], map, Option, Some, slice_get, Result, Ok, Err}
use Rattle.std.specs.List.{AllByRecursion}
use Rattle.std.specs.Result.{result_unwrap_or}
use Rattle.vod_types.specs.declared.refusal.Refusal.{Refusal}
use Rattle.vod_types.specs.declared.refusal.Refusal.TheVariants.{NoMemory, StoreFailed}
use Rattle.vod_types.specs.Results.{◌>>=◌}
use Rattle.mp4_model.specs.declared.MoviePlace.{MoviePlace}
use Rattle.mp4_model.specs.Movie.{Movie, moov_tracks}
use Rattle.vod_source.specs.Stored.{Files, Read}
use Rattle.origin_model.specs.Loaded.{loaded}
use Rattle.origin_model.specs.Reads.{Cache, turn}
use Rattle.vod_source.specs.Calls.{AnswersUnlessFailed, LogsReads}

-- a movie with the name of its file
pub record HeldMovie : Type 0 where
  pub name : List ℕ
  pub movie : Movie

-- the movie of these bytes, whose tracks are known
abbrev pub movie_at : MoviePlace → List ℕ → Movie
movie_at place moov = record { place = place; moov = moov; tracks = result_unwrap_or (moov_tracks moov) [] }

abbrev pub names_held : List HeldMovie → Cache
names_held held = map (λ h. h.name) held

-- each is the movie of its file
abbrev pub AreTrue : Files → List HeldMovie → Type 0
AreTrue files held = AllByRecursion (λ h. loaded files h.name ≡ Ok h.movie) held

-- the first that is held is the movie of this name
abbrev pub IsFront : Files → List ℕ → List HeldMovie → Type 0
IsFront files name held = (h : HeldMovie) × (slice_get held 0 ≡ Some h) × (h.name ≡ name) × (loaded files name ≡ Ok h.movie)

-- what is in front after an Ok
abbrev pub FrontAt : Files → List ℕ → Result (Unit {0}) Refusal → List HeldMovie → Type 0
FrontAt files name (Ok x) held = IsFront files name held
FrontAt files name (Err e) held = Unit {0}

-- the names that are held after a turn that neither the store nor memory cut short
abbrev pub NamesAfter : Files → List ℕ → Result (Unit {0}) Refusal → List HeldMovie → List HeldMovie → Type 0
NamesAfter files name (Ok x) held held_now = names_held held_now ≡ (turn files (names_held held) name).cache
NamesAfter files name (Err e) held held_now = e ≢ NoMemory → e ≢ StoreFailed → names_held held_now ≡ (turn files (names_held held) name).cache

-- a turn on a file brings its movie to the front, by the reads of a turn
pub record IsTurn (files : Files) (name : List ℕ) (result : Result (Unit {0}) Refusal) (held held_now : List HeldMovie) (log log_now : Option (List Read)) : Type 0 where
  pub true_now : AreTrue files held_now
  pub answered : AnswersUnlessFailed (λ x. x) result (loaded files name >>= λ m. Ok tt)
  pub front : FrontAt files name result held_now
  pub names : NamesAfter files name result held held_now
  pub logged : LogsReads result (turn files (names_held held) name).reads log log_now
