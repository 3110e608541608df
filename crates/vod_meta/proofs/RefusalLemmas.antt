-- A movie is refused as a path may be.
use Rattle.std.proofs.Common.{◌≡◌, ℕ, List, ◌⊎◌, inl, inr}
use Rattle.vod_types.specs.declared.refusal.Refusal.{Refusal}
use Rattle.vod_types.specs.declared.refusal.Refusal.TheVariants.{NoMemory, StoreFailed}
use Rattle.mp4_model.specs.declared.MoviePlace.{MoviePlace}
use Rattle.mp4_model.specs.Movie.{FileFault, BadBox, NoMovie, MovieTooLong}
use Rattle.mp4_source.specs.Places.{IsPlaceRefusal, refusal_of_fault}
use Rattle.answer_laws.specs.Refusals.{IsPathRefusal}
use Rattle.answer_laws.proofs.Segments.{of_file}
use Rattle.answer_laws.proofs.Steps.{May, both_may}
use Rattle.vod_meta.specs.Read.{movie_due}

-- ---- on the way to it

of_fault : (name : List ℕ) (fault : FileFault) → IsPathRefusal (refusal_of_fault name fault)
of_fault name (BadBox at) = tt
of_fault name NoMovie = tt
of_fault name (MovieTooLong size) = tt

-- where its place is sought
pub place_may : (name : List ℕ) (r : Refusal) → IsPlaceRefusal name r → IsPathRefusal r
place_may name r (inl is) = rw is tt
place_may name r (inr (inl is)) = rw is tt
place_may name r (inr (inr (inl is))) = rw is tt
place_may name r (inr (inr (inr fault))) = rw fault.1 (of_fault name fault.0)

-- where its bytes are read
pub read_may : (r : Refusal) → (r ≡ StoreFailed) ⊎ (r ≡ NoMemory) → IsPathRefusal r
read_may r (inl is) = rw is tt
read_may r (inr is) = rw is tt

-- where its tracks are
pub due_may : (name : List ℕ) (place : MoviePlace) (moov : List ℕ) → May (movie_due name place moov)
unfolding movie_due
due_may name place moov = both_may _ _ (of_file name) _
