-- What the place of a movie says of the movie, and that finding it and reading it are the reads of the movie.
use Rattle.std.proofs.Common.{◌≡◌, ℕ, List, ◌++◌, Option, Some, None, Result, Ok, Err, refl, sym, ap, ◌∙◌, append-nil}
use Rattle.std.specs.Result.{result_map_both}
use Rattle.std.proofs.lemmas.List.{map-append}
use Rattle.vod_types.specs.declared.Refusal.{Refusal}
use Rattle.vod_types.specs.declared.Refusal.TheVariants as refusals
use Rattle.mp4_model.specs.declared.MoviePlace.{MoviePlace}
use Rattle.mp4_model.specs.Movie.{FileFault, movie_place, movie_reads, place_reads, moov_reads}
use Rattle.vod_types.specs.Ranges.{range_reads}
use Rattle.vod_source.specs.Ranges.{of_file, file_reads}
use Rattle.vod_source.specs.Stored.{Files, file_named}
use Rattle.mp4_source.specs.Places.{refusal_of_fault, stored_place, stored_place_reads}
use Rattle.mp4_source.proofs.PlaceLemmas.{stored_place-none, stored_place-some, stored_place_reads-some}

module _ (files : Files) (name : List ℕ) where
  -- the file with a place, and the file without
  pub record HasPlace (place : MoviePlace) : Type 0 where
    pub file : List ℕ
    pub named : file_named files name ≡ Some file
    pub found : movie_place file ≡ Ok place

  pub record HasFault (fault : FileFault) : Type 0 where
    pub file : List ℕ
    pub named : file_named files name ≡ Some file
    pub refused : movie_place file ≡ Err fault

  -- why it is refused
  pub data IsRefused (r : Refusal) : Type 0 where
    absent : file_named files name ≡ None → r ≡ refusals.NoFile name → IsRefused r
    faulty : (fault : FileFault) → HasFault fault → r ≡ refusal_of_fault name fault → IsRefused r

  due_of : List ℕ → Result MoviePlace FileFault → Result MoviePlace Refusal
  due_of file r = result_map_both (λ (p : MoviePlace). p) (refusal_of_fault name) r

  pub stored_place-ok : (place : MoviePlace) → stored_place files name ≡ Ok place → HasPlace place
  unfolding due_of
  stored_place-ok place e = go (file_named files name) refl
    where
      go : (o : Option (List ℕ)) → file_named files name ≡ o → HasPlace place
      go None is = let p = sym e ∙ stored_place-none files name is in absurd cc
      go (Some file) is = of_place (movie_place file) refl
        where
          of_place : (r : Result MoviePlace FileFault) → movie_place file ≡ r → HasPlace place
          of_place (Ok found) f =
              let p = sym e ∙ stored_place-some files name file is ∙ ap (due_of file) f in
              let same : found ≡ place = cc in
              record { file = file; named = is; found = f ∙ ap (λ (q : MoviePlace). Ok q) same }
          of_place (Err fault) f = let p = sym e ∙ stored_place-some files name file is ∙ ap (due_of file) f in absurd cc

  pub stored_place-err : (r : Refusal) → stored_place files name ≡ Err r → IsRefused r
  unfolding due_of
  stored_place-err r e = go (file_named files name) refl
    where
      go : (o : Option (List ℕ)) → file_named files name ≡ o → IsRefused r
      go None is = let p = sym e ∙ stored_place-none files name is in absent is cc
      go (Some file) is = of_place (movie_place file) refl
        where
          of_place : (q : Result MoviePlace FileFault) → movie_place file ≡ q → IsRefused r
          of_place (Ok found) f = let p = sym e ∙ stored_place-some files name file is ∙ ap (due_of file) f in absurd cc
          of_place (Err fault) f = let p = sym e ∙ stored_place-some files name file is ∙ ap (due_of file) f in faulty fault (record { file = file; named = is; refused = f }) cc

  -- the reads of the movie are those of `find`, and then those of `read`
  pub movie_reads-ok : (place : MoviePlace) (p : HasPlace place) → of_file name (movie_reads p.file) ≡ stored_place_reads files name ++ file_reads name place.at place.size
  unfolding movie_reads file_reads
  movie_reads-ok place p =
      ap (λ (r : Result MoviePlace FileFault). of_file name (place_reads p.file ++ moov_reads r)) p.found
      ∙ map-append (λ (r : ℕ × ℕ). (name, r.0, r.1)) (place_reads p.file) (range_reads place.at place.size)
      ∙ ap (λ (rs : List (List ℕ × ℕ × ℕ)). rs ++ of_file name (range_reads place.at place.size)) (sym (stored_place_reads-some files name p.file p.named))

  pub movie_reads-err : (fault : FileFault) (p : HasFault fault) → of_file name (movie_reads p.file) ≡ stored_place_reads files name
  unfolding movie_reads
  movie_reads-err fault p =
      ap (λ (r : Result MoviePlace FileFault). of_file name (place_reads p.file ++ moov_reads r)) p.refused
      ∙ ap (of_file name) (append-nil (place_reads p.file))
      ∙ sym (stored_place_reads-some files name p.file p.named)
