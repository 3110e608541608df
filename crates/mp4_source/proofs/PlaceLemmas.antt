-- The place of the movie in a stored file, from the way over its top boxes.
use Rattle.std.proofs.Common.{◌≡◌, ℕ, ◌+◌, ◌≤◌, List, [], length, ◌⊎◌, inl, inr, Option, Some, None, IfSome, option_map, unwrap_or, Result, Ok, Err, refl, sym, ap, ◌∙◌, subst, arith}
use Rattle.std.specs.Result.{result_map_both}
use Rattle.vod_types.specs.declared.Refusal.{Refusal}
use Rattle.vod_types.specs.declared.Refusal.TheVariants as refusals
use Rattle.mp4_model.specs.declared.MoviePlace.{MoviePlace}
use Rattle.mp4_model.specs.Movie.{FileFault, moov_among, movie_place, place_reads}
use Rattle.mp4_model.specs.Movie as movie
use Rattle.vod_source.specs.Calls.{AnswersUnlessFailed, LogsReads}
use Rattle.vod_source.specs.Ranges.{of_file}
use Rattle.vod_source.specs.Stored.{Files, Read, InFile, file_named, size_of, bytes_of}
use Rattle.vod_source.specs.Told.{told_with, GrewByPrefix}
use Rattle.vod_source.proofs.CallLemmas.{logs_all}
use Rattle.vod_source.proofs.ToldLemmas.{told_with-nil}
use Rattle.mp4_source.specs.declared.seek.SeekFault.{SeekFault}
use Rattle.mp4_source.specs.declared.seek.SeekFault.TheVariants.{StoreFailed, BadBox, NoMovie, MovieTooLong}
use Rattle.mp4_source.specs.Places.{refusal_of_fault, stored_place, stored_place_reads, IsReadable, IsPlaceRefusal}
use Rattle.mp4_source.specs.Sought.{refusal_of, GainsHeaders, IsSought}

abbrev answered : MoviePlace → Result MoviePlace Refusal
answered place = Ok place

-- ---- the place of a file

movie_place-ok : (file : List ℕ) (at size : ℕ) → moov_among 64 0 file ≡ Ok (at, size) → movie_place file ≡ Ok (record { file_size = length file; at = at; size = size })
unfolding movie_place
movie_place-ok file at size e = rw e refl

movie_place-err : (file : List ℕ) (fault : FileFault) → moov_among 64 0 file ≡ Err fault → movie_place file ≡ Err fault
unfolding movie_place
movie_place-err file fault e = rw e refl

movie_place-size : (file : List ℕ) (place : MoviePlace) → movie_place file ≡ Ok place → place.file_size ≡ length file
movie_place-size file place e = go (moov_among 64 0 file) refl
  where
    go : (r : Result (ℕ × ℕ) FileFault) → moov_among 64 0 file ≡ r → place.file_size ≡ length file
    go (Ok found) is = let p = sym e ∙ movie_place-ok file found.0 found.1 is in cc
    go (Err fault) is = let p = sym e ∙ movie_place-err file fault is in cc

module _ (files : Files) (name : List ℕ) where
  pub stored_place-none : file_named files name ≡ None → stored_place files name ≡ Err (refusals.NoFile name)
  unfolding stored_place
  stored_place-none e = rw e refl

  pub stored_place-some : (file : List ℕ) → file_named files name ≡ Some file → stored_place files name ≡ result_map_both (λ (p : MoviePlace). p) (refusal_of_fault name) (movie_place file)
  unfolding stored_place
  stored_place-some file e = rw e refl

  pub stored_place_reads-none : file_named files name ≡ None → stored_place_reads files name ≡ []
  unfolding stored_place_reads
  stored_place_reads-none e = rw e refl

  pub stored_place_reads-some : (file : List ℕ) → file_named files name ≡ Some file → stored_place_reads files name ≡ of_file name (place_reads file)
  unfolding stored_place_reads
  stored_place_reads-some file e = rw e refl

  absent : None ≡ size_of files name → file_named files name ≡ None
  absent e = go (file_named files name) e
    where
      go : (o : Option (List ℕ)) → None ≡ option_map length o → o ≡ None
      go None e = refl
      go (Some file) e = absurd cc

  -- the file that has a size
  record Present (size : ℕ) : Type 0 where
    file : List ℕ
    named : file_named files name ≡ Some file
    long : size ≡ length file
    bytes : bytes_of files name ≡ file

  present : (size : ℕ) → Some size ≡ size_of files name → Present size
  present size e = go (file_named files name) refl
    where
      go : (o : Option (List ℕ)) → file_named files name ≡ o → Present size
      go None is = let none : Some size ≡ None = e ∙ ap (option_map length) is in absurd cc
      go (Some file) is = let some : Some size ≡ Some (length file) = e ∙ ap (option_map length) is in record { file = file; named = is; long = cc; bytes = ap (λ (o : Option (List ℕ)). unwrap_or o []) is }

  place-found : (file_size at size : ℕ) → Some file_size ≡ size_of files name → IsSought (bytes_of files name) (Ok (at, size))
      → stored_place files name ≡ Ok (record { file_size = file_size; at = at; size = size })
  place-found file_size at size e sought =
      let p = present file_size e in
      stored_place-some p.file p.named
      ∙ ap (result_map_both (λ (place : MoviePlace). place) (refusal_of_fault name)) (movie_place-ok p.file at size (rw p.bytes at sought))
      ∙ ap (λ (n : ℕ). Ok (record { file_size = n; at = at; size = size })) (sym p.long)

  place-refused : (file_size : ℕ) (fault : FileFault) → Some file_size ≡ size_of files name → moov_among 64 0 (bytes_of files name) ≡ Err fault
      → stored_place files name ≡ Err (refusal_of_fault name fault)
  place-refused file_size fault e sought =
      let p = present file_size e in
      stored_place-some p.file p.named ∙ ap (result_map_both (λ (place : MoviePlace). place) (refusal_of_fault name)) (movie_place-err p.file fault (rw p.bytes at sought))

  reads-some : (file_size : ℕ) → Some file_size ≡ size_of files name → stored_place_reads files name ≡ of_file name (place_reads (bytes_of files name))
  reads-some file_size e = let p = present file_size e in stored_place_reads-some p.file p.named ∙ ap (λ (file : List ℕ). of_file name (place_reads file)) (sym p.bytes)

-- ---- what is answered where the store tells its files

-- a refusal, or want of memory for its name
abbrev Named : Refusal → Refusal → Type 0
Named due r = (r ≡ refusals.NoMemory) ⊎ (r ≡ due)

module _ (due : Result MoviePlace Refusal) (named r : Refusal) where
  due-named : due ≡ Err named → Named named r → AnswersUnlessFailed {X = MoviePlace} (λ p. p) (Err r) due
  due-named e (inl none) = λ memory store. absurd (memory none)
  due-named e (inr is) = λ memory store. e ∙ ap (λ (x : Refusal). Err x) (sym is)

  due-cut : Named refusals.StoreFailed r → AnswersUnlessFailed {X = MoviePlace} (λ p. p) (Err r) due
  due-cut (inl none) = λ memory store. absurd (memory none)
  due-cut (inr is) = λ memory store. absurd (store is)

module _ (name : List ℕ) where
  pub told-no_file : (content : Option Files) (r : Refusal) → IfSome content (λ files. None ≡ size_of files name) → Named (refusals.NoFile name) r
      → IfSome content (λ files. AnswersUnlessFailed {X = MoviePlace} (λ p. p) (Err r) (stored_place files name))
  told-no_file None r none named = tt
  told-no_file (Some files) r none named = due-named (stored_place files name) (refusals.NoFile name) r (stored_place-none files name (absent files name none)) named

  pub log-no_file : (content : Option Files) (r : Refusal) (before now : Option (List Read)) → IfSome content (λ files. None ≡ size_of files name) → now ≡ before
      → IfSome content (λ files. LogsReads {X = MoviePlace} (Err r) (stored_place_reads files name) before now)
  log-no_file None r before now none same = tt
  log-no_file (Some files) r before now none same =
      logs_all {X = MoviePlace} (Err r) (stored_place_reads files name) before now
      (same ∙ sym (told_with-nil before) ∙ ap (told_with before) (sym (stored_place_reads-none files name (absent files name none))))

  module _ (file_size : ℕ) where
    abbrev Sized : Option Files → Type 0
    Sized content = IfSome content (λ files. Some file_size ≡ size_of files name)

    pub told-found : (content : Option Files) (at size : ℕ) → Sized content → IfSome content (λ files. IsSought (bytes_of files name) (Ok (at, size)))
        → IfSome content (λ files. AnswersUnlessFailed (λ p. p) (Ok (record { file_size = file_size; at = at; size = size })) (stored_place files name))
    told-found None at size sized sought = tt
    told-found (Some files) at size sized sought = place-found files name file_size at size sized sought

    pub log-found : (content : Option Files) (place : MoviePlace) (before now : Option (List Read)) → Sized content
        → IfSome content (λ files. now ≡ told_with before (of_file name (place_reads (bytes_of files name))))
        → IfSome content (λ files. LogsReads (Ok place) (stored_place_reads files name) before now)
    log-found None place before now sized log = tt
    log-found (Some files) place before now sized log = log ∙ ap (told_with before) (sym (reads-some files name file_size sized))

    pub told-fault : (content : Option Files) (fault : SeekFault) (r : Refusal) → Sized content → IfSome content (λ files. IsSought (bytes_of files name) (Err fault))
        → Named (refusal_of name fault) r → IfSome content (λ files. AnswersUnlessFailed {X = MoviePlace} (λ p. p) (Err r) (stored_place files name))
    told-fault None fault r sized sought named = tt
    told-fault (Some files) StoreFailed r sized sought named = due-cut (stored_place files name) refusals.StoreFailed r named
    told-fault (Some files) (BadBox at) r sized sought named = due-named (stored_place files name) (refusals.BadBox name at) r (place-refused files name file_size (movie.BadBox at) sized sought) named
    told-fault (Some files) NoMovie r sized sought named = due-named (stored_place files name) (refusals.NoMovie name) r (place-refused files name file_size movie.NoMovie sized sought) named
    told-fault (Some files) (MovieTooLong size) r sized sought named = due-named (stored_place files name) (refusals.MovieTooLong name size) r (place-refused files name file_size (movie.MovieTooLong size) sized sought) named

    module _ (files : Files) (r : Refusal) (before now : Option (List Read)) (sized : Some file_size ≡ size_of files name) where
      gains-whole : now ≡ told_with before (of_file name (place_reads (bytes_of files name))) → LogsReads {X = MoviePlace} (Err r) (stored_place_reads files name) before now
      gains-whole log =
          logs_all {X = MoviePlace} (Err r) (stored_place_reads files name) before now (log ∙ ap (told_with before) (sym (reads-some files name file_size sized)))

      gains-cut : Named refusals.StoreFailed r → GrewByPrefix before now (of_file name (place_reads (bytes_of files name))) → LogsReads {X = MoviePlace} (Err r) (stored_place_reads files name) before now
      gains-cut named log = (subst (GrewByPrefix before now) (sym (reads-some files name file_size sized)) log, λ memory store. absurd (never named store memory))
        where
          never : Named refusals.StoreFailed r → (r ≡ refusals.StoreFailed → ⊥) → (r ≡ refusals.NoMemory → ⊥) → ⊥
          never (inl none) store memory = memory none
          never (inr is) store memory = store is

    pub log-fault : (content : Option Files) (fault : SeekFault) (r : Refusal) (before now : Option (List Read)) → Sized content
        → IfSome content (λ files. GainsHeaders {X = ℕ × ℕ} before now name (place_reads (bytes_of files name)) (Err fault)) → Named (refusal_of name fault) r
        → IfSome content (λ files. LogsReads {X = MoviePlace} (Err r) (stored_place_reads files name) before now)
    log-fault None fault r before now sized log named = tt
    log-fault (Some files) StoreFailed r before now sized log named = gains-cut files r before now sized named log
    log-fault (Some files) (BadBox at) r before now sized log named = gains-whole files r before now sized log
    log-fault (Some files) NoMovie r before now sized log named = gains-whole files r before now sized log
    log-fault (Some files) (MovieTooLong size) r before now sized log named = gains-whole files r before now sized log

  pub refused-fault : (fault : SeekFault) (r : Refusal) → Named (refusal_of name fault) r → IsPlaceRefusal name r
  refused-fault fault r (inl none) = inr (inl none)
  refused-fault StoreFailed r (inr is) = inl is
  refused-fault (BadBox at) r (inr is) = inr (inr (inr (movie.BadBox at, is)))
  refused-fault NoMovie r (inr is) = inr (inr (inr (movie.NoMovie, is)))
  refused-fault (MovieTooLong size) r (inr is) = inr (inr (inr (movie.MovieTooLong size, is)))

  -- a place that was found lies within the file
  pub place_in_file : (content : Option Files) (place : MoviePlace) → IsReadable place → IfSome content (λ files. stored_place files name ≡ Ok place) → InFile content name place.at place.size
  place_in_file None place readable told = tt
  place_in_file (Some files) place readable told = go (file_named files name) refl
    where
      go : (o : Option (List ℕ)) → file_named files name ≡ o → place.at + place.size ≤ length (bytes_of files name)
      go None is = let none : Ok place ≡ Err (refusals.NoFile name) = sym told ∙ stored_place-none files name is in absurd cc
      go (Some file) is = of_place (movie_place file) refl
        where
          bytes : bytes_of files name ≡ file
          bytes = ap (λ (o : Option (List ℕ)). unwrap_or o []) is

          of_place : (r : Result MoviePlace FileFault) → movie_place file ≡ r → place.at + place.size ≤ length (bytes_of files name)
          of_place (Ok found) e =
              let same : answered place ≡ answered found = sym told ∙ stored_place-some files name file is ∙ ap (result_map_both (λ (p : MoviePlace). p) (refusal_of_fault name)) e in
              let found_is : found ≡ place = cc in
              let size : place.file_size ≡ length file = movie_place-size file place (rw found_is at e) in
              rw bytes (omega (arith, readable, size))
          of_place (Err fault) e =
              let other : Ok place ≡ Err (refusal_of_fault name fault) = sym told ∙ stored_place-some files name file is ∙ ap (result_map_both (λ (p : MoviePlace). p) (refusal_of_fault name)) e in
              absurd cc
