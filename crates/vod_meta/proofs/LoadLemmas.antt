-- What finding and reading a movie box say of the movie of a file.
use Rattle.std.proofs.Common.{◌≡◌, ◌≢◌, ℕ, List, [], ◌++◌, ◌⊎◌, inl, inr, Option, Some, None, Result, Ok, Err, IfSome, refl, sym, ap, subst, ◌∙◌, arith}
use Rattle.std.specs.Result.{result_map_both}
use Rattle.std.proofs.lemmas.List.{map-append}
use Rattle.vod_types.specs.declared.refusal.Refusal.{Refusal}
use Rattle.vod_types.specs.declared.refusal.Refusal.TheVariants.{NoMemory, StoreFailed}
use Rattle.vod_types.specs.Results.{◌>>=◌, Answers}
use Rattle.mp4_model.specs.declared.MoviePlace.{MoviePlace}
use Rattle.mp4_model.specs.Movie.{FileFault, BadBox, NoMovie, MovieTooLong, Movie, movie, movie_place, movie_reads, place_reads, moov_reads, moov_bytes, moov_tracks, result_in_file}
use Rattle.mp4_model.specs.Tracks.{Track}
use Rattle.mp4_model.proofs.ResultsLemmas.{bind_ok}
use Rattle.vod_source.specs.Calls.{AnswersUnlessFailed, LogsReads, Came}
use Rattle.vod_source.specs.Ranges.{of_file, file_reads}
use Rattle.vod_source.specs.Stored.{Files, Read, file_named, bytes_of}
use Rattle.vod_source.specs.Told.{told_with, GrewByPrefix}
use Rattle.vod_source.proofs.ToldLemmas.{told_with-more, GrewByPrefix-whole, GrewByPrefix-after, GrewByPrefix-front}
use Rattle.mp4_source.specs.Places.{stored_place, stored_place_reads, refusal_of_fault}
use Rattle.mp4_source.proofs.PlaceLemmas.{stored_place_reads-none, stored_place_reads-some}
use Rattle.mp4_source.proofs.TurnLemmas.{absent, faulty, stored_place-ok, stored_place-err, movie_reads-ok, movie_reads-err}
use Rattle.mp4_tracks.specs.declared.kept.Tracks.{Tracks}
use Rattle.mp4_tracks.specs.declared.movie.MovieFault.{MovieFault}
use Rattle.mp4_tracks.specs.declared.movie.MovieFault.TheVariants as faults
use Rattle.mp4_tracks.specs.Made.{IsMadeOf, IsTracksOf, due_outcomes}
use Rattle.origin_model.specs.Loaded.{loaded, refusal_of_file}
use Rattle.origin_model.specs.Reads.{file_turn_reads}
use Rattle.vod_meta.specs.declared.reading.MovieBytes.{MovieBytes}
use Rattle.vod_meta.specs.Held.{HeldMovie, movie_at}
use Rattle.vod_meta.specs.Read.{fetched, movie_due, refusal_in, HasPlaceInFile, LiesInFile}
use Rattle.vod_meta.proofs.FaultPlaces.{moov_fault-place}

-- the place and the bytes
abbrev pub bytes_view : MovieBytes → MoviePlace × List ℕ
bytes_view found = (found.place, found.moov.items)

module _ (files : Files) (name : List ℕ) where
  -- ---- the reads

  reads-none : file_named files name ≡ None → file_turn_reads files name ≡ []
  reads-none e = rw e refl

  reads-some : (file : List ℕ) → file_named files name ≡ Some file → file_turn_reads files name ≡ of_file name (movie_reads file)
  reads-some file e = rw e refl

  -- the reads on the way to the box come first
  record WayFirst : Type 0 where
    rest : List Read
    split : file_turn_reads files name ≡ stored_place_reads files name ++ rest

  way_first : WayFirst
  unfolding movie_reads
  way_first = go (file_named files name) refl
    where
      go : (o : Option (List ℕ)) → file_named files name ≡ o → WayFirst
      go None e = record { rest = []; split = reads-none e ∙ ap (λ (xs : List Read). xs ++ []) (sym (stored_place_reads-none files name e)) }
      go (Some file) e = record {
        rest = of_file name (moov_reads (movie_place file));
        split =
            reads-some file e
            ∙ map-append (λ (r : ℕ × ℕ). (name, r.0, r.1)) (place_reads file) (moov_reads (movie_place file))
            ∙ ap (λ (xs : List Read). xs ++ of_file name (moov_reads (movie_place file))) (sym (stored_place_reads-some files name file e));
      }

  reads-ok : (place : MoviePlace) → stored_place files name ≡ Ok place → file_turn_reads files name ≡ stored_place_reads files name ++ file_reads name place.at place.size
  reads-ok place e = let p = stored_place-ok files name place e in reads-some p.file p.named ∙ movie_reads-ok files name place p

  reads-err : (r : Refusal) → stored_place files name ≡ Err r → file_turn_reads files name ≡ stored_place_reads files name
  reads-err r e =
      elim (stored_place-err files name r e) [
        | absent none is ↦ reads-none none ∙ sym (stored_place_reads-none files name none)
        | faulty fault p is ↦ reads-some p.file p.named ∙ movie_reads-err files name fault p
      ]

  -- ---- the bytes of the box

  fetched-ok : (place : MoviePlace) → stored_place files name ≡ Ok place → fetched files name ≡ Ok (place, moov_bytes (bytes_of files name) place)
  unfolding fetched
  fetched-ok place e = rw e refl

  fetched-err : (r : Refusal) → stored_place files name ≡ Err r → fetched files name ≡ Err r
  unfolding fetched
  fetched-err r e = rw e refl

  abbrev Fetches : Result MovieBytes Refusal → Option (List Read) → Option (List Read) → Type 0
  Fetches result log now = Came bytes_view result (fetched files name) (file_turn_reads files name) log now

  not_found : (r : Refusal) (log now : Option (List Read)) → AnswersUnlessFailed {X = MoviePlace} (λ p. p) (Err r) (stored_place files name)
      → LogsReads {X = MoviePlace} (Err r) (stored_place_reads files name) log now → Fetches (Err r) log now
  not_found r log now due gains =
      let way = way_first in
      record {
        answered = λ memory store. fetched-err r (due memory store);
        logged = (
          GrewByPrefix-front (stored_place_reads files name) way.rest (file_turn_reads files name) way.split gains.0,
          λ memory store. gains.1 memory store ∙ ap (told_with log) (sym (reads-err r (due memory store))),
        );
      }

  not_read : (place : MoviePlace) (r : Refusal) (log middle now : Option (List Read)) → stored_place files name ≡ Ok place
      → middle ≡ told_with log (stored_place_reads files name) → GrewByPrefix middle now (file_reads name place.at place.size)
      → (r ≡ StoreFailed) ⊎ (r ≡ NoMemory) → Fetches (Err r) log now
  not_read place r log middle now found way grown cut = record {
    answered = λ memory store. absurd (never cut memory store);
    logged = (subst (GrewByPrefix log now) (sym (reads-ok place found)) (GrewByPrefix-after (stored_place_reads files name) way grown), λ memory store. absurd (never cut memory store));
  }
    where
      never : (r ≡ StoreFailed) ⊎ (r ≡ NoMemory) → r ≢ NoMemory → r ≢ StoreFailed → ⊥
      never (inl is) memory store = store is
      never (inr is) memory store = memory is

  was_read : (found : MovieBytes) (log middle now : Option (List Read)) → stored_place files name ≡ Ok found.place
      → middle ≡ told_with log (stored_place_reads files name) → now ≡ told_with middle (file_reads name found.place.at found.place.size)
      → found.moov.items ≡ moov_bytes (bytes_of files name) found.place → Fetches (Ok found) log now
  was_read found log middle now is way read bytes = record {
    answered = fetched-ok found.place is ∙ ap (λ (moov : List ℕ). Ok (found.place, moov)) (sym bytes);
    logged =
        told_with-more log middle now (stored_place_reads files name) (file_reads name found.place.at found.place.size) way read
        ∙ ap (told_with log) (sym (reads-ok found.place is));
  }

  -- ---- the movie

  same_refusal : (fault : FileFault) → refusal_of_file name fault ≡ refusal_of_fault name fault
  same_refusal (BadBox at) = refl
  same_refusal NoMovie = refl
  same_refusal (MovieTooLong size) = refl

  abbrev due_by : MoviePlace × List ℕ → Result Movie Refusal
  due_by f = movie_due name f.0 f.1

  loaded-by : loaded files name ≡ (fetched files name >>= due_by)
  unfolding loaded fetched movie movie_due stored_place
  loaded-by = go (file_named files name) refl
    where
      by_tracks : (place : MoviePlace) (moov : List ℕ) (r : Result (List Track) FileFault) →
          result_map_both (λ (m : Movie). m) (refusal_of_file name) (r >>= λ tracks. Ok (record { place = place; moov = moov; tracks = tracks }))
          ≡ result_map_both (λ (tracks : List Track). record { place = place; moov = moov; tracks = tracks }) (refusal_of_file name) r
      by_tracks place moov (Ok tracks) = refl
      by_tracks place moov (Err fault) = refl

      by_place : (file : List ℕ) (r : Result MoviePlace FileFault) →
          result_map_both (λ (m : Movie). m) (refusal_of_file name) (r >>= λ place. result_in_file place.at (moov_tracks (moov_bytes file place)) >>= λ tracks. Ok (record { place = place; moov = moov_bytes file place; tracks = tracks }))
          ≡ ((result_map_both (λ (place : MoviePlace). place) (refusal_of_fault name) r >>= λ place. Ok (place, moov_bytes file place)) >>= due_by)
      by_place file (Ok place) = by_tracks place (moov_bytes file place) (result_in_file place.at (moov_tracks (moov_bytes file place)))
      by_place file (Err fault) = ap (λ (r : Refusal). Err r) (same_refusal fault)

      go : (o : Option (List ℕ)) → file_named files name ≡ o → loaded files name ≡ (fetched files name >>= due_by)
      go None e = rw e refl
      go (Some file) e = rw e (by_place file (movie_place file))

  abbrev Loads : Result HeldMovie Refusal → Option (List Read) → Option (List Read) → Type 0
  Loads result log now = Came (λ (m : HeldMovie). m.movie) result (loaded files name) (file_turn_reads files name) log now

  not_fetched : (r : Refusal) (log now : Option (List Read)) → Fetches (Err r) log now → Loads (Err r) log now
  not_fetched r log now came = record {
    answered = λ memory store. loaded-by ∙ ap (λ (f : Result (MoviePlace × List ℕ) Refusal). f >>= due_by) (came.answered memory store);
    logged = came.logged;
  }

  was_fetched : (found : MovieBytes) (result : Result HeldMovie Refusal) (log now : Option (List Read)) → Fetches (Ok found) log now
      → Answers (λ (m : HeldMovie). m.movie) result (movie_due name found.place found.moov.items) → Loads result log now
  was_fetched found (Ok m) log now came answers = record {
    answered = loaded-by ∙ ap (λ (f : Result (MoviePlace × List ℕ) Refusal). f >>= due_by) came.answered ∙ answers;
    logged = came.logged;
  }
  was_fetched found (Err r) log now came answers = record {
    answered = λ memory store. loaded-by ∙ ap (λ (f : Result (MoviePlace × List ℕ) Refusal). f >>= due_by) came.answered ∙ answers memory;
    logged = (GrewByPrefix-whole log now (file_turn_reads files name) came.logged, λ memory store. came.logged);
  }

-- ---- where the store tells its files

module _ (name : List ℕ) where
  abbrev TellsFetch : Option Files → Result MovieBytes Refusal → Option (List Read) → Option (List Read) → Type 0
  TellsFetch content result log now = IfSome content (λ files. Came bytes_view result (fetched files name) (file_turn_reads files name) log now)

  abbrev TellsLoad : Option Files → Result HeldMovie Refusal → Option (List Read) → Option (List Read) → Type 0
  TellsLoad content result log now = IfSome content (λ files. Came (λ (m : HeldMovie). m.movie) result (loaded files name) (file_turn_reads files name) log now)

  pub told-not_found : (content : Option Files) (r : Refusal) (log now : Option (List Read)) → IfSome content (λ files. AnswersUnlessFailed {X = MoviePlace} (λ p. p) (Err r) (stored_place files name))
      → IfSome content (λ files. LogsReads {X = MoviePlace} (Err r) (stored_place_reads files name) log now) → TellsFetch content (Err r) log now
  told-not_found None r log now due gains = tt
  told-not_found (Some files) r log now due gains = not_found files name r log now due gains

  pub told-not_read : (content : Option Files) (place : MoviePlace) (r : Refusal) (log middle now : Option (List Read)) → IfSome content (λ files. stored_place files name ≡ Ok place)
      → IfSome content (λ files. middle ≡ told_with log (stored_place_reads files name)) → GrewByPrefix middle now (file_reads name place.at place.size)
      → (r ≡ StoreFailed) ⊎ (r ≡ NoMemory) → TellsFetch content (Err r) log now
  told-not_read None place r log middle now found way grown cut = tt
  told-not_read (Some files) place r log middle now found way grown cut = not_read files name place r log middle now found way grown cut

  pub told-was_read : (content : Option Files) (found : MovieBytes) (log middle now : Option (List Read)) → IfSome content (λ files. stored_place files name ≡ Ok found.place)
      → IfSome content (λ files. middle ≡ told_with log (stored_place_reads files name)) → now ≡ told_with middle (file_reads name found.place.at found.place.size)
      → IfSome content (λ files. found.moov.items ≡ moov_bytes (bytes_of files name) found.place) → TellsFetch content (Ok found) log now
  told-was_read None found log middle now is way read bytes = tt
  told-was_read (Some files) found log middle now is way read bytes = was_read files name found log middle now is way read bytes

  pub told-not_fetched : (content : Option Files) (r : Refusal) (log now : Option (List Read)) → TellsFetch content (Err r) log now → TellsLoad content (Err r) log now
  told-not_fetched None r log now came = tt
  told-not_fetched (Some files) r log now came = not_fetched files name r log now came

  pub told-was_fetched : (content : Option Files) (found : MovieBytes) (result : Result HeldMovie Refusal) (log now : Option (List Read)) → TellsFetch content (Ok found) log now
      → Answers (λ (m : HeldMovie). m.movie) result (movie_due name found.place found.moov.items) → TellsLoad content result log now
  told-was_fetched None found result log now came answers = tt
  told-was_fetched (Some files) found result log now came answers = was_fetched files name found result log now came answers

-- ---- the movie of the bytes

module _ (name : List ℕ) (place : MoviePlace) (moov : List ℕ) where
  pub due-made : (tracks : Tracks) → IsMadeOf moov tracks → movie_due name place moov ≡ Ok (movie_at place moov)
  unfolding IsMadeOf movie_due
  due-made tracks made =
      let found = bind_ok (moov_tracks moov) (λ ts. Ok (due_outcomes ts)) _ made in
      rw found.1 refl

  due-err : (fault : FileFault) → moov_tracks moov ≡ Err fault → movie_due name place moov ≡ result_map_both (λ (m : Movie). m) (refusal_of_file name) (result_in_file place.at (Err fault))
  unfolding movie_due
  due-err fault e = rw e refl

  pub due-refused : (fault : MovieFault) (r : Refusal) → IsTracksOf moov (Err fault) → (r ≡ NoMemory) ⊎ (r ≡ refusal_in name place.at fault) → r ≢ NoMemory → movie_due name place moov ≡ Err r
  due-refused fault r tracks (inl none) memory = absurd (memory none)
  due-refused (faults.Box at) r tracks (inr is) memory = due-err (BadBox at) tracks ∙ ap (λ (x : Refusal). Err x) (sym is)
  due-refused faults.Fragmented r tracks (inr is) memory = due-err NoMovie tracks ∙ ap (λ (x : Refusal). Err x) (sym is)
  due-refused faults.NoMemory r tracks (inr is) memory = absurd (memory is)

  pub not_store : (fault : MovieFault) (r : Refusal) → (r ≡ NoMemory) ⊎ (r ≡ refusal_in name place.at fault) → r ≢ StoreFailed
  not_store fault r (inl none) store = let p = sym none ∙ store in cc
  not_store (faults.Box at) r (inr is) store = let p = sym is ∙ store in cc
  not_store faults.Fragmented r (inr is) store = let p = sym is ∙ store in cc
  not_store faults.NoMemory r (inr is) store = let p = sym is ∙ store in cc

  pub place-fits : (fault : MovieFault) → IsTracksOf moov (Err fault) → LiesInFile place moov → HasPlaceInFile place fault
  place-fits (faults.Box at) tracks lies = let within = moov_fault-place moov at tracks in omega (arith, lies.within)
  place-fits faults.Fragmented tracks lies = tt
  place-fits faults.NoMemory tracks lies = tt
