-- Init segments: the piece of a part, and what is answered and read in each case.
use Rattle.std.proofs.Common.{◌≡◌, ℕ, Bool, zero, suc, ◌+◌, ◌-◌, ◌<◌, List, [], ◌∷◌, drop, length, slice_get, take, Option, Some, None, IfOk, IfErr, Result, Ok, Err, refl, sym, ap, ◌∙◌, append-nil, arith, subst}
use Rattle.std.specs.Prelude.{option_map}
use Rattle.std.specs.Option.{option_map_or}
use Rattle.std.proofs.lemmas.Option.{same_Some}
use Rattle.vod_types.specs.declared.refusal.Refusal.{Refusal}
use Rattle.vod_types.specs.declared.refusal.Refusal.TheVariants.{NoMemory, NoPart, EmptyPart}
use Rattle.vod_types.specs.declared.tracks.Asked.{Asked}
use Rattle.vod_types.specs.Lists.{nth_from_one}
use Rattle.vod_types.specs.Results.{◌>>=◌, Answers}
use Rattle.mp4_model.specs.Movie.{Movie}
use Rattle.mp4_tracks.specs.declared.views.TrackView.{TrackView}
use Rattle.mp4_tracks.specs.Views.{good_of}
use Rattle.media_model.specs.InitSegment.{init_segment}
use Rattle.clip_model.specs.declared.Part.{Part}
use Rattle.clip_model.specs.declared.Piece.{Piece}
use Rattle.clip_model.specs.Timeline.{Timeline}
use Rattle.vod_source.specs.Stored.{Files, Read}
use Rattle.vod_source.specs.Told.{told_with}
use Rattle.origin_model.specs.Bodies.{init_body}
use Rattle.origin_model.specs.Loaded.{loaded}
use Rattle.origin_model.specs.Reads.{turn, turns}
use Rattle.origin_model.specs.Requests.{first_piece, init_piece}
use Rattle.flat_samples.specs.declared.tracks.CheckedTracks.{CheckedTracks}
use Rattle.mp4_flat.specs.Inits.{init_names, part_init}
use Rattle.vod_source.specs.Calls.{Came, LogsReads}
use Rattle.flat_samples.specs.Checks.{checked_in, checked_view}
use Rattle.mp4_flat.specs.Inits.{init_in_movie, init_of_tracks, piece_init}
use Rattle.flat_samples.specs.Movies.{AreTrue, HeldMovie, IsTurn, names_held}
use Rattle.flat_samples.proofs.CheckLemmas.{checked-in, not_loaded}
use Rattle.vod_source.proofs.CallLemmas.{came-read, came-unread}

-- ---- the first piece of a part

pub nth-from : {X : Type 0} (xs : List X) (n : ℕ) → 0 < n → nth_from_one xs n ≡ slice_get xs (n - 1)
nth-from xs zero some = absurd (omega (arith, some))
nth-from xs (suc i) some = let same : suc i - 1 ≡ i = omega arith in rw same refl

first-taken : (number : ℕ) (pieces : List Piece) (at n : ℕ) (piece : Piece) → 0 < n → slice_get pieces at ≡ Some piece → first_piece number (take n (drop at pieces)) ≡ Ok piece
first-taken number pieces at zero piece some e = absurd (omega (arith, some))
first-taken number [] at (suc n) piece some e = absurd cc
first-taken number (p ∷ pieces) zero (suc n) piece some e = ap Ok (same_Some p piece e)
first-taken number (p ∷ pieces) (suc at) (suc n) piece some e = first-taken number pieces at (suc n) piece some e

module _ (t : Timeline) (number : ℕ) where
  pub init_piece-none : None ≡ nth_from_one t.parts number → init_piece t number ≡ Err (NoPart number (length t.parts))
  unfolding init_piece
  init_piece-none e = rw (sym e) refl

  pub init_piece-empty : (part : Part) → Some part ≡ nth_from_one t.parts number → part.count ≡ 0 → init_piece t number ≡ Err (EmptyPart number)
  unfolding init_piece
  init_piece-empty part e none =
      let width : part.first + part.count - part.first ≡ 0 = omega arith in
      rw (sym e, width) refl

  pub init_piece-first : (part : Part) (piece : Piece) → Some part ≡ nth_from_one t.parts number → 0 < part.count → slice_get t.pieces part.first ≡ Some piece
      → init_piece t number ≡ Ok piece
  unfolding init_piece
  init_piece-first part piece e some first =
      let width : part.first + part.count - part.first ≡ part.count = omega arith in
      rw (sym e, width) (first-taken number t.pieces part.first part.count piece some first)

-- ---- what is written

-- the init segment of views is that of the tracks that they show
init_body-shown : (video audio : Option TrackView)
    → init_segment (option_map (λ t. t.entry) (option_map good_of video)) (option_map_or (λ t. t.width) (option_map good_of video) 0)
    (option_map_or (λ t. t.height) (option_map good_of video) 0) (option_map (λ t. t.entry) (option_map good_of audio))
    ≡ init_segment (option_map (λ v. v.entry.now) video) (option_map_or (λ v. v.width) video 0) (option_map_or (λ v. v.height) video 0) (option_map (λ v. v.entry.now) audio)
init_body-shown None None = refl
init_body-shown None (Some audio) = refl
init_body-shown (Some video) None = refl
init_body-shown (Some video) (Some audio) = refl

init_body-of : (piece : Piece) (c : CheckedTracks) → init_body (checked_view piece c) ≡ init_of_tracks c
unfolding init_body
init_body-of piece c = init_body-shown c.video c.audio

pub written-answers : {X : Type 0} (view : X → List ℕ) (edits : Bool) (asked : Asked) (piece : Piece) (m : Movie) (c : CheckedTracks) (result : Result X Refusal)
    → checked_in edits asked piece m ≡ Ok (checked_view piece c) → IfOk result (λ x. view x ≡ init_of_tracks c) → IfErr result (λ refusal. refusal ≡ NoMemory)
    → Answers view result (init_in_movie edits asked piece m)
written-answers view edits asked piece m c (Ok x) e bytes only = rw e (ap Ok (init_body-of piece c ∙ sym bytes))
written-answers view edits asked piece m c (Err r) e bytes only = λ other. absurd (other only)

-- ---- the piece

module _ {X : Type 0} (view : X → List ℕ) (files : Files) (edits : Bool) (asked : Asked) (piece : Piece) (log : Option (List Read)) where
  piece_init-by : piece_init files edits asked piece ≡ (loaded files piece.name >>= λ m. init_in_movie edits asked piece m)
  piece_init-by = rw (checked-in files edits asked piece) (chained (loaded files piece.name))
    where
      chained : (r : Result Movie Refusal) → (r >>= checked_in edits asked piece >>= λ c. Ok (init_body c)) ≡ (r >>= λ m. init_in_movie edits asked piece m)
      chained (Ok m) = refl
      chained (Err e) = refl

  one_turn : (turns files [] (piece.name ∷ [])).reads ≡ (turn files [] piece.name).reads
  unfolding turns
  one_turn = append-nil (turn files [] piece.name).reads

  module _ (name : List ℕ) (held held_now : List HeldMovie) (named : name ≡ piece.name) (empty : held ≡ []) where
    reads_are : (turn files (names_held held) name).reads ≡ (turns files [] (piece.name ∷ [])).reads
    reads_are = ap (λ hs. (turn files (names_held hs) name).reads) empty ∙ (ap (λ n. (turn files [] n).reads) named ∙ sym one_turn)

    -- the movie is there
    pub piece-loaded : (x : Unit {0}) {log_now : Option (List Read)} (h : HeldMovie) (result : Result X Refusal) → (AreTrue files held → IsTurn files name (Ok x) held held_now log log_now)
        → slice_get held_now 0 ≡ Some h → Answers view result (init_in_movie edits asked piece h.movie)
        → Came view result (piece_init files edits asked piece) (turns files [] (piece.name ∷ [])).reads log log_now
    piece-loaded x {log_now} h result turned front answers =
        let turn_is = turned (subst (AreTrue files) (sym empty) tt) in
        let found = turn_is.front in
        let same : found.0 ≡ h = same_Some found.0 h (sym found.1 ∙ front) in
        let movie : loaded files piece.name ≡ Ok h.movie = ap (loaded files) (sym named) ∙ (found.3 ∙ ap (λ k. Ok k.movie) same) in
        let due : piece_init files edits asked piece ≡ init_in_movie edits asked piece h.movie = piece_init-by ∙ ap (λ r. r >>= λ m. init_in_movie edits asked piece m) movie in
        came-read view (piece_init files edits asked piece) _ log log_now result (subst (Answers view result) (sym due) answers) (turn_is.logged ∙ ap (told_with log) reads_are)

    -- or it isn't
    pub piece-refused : (e : Refusal) {log_now : Option (List Read)} → (AreTrue files held → IsTurn files name (Err e) held held_now log log_now)
        → Came view (Err e) (piece_init files edits asked piece) (turns files [] (piece.name ∷ [])).reads log log_now
    piece-refused e {log_now} turned =
        let turn_is = turned (subst (AreTrue files) (sym empty) tt) in
        record {
          answered = λ known_memory known_store.
              piece_init-by ∙ not_loaded (loaded files piece.name) (λ m. init_in_movie edits asked piece m) e (ap (λ n. loaded files n >>= λ m. Ok tt) (sym named) ∙ turn_is.answered known_memory known_store);
          logged = subst (λ reads. LogsReads {X = X} (Err e) reads log log_now) reads_are turn_is.logged;
        }

-- ---- the part

module _ {X : Type 0} (view : X → List ℕ) (files : Files) (edits : Bool) (asked : Asked) (t : Timeline) (number : ℕ) (log : Option (List Read)) where
  no_turn : (turns files [] []).reads ≡ []
  unfolding turns
  no_turn = refl

  pub part-refused : (e : Refusal) → init_piece t number ≡ Err e → Came view (Err e) (part_init files edits asked t number) (turns files [] (init_names t number)).reads log log
  part-refused e is =
      rw (is, no_turn) (came-unread view (Err e) log (Err e) (λ other. refl))
