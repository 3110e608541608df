-- The call that finds the rows of a clip.
use Rattle.std.proofs.Common.{◌≡◌, ◌≢◌, ℕ, Bool, List, [], ◌∷◌, length, map, Option, Some, None, Result, Ok, Err, IsErrOf, IfOk, IfSome, refl, sym, ap, ◌∙◌, subst, slice_get, append-nil}
use Rattle.std.specs.Prelude.{ok_or, unwrap_or}
use Rattle.std.specs.Result.{result_map_both}
use Rattle.std.proofs.lemmas.Option.{same_Some}
use Rattle.vod_types.specs.declared.refusal.Refusal.{Refusal}
use Rattle.vod_types.specs.declared.refusal.Refusal.TheVariants.{NoMemory, StoreFailed, NoFile}
use Rattle.vod_types.specs.declared.tracks.Asked.{Asked}
use Rattle.vod_types.specs.declared.tracks.Kind.TheVariants.{Video, Audio}
use Rattle.vod_types.specs.Results.{◌>>=◌, Answers}
use Rattle.vod_types.proofs.StepLemmas.{bind_ok}
use Rattle.mp4_model.specs.declared.MoviePlace.{MoviePlace}
use Rattle.mp4_model.specs.Movie.{Movie, FileFault, movie, movie_place, moov_among, moov_bytes, moov_tracks, result_in_file}
use Rattle.mp4_model.specs.Tracks.{Track}
use Rattle.clip_model.specs.declared.Piece.{Piece}
use Rattle.clip_model.specs.Timeline.{Timeline}
use Rattle.segment_model.specs.Grid.{SegmentGrid}
use Rattle.vod_source.specs.Calls.{AnswersUnlessFailed, LogsReads, Came}
use Rattle.vod_source.specs.Stored.{Files, Read, bytes_of, file_named}
use Rattle.vod_source.specs.Told.{told_with}
use Rattle.vod_source.proofs.CallLemmas.{answers_unless, logs_all, logs_none, refusal-not_failed}
use Rattle.origin_model.specs.Clips.{checked_clip, one_piece, planned_clip}
use Rattle.origin_model.specs.Loaded.{CheckedPiece, asked_edit, asked_track, checked, loaded, refusal_of_file}
use Rattle.origin_model.specs.Plans.{pieces_or_none}
use Rattle.origin_model.specs.Reads.{turn, turns}
use Rattle.flat_samples.specs.Checks.{checked_in}
use Rattle.flat_samples.specs.Movies.{HeldMovie, IsTurn}
use Rattle.flat_samples.proofs.CheckLemmas.{checked-in, checked_in-not_failed, not_loaded}
use Rattle.flat_clip.specs.declared.rows.ClipRows.{ClipRows}
use Rattle.flat_clip.specs.Rows.{ClipFacts, as_facts, clip_looks, cutting_of, facts_of}

-- ---- values

abbrev place_as : List ℕ → ℕ × ℕ → MoviePlace
place_as file found = record { file_size = length file; at = found.0; size = found.1 }

abbrev movie_as : List ℕ → MoviePlace → List Track → Movie
movie_as file place tracks = record { place = place; moov = moov_bytes file place; tracks = tracks }

pub same_err : {X E : Type 0} (d e : E) → IsErrOf {T = X} (Err d) e → d ≡ e
same_err d e h = cc

-- a check isn't refused for a failure of the store
pub check-not_failed : (edits : Bool) (asked : Asked) (piece : Piece) (m : Movie) (e : Refusal) → (e ≢ NoMemory → checked_in edits asked piece m ≡ Err e) → e ≢ StoreFailed
check-not_failed edits asked piece m e h = refusal-not_failed (checked_in edits asked piece m) e (checked_in-not_failed edits asked piece m) h

-- a loaded file is as long as its movie says
pub size_of_loaded : (files : Files) (name : List ℕ) (m : Movie) → loaded files name ≡ Ok m → length (bytes_of files name) ≡ m.place.file_size
unfolding loaded movie movie_place
size_of_loaded files name m e = by_file (file_named files name) e
  where
    by_tracks : (file : List ℕ) (found : ℕ × ℕ) (r : Result (List Track) FileFault)
        → result_map_both (λ m. m) (refusal_of_file name) (r >>= λ tracks. Ok (movie_as file (place_as file found) tracks)) ≡ Ok m
        → length file ≡ m.place.file_size
    by_tracks file found (Ok tracks) e = let same : movie_as file (place_as file found) tracks ≡ m = cc in ap (λ (m : Movie). m.place.file_size) same
    by_tracks file found (Err fault) e = absurd cc

    by_place : (file : List ℕ) (r : Result (ℕ × ℕ) FileFault)
        → result_map_both (λ m. m) (refusal_of_file name) ((r >>= λ found. Ok (place_as file found)) >>= λ place. result_in_file place.at (moov_tracks (moov_bytes file place)) >>= λ tracks. Ok (movie_as file place tracks)) ≡ Ok m
        → length file ≡ m.place.file_size
    by_place file (Ok found) e = by_tracks file found (result_in_file found.0 (moov_tracks (moov_bytes file (place_as file found)))) e
    by_place file (Err fault) e = absurd cc

    by_file : (found : Option (List ℕ)) → (ok_or found (NoFile name) >>= λ file. result_map_both (λ m. m) (refusal_of_file name) (movie file)) ≡ Ok m → length (unwrap_or found []) ≡ m.place.file_size
    by_file None e = absurd cc
    by_file (Some file) e = by_place file (moov_among 64 0 file) e

-- what is in front after a turn is the movie of the file
pub in_front : (files : Files) (name : List ℕ) (x : Unit {0}) (held held_now : List HeldMovie) (log log_now : Option (List Read)) (h : HeldMovie)
    → slice_get held_now 0 ≡ Some h → IsTurn files name (Ok x) held held_now log log_now → loaded files name ≡ Ok h.movie
in_front files name x held held_now log log_now h e t = t.front.3 ∙ ap (λ (h : HeldMovie). Ok h.movie) (same_Some t.front.0 h (sym t.front.1 ∙ e))

-- a turn on a name over no movie is one on the same name
pub renamed : (files : Files) (name other : List ℕ) (r : Result (Unit {0}) Refusal) (held held_now : List HeldMovie) (log log_now : Option (List Read))
    → name ≡ other → held ≡ [] → IsTurn files name r held held_now log log_now → IsTurn files other r [] held_now log log_now
renamed files name other r held held_now log log_now e none t =
    subst (λ (held : List HeldMovie). IsTurn files other r held held_now log log_now) none (subst (λ (name : List ℕ). IsTurn files name r held held_now log log_now) e t)

module _ (files : Files) (edits : Bool) (asked : Asked) (t : Timeline) (sequence : ℕ) (grid : SegmentGrid) (align : Bool) where
  abbrev due : Result ClipFacts Refusal
  due = as_facts (planned_clip (cutting_of files edits grid align) asked t sequence)

  abbrev reads : List Read
  reads = (turns files [] (clip_looks sequence t)).reads

  abbrev reads_by : Result Piece Refusal → List Read
  reads_by r = (turns files [] (map (λ piece. piece.name) (pieces_or_none (r >>= λ piece. Ok (piece ∷ []))))).reads

  due-none : (e : Refusal) → one_piece sequence t ≡ Err e → due ≡ Err e
  unfolding planned_clip
  due-none e is = rw is refl

  reads-none : (e : Refusal) → one_piece sequence t ≡ Err e → reads ≡ []
  unfolding turns
  reads-none e is = ap reads_by is

  -- there is no one piece
  pub clip-none : (e : Refusal) (log : Option (List Read)) → one_piece sequence t ≡ Err e → Came {X = ClipRows} facts_of (Err e) due reads log log
  clip-none e log is = record {
    answered = λ known_memory known_store. due-none e is;
    logged = subst (λ (reads : List Read). LogsReads {X = ClipRows} (Err e) reads log log) (sym (reads-none e is)) (logs_none {X = ClipRows} (Err e) log log refl);
  }

  module _ (piece : Piece) (is : one_piece sequence t ≡ Ok piece) where
    due-piece : due ≡ as_facts (checked files edits asked piece >>= checked_clip sequence asked)
    unfolding planned_clip
    due-piece = rw is refl

    reads-piece : reads ≡ (turn files [] piece.name).reads
    unfolding turns
    reads-piece = ap reads_by is ∙ append-nil (turn files [] piece.name).reads

    module _ (held_now : List HeldMovie) (log log_now : Option (List Read)) where
      -- its movie was refused
      pub clip-unloaded : (e : Refusal) → IsTurn files piece.name (Err e) [] held_now log log_now → Came {X = ClipRows} facts_of (Err e) due reads log log_now
      clip-unloaded e turned = record {
        answered = λ known_memory known_store.
            due-piece ∙ ap (λ (r : Result CheckedPiece Refusal). as_facts (r >>= checked_clip sequence asked))
            (checked-in files edits asked piece ∙ not_loaded (loaded files piece.name) (checked_in edits asked piece) e (turned.answered known_memory known_store));
        logged = subst (λ (reads : List Read). LogsReads {X = ClipRows} (Err e) reads log log_now) (sym reads-piece) turned.logged;
      }

      module _ (x : Unit {0}) (h : HeldMovie) (at : slice_get held_now 0 ≡ Some h) (turned : IsTurn files piece.name (Ok x) [] held_now log log_now) where
        in_movie : checked files edits asked piece ≡ checked_in edits asked piece h.movie
        in_movie = checked-in files edits asked piece ∙ ap (λ (r : Result Movie Refusal). r >>= checked_in edits asked piece) (in_front files piece.name x [] held_now log log_now h at turned)

        -- a track of it was refused
        pub clip-unchecked : (e : Refusal) → (e ≢ NoMemory → checked_in edits asked piece h.movie ≡ Err e) → Came {X = ClipRows} facts_of (Err e) due reads log log_now
        clip-unchecked e refused = record {
          answered = λ known_memory known_store.
              due-piece ∙ ap (λ (r : Result CheckedPiece Refusal). as_facts (r >>= checked_clip sequence asked)) (in_movie ∙ refused known_memory);
          logged = logs_all {X = ClipRows} (Err e) reads log log_now (turned.logged ∙ ap (told_with log) (sym reads-piece));
        }

        -- its rows were gone through
        pub clip-checked : (c : CheckedPiece) (r : Result ClipRows Refusal) → checked_in edits asked piece h.movie ≡ Ok c → Answers facts_of r (as_facts (checked_clip sequence asked c))
            → Came {X = ClipRows} facts_of r due reads log log_now
        clip-checked c r ok answers = record {
          answered = subst (λ (due : Result ClipFacts Refusal). AnswersUnlessFailed facts_of r due)
              (sym (due-piece ∙ ap (λ (r : Result CheckedPiece Refusal). as_facts (r >>= checked_clip sequence asked)) (in_movie ∙ ok)))
              (answers_unless facts_of r (as_facts (checked_clip sequence asked c)) answers);
          logged = logs_all {X = ClipRows} r reads log log_now (turned.logged ∙ ap (told_with log) (sym reads-piece));
        }

-- the size of the file of a checked piece, by its movie
view-size : (edits : Bool) (asked : Asked) (piece : Piece) (m : Movie) (c : CheckedPiece) → checked_in edits asked piece m ≡ Ok c → c.file_size ≡ m.place.file_size
unfolding checked_in
view-size edits asked piece m c e =
    let video = bind_ok (asked_track piece m Video asked.video) _ c e in
    let video_edit = bind_ok (asked_edit edits piece m Video asked.video) _ c video.2 in
    let audio = bind_ok (asked_track piece m Audio asked.audio) _ c video_edit.2 in
    let audio_edit = bind_ok (asked_edit edits piece m Audio asked.audio) _ c audio.2 in
    let made : CheckedPiece = record { piece = piece; file_size = m.place.file_size; video = video.0; audio = audio.0; video_edit = video_edit.0; audio_edit = audio_edit.0 } in
    let same : made ≡ c = (let e = audio_edit.2 in cc) in sym (ap (λ (c : CheckedPiece). c.file_size) same)

-- a clip is of a file as long as it says
pub held-size : (told : Option Files) (edits : Bool) (asked : Asked) (piece : Piece) (x : Unit {0}) (h : HeldMovie) (held_now : List HeldMovie) (c : CheckedPiece) (r : Result ClipRows Refusal)
    (log log_now : Option (List Read)) → IfSome told (λ known. IsTurn known piece.name (Ok x) [] held_now log log_now) → slice_get held_now 0 ≡ Some h → checked_in edits asked piece h.movie ≡ Ok c
    → IfOk r (λ r. r.file_size ≡ c.file_size) → IfOk r (λ r. r.name ≡ piece.name) → IfOk r (λ r. IfSome told (λ known. length (bytes_of known r.name) ≡ r.file_size))
held-size told edits asked piece x h held_now c (Err e) log log_now turned at ok size name = tt
held-size None edits asked piece x h held_now c (Ok r) log log_now turned at ok size name = tt
held-size (Some known) edits asked piece x h held_now c (Ok r) log log_now turned at ok size name =
    ap (λ (n : List ℕ). length (bytes_of known n)) name
    ∙ size_of_loaded known piece.name h.movie (in_front known piece.name x [] held_now log log_now h at turned)
    ∙ sym (size ∙ view-size edits asked piece h.movie c ok)
