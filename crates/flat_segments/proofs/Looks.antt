-- A look at a piece.
use Rattle.std.proofs.Common.{◌≡◌, ◌≢◌, ℕ, Bool, List, [], ◌∷◌, ◌++◌, length, Option, Some, None, Result, Ok, Err, OnOk, IfErr, IsErrOf, refl, sym, ap, ◌∙◌, subst, slice_get}
use Rattle.std.specs.Prelude.{is_some, ok_or, option_map, unwrap_or}
use Rattle.std.specs.Result.{result_map_both}
use Rattle.std.proofs.lemmas.Option.{same_Some}
use Rattle.std.proofs.lemmas.List.Elements.{All-append, All-cons, All-nil}
use Rattle.vod_types.specs.declared.refusal.Refusal.{Refusal}
use Rattle.vod_types.specs.declared.refusal.Refusal.TheVariants.{NoMemory, StoreFailed, NoFile}
use Rattle.vod_types.specs.declared.tracks.Asked.{Asked}
use Rattle.vod_types.specs.declared.tracks.Kind.TheVariants.{Video, Audio}
use Rattle.vod_types.specs.Results.{◌>>=◌}
use Rattle.vod_types.proofs.StepLemmas.{bind_ok}
use Rattle.mp4_model.specs.declared.MoviePlace.{MoviePlace}
use Rattle.mp4_model.specs.Movie.{Movie, FileFault, movie, movie_place, moov_among, moov_bytes, moov_tracks, result_in_file}
use Rattle.mp4_model.specs.Tracks.{Track}
use Rattle.mp4_tracks.specs.declared.views.TrackView.{TrackView}
use Rattle.mp4_tracks.specs.Views.{good_of}
use Rattle.clip_model.specs.declared.Piece.{Piece}
use Rattle.vod_source.specs.Stored.{Files, Read, bytes_of, file_named}
use Rattle.origin_model.specs.Loaded.{CheckedPiece, loaded, checked, asked_edit, asked_track, refusal_of_file}
use Rattle.flat_samples.specs.Checks.{checked_in, checked_view}
use Rattle.flat_samples.specs.Movies.{HeldMovie, IsTurn}
use Rattle.flat_segments.specs.Needed.{IsAdded, IsLook}
use Rattle.origin_model.specs.Sources.{source_piece}
use Rattle.flat_samples.specs.Rows.{part_rows, rows_with}
use Rattle.flat_segments.specs.Segments.{FileFacts, facts_of, file_of, SizesAreTrue}
use Rattle.flat_segments.specs.declared.needed.Needed.{Needed}
use Rattle.flat_segments.specs.declared.needed.NeededFile.{NeededFile}
use Rattle.flat_samples.specs.declared.tracks.CheckedTracks.{CheckedTracks}
use Rattle.flat_samples.proofs.CheckLemmas.{checked-in, checked_in-not_failed, not_loaded}
use Rattle.vod_source.proofs.CallLemmas.{logs_all, refusal-not_failed}

-- ---- values

abbrev place_as : List ℕ → ℕ × ℕ → MoviePlace
place_as file found = record { file_size = length file; at = found.0; size = found.1 }

abbrev movie_as : List ℕ → MoviePlace → List Track → Movie
movie_as file place tracks = record { place = place; moov = moov_bytes file place; tracks = tracks }

-- ---- no piece is refused for a failure of the store

pub same_err : {X E : Type 0} (d e : E) → IsErrOf {T = X} (Err d) e → d ≡ e
same_err d e h = cc

pub added_refused : (edits : Bool) (asked : Asked) (piece : Piece) (m : Movie) (e : Refusal) → (e ≢ NoMemory → checked_in edits asked piece m ≡ Err e) → e ≢ StoreFailed
added_refused edits asked piece m e h = refusal-not_failed (checked_in edits asked piece m) e (checked_in-not_failed edits asked piece m) h

-- ---- a piece is checked in the movie of its file

checked_loaded : (files : Files) (edits : Bool) (asked : Asked) (piece : Piece) (m : Movie) → loaded files piece.name ≡ Ok m → checked files edits asked piece ≡ checked_in edits asked piece m
checked_loaded files edits asked piece m e = checked-in files edits asked piece ∙ ap (λ (r : Result Movie Refusal). r >>= checked_in edits asked piece) e

-- a loaded file is as long as its movie says
size_of_loaded : (files : Files) (name : List ℕ) (m : Movie) → loaded files name ≡ Ok m → length (bytes_of files name) ≡ m.place.file_size
unfolding loaded movie movie_place
size_of_loaded files name m e = by_file (file_named files name) e
  where
    by_tracks : (file : List ℕ) (found : ℕ × ℕ) (r : Result (List Track) FileFault)
        → result_map_both (λ m. m) (refusal_of_file name) (r >>= λ tracks. Ok (movie_as file (place_as file found) tracks)) ≡ Ok m
        → length file ≡ m.place.file_size
    by_tracks file found (Ok tracks) e = let same : movie_as file (place_as file found) tracks ≡ m = cc in ap (λ (m : Movie). m.place.file_size) same
    by_tracks file found (Err fault) e = absurd cc

    by_place : (file : List ℕ) (r : Result (ℕ × ℕ) FileFault)
        → result_map_both (λ m. m) (refusal_of_file name) ((r >>= λ found. Ok (place_as file found)) >>= λ place. result_in_file place.at (moov_tracks (moov_bytes file place)) >>= λ tracks. Ok (movie_as file place tracks)) ≡ Ok m
        → length file ≡ m.place.file_size
    by_place file (Ok found) e = by_tracks file found (result_in_file found.0 (moov_tracks (moov_bytes file (place_as file found)))) e
    by_place file (Err fault) e = absurd cc

    by_file : (found : Option (List ℕ)) → (ok_or found (NoFile name) >>= λ file. result_map_both (λ m. m) (refusal_of_file name) (movie file)) ≡ Ok m → length (unwrap_or found []) ≡ m.place.file_size
    by_file None e = absurd cc
    by_file (Some file) e = by_place file (moov_among 64 0 file) e

-- what is kept of the file of a checked piece
checked_file : (files : Files) (edits : Bool) (asked : Asked) (piece : Piece) (m : Movie) (c : CheckedPiece) → checked_in edits asked piece m ≡ Ok c → (file_of c).name ≡ piece.name × (c.file_size ≡ m.place.file_size)
unfolding checked_in
checked_file files edits asked piece m c e =
    let video = bind_ok (asked_track piece m Video asked.video) _ c e in
    let video_edit = bind_ok (asked_edit edits piece m Video asked.video) _ c video.2 in
    let audio = bind_ok (asked_track piece m Audio asked.audio) _ c video_edit.2 in
    let audio_edit = bind_ok (asked_edit edits piece m Audio asked.audio) _ c audio.2 in
    let made : CheckedPiece = record { piece = piece; file_size = m.place.file_size; video = video.0; audio = audio.0; video_edit = video_edit.0; audio_edit = audio_edit.0 } in
    let same : made ≡ c = (let e = audio_edit.2 in cc) in (sym (ap (λ (c : CheckedPiece). c.piece.name) same), sym (ap (λ (c : CheckedPiece). c.file_size) same))

sizes_added : (files : Files) (n now : Needed) (c : CheckedPiece) → IsAdded c n now → length (bytes_of files c.piece.name) ≡ c.file_size
    → SizesAreTrue files n.files.items → SizesAreTrue files now.files.items
sizes_added files n now c added size sizes =
    subst (SizesAreTrue files) (sym added.files)
    (All-append (λ (f : NeededFile). length (bytes_of files f.name) ≡ f.size) n.files.items (added.file ∷ []) sizes
    (All-cons (λ (f : NeededFile). length (bytes_of files f.name) ≡ f.size) added.file [] (of_facts (facts_of added.file) added.of) (All-nil (λ (f : NeededFile). length (bytes_of files f.name) ≡ f.size))))
  where
    of_facts : (facts : FileFacts) → facts ≡ file_of c → length (bytes_of files facts.name) ≡ facts.size
    of_facts facts e = subst (λ (facts : FileFacts). length (bytes_of files facts.name) ≡ facts.size) (sym e) size

-- what is in front after a turn is the movie of the file
in_front : (files : Files) (name : List ℕ) (x : Unit {0}) (held held_now : List HeldMovie) (log log_now : Option (List Read)) (h : HeldMovie)
    → slice_get held_now 0 ≡ Some h → IsTurn files name (Ok x) held held_now log log_now → loaded files name ≡ Ok h.movie
in_front files name x held held_now log log_now h e t = t.front.3 ∙ ap (λ (h : HeldMovie). Ok h.movie) (same_Some t.front.0 h (sym t.front.1 ∙ e))

-- a turn on a name is one on the same name
pub renamed : (files : Files) (name other : List ℕ) (r : Result (Unit {0}) Refusal) (held held_now : List HeldMovie) (log log_now : Option (List Read))
    → name ≡ other → IsTurn files name r held held_now log log_now → IsTurn files other r held held_now log log_now
renamed files name other r held held_now log log_now e t = subst (λ (name : List ℕ). IsTurn files name r held held_now log log_now) e t

module _ (files : Files) (edits : Bool) (asked : Asked) (piece : Piece) (held held_now : List HeldMovie) (n : Needed) (log log_now : Option (List Read)) where
  -- the turn was refused
  pub look_unloaded : (e : Refusal) → IsTurn files piece.name (Err e) held held_now log log_now → IsLook files edits asked piece (Err e) held held_now n n log log_now
  look_unloaded e t = record {
    true_now = t.true_now;
    taken = λ known_memory known_store. checked-in files edits asked piece ∙ not_loaded (loaded files piece.name) (checked_in edits asked piece) e (t.answered known_memory known_store);
    names = tt;
    logged = t.logged;
  }

  -- the checks were refused
  pub look_unchecked : (x : Unit {0}) (e : Refusal) (h : HeldMovie) → slice_get held_now 0 ≡ Some h → IsTurn files piece.name (Ok x) held held_now log log_now
      → (e ≢ NoMemory → checked_in edits asked piece h.movie ≡ Err e) → IsLook files edits asked piece (Err e) held held_now n n log log_now
  look_unchecked x e h at t refused = record {
    true_now = t.true_now;
    taken = λ known_memory known_store. checked_loaded files edits asked piece h.movie (in_front files piece.name x held held_now log log_now h at t) ∙ refused known_memory;
    names = tt;
    logged = logs_all {X = Unit {0}} (Err e) _ log log_now t.logged;
  }

  -- the piece was put behind the others, or memory ran out
  pub look_taken : (x : Unit {0}) (tracks : CheckedTracks) (r : Result (Unit {0}) Refusal) (h : HeldMovie) (now : Needed) → slice_get held_now 0 ≡ Some h
      → IsTurn files piece.name (Ok x) held held_now log log_now → checked_in edits asked piece h.movie ≡ Ok (checked_view piece tracks)
      → OnOk r (IsAdded (checked_view piece tracks) n now) → IfErr r (λ refusal. refusal ≡ NoMemory)
      → IsLook files edits asked piece r held held_now n now log log_now
  look_taken x tracks (Ok y) h now at t is added only =
      let load = in_front files piece.name x held held_now log log_now h at t in
      record {
        true_now = t.true_now;
        taken = record {
          piece_checked = checked_view piece tracks;
          checked = checked_loaded files edits asked piece h.movie load ∙ is;
          added = added;
          sizes = sizes_added files n now (checked_view piece tracks) added
              (size_of_loaded files piece.name h.movie load ∙ sym (checked_file files edits asked piece h.movie (checked_view piece tracks) is).1);
        };
        names = t.names;
        logged = t.logged;
      }
  look_taken x tracks (Err e) h now at t is added only = record {
    true_now = t.true_now;
    taken = λ known_memory known_store. absurd (known_memory only);
    names = tt;
    logged = logs_all {X = Unit {0}} (Err e) _ log log_now t.logged;
  }

-- ---- a piece is put behind the others

pub typed_view : (o : Option TrackView) → is_some o ≡ is_some (option_map good_of o)
typed_view None = refl
typed_view (Some v) = refl

pub added : (c : CheckedPiece) (n now : Needed) (r : Result (Unit {0}) Refusal) (file : NeededFile) (place : ℕ) → facts_of file ≡ file_of c → is_some file.video_type ≡ is_some c.video
    → now.files.items ≡ n.files.items ++ file ∷ [] → place ≡ length n.files.items
    → OnOk r (part_rows now.rows ≡ rows_with (part_rows n.rows) place (source_piece c)) → OnOk r (IsAdded c n now)
added c n now (Ok x) file place of typed files at rows = record {
  file = file;
  of = of;
  typed = typed;
  files = files;
  rows = rows ∙ ap (λ (i : ℕ). rows_with (part_rows n.rows) i (source_piece c)) at;
}
added c n now (Err e) file place of typed files at rows = tt
