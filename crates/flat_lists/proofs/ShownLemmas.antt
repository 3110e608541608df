-- A sequence as a master playlist shows it: what is answered and read in each case.
use Rattle.std.proofs.Common.{◌≡◌, ◌≢◌, ℕ, suc, ◌+◌, ◌-◌, ◌<◌, ◌≤◌, ◌^◌, Bool, arith, List, [], ◌∷◌, map, take, Option, Some, None, Result, Ok, Err, refl, sym, ap, ◌∙◌, subst, append-nil, slice_get}
use Rattle.std.specs.Prelude.{IsSome, ◌↔◌, ok_or, option_map}
use Rattle.std.specs.Int.{IsInRange}
use Rattle.std.specs.List.{range_with_len}
use Rattle.std.proofs.lemmas.Option.{same_Some}
use Rattle.vod_types.specs.declared.refusal.Refusal.{Refusal}
use Rattle.vod_types.specs.declared.refusal.Refusal.TheVariants.{NoMemory, NothingSelected}
use Rattle.vod_types.specs.declared.tracks.Asked.{Asked}
use Rattle.vod_types.specs.declared.tracks.Kind.{Kind}
use Rattle.vod_types.specs.declared.tracks.Kind.TheVariants.{Video, Audio}
use Rattle.vod_types.specs.Results.{◌>>=◌, Answers}
use Rattle.mp4_model.specs.GoodTracks.{GoodTrack}
use Rattle.mp4_model.specs.Movie.{Movie}
use Rattle.mp4_model.specs.Video.{video_codec_name}
use Rattle.clip_model.specs.declared.Piece.{Piece}
use Rattle.clip_model.specs.Mapping.{Mapping}
use Rattle.clip_model.specs.Timeline.{Timeline}
use Rattle.list_model.specs.Names.{IsAsked}
use Rattle.list_model.specs.Playlist.{IsVariant}
use Rattle.vod_source.specs.Calls.{LogsReads}
use Rattle.vod_source.specs.Stored.{Files, Read}
use Rattle.vod_source.specs.Told.{told_with}
use Rattle.vod_source.proofs.CallLemmas.{answers_unless, logs_all, logs_unmade}
use Rattle.origin_model.specs.Lists.{ShownSequence, aac_of, asked_first, checked_first, first_asked, first_track, shown_sequence}
use Rattle.origin_model.specs.Loaded.{CheckedPiece, loaded, checked}
use Rattle.origin_model.specs.Plans.{pieces_or_none}
use Rattle.origin_model.specs.Reads.{Cache, turn, turns}
use Rattle.origin_model.specs.Requests.{Setup, Asking, honours_edits, timeline_asked}
use Rattle.origin_model.specs.Writable.{IsSoundIf, IsSoundPiece}
use Rattle.flat_samples.specs.Checks.{checked_in}
use Rattle.flat_samples.specs.Movies.{HeldMovie, AreTrue, IsTurn, names_held}
use Rattle.flat_samples.proofs.CheckLemmas.{checked-in}
use Rattle.flat_lists.specs.declared.shown.Shown.{Shown}
use Rattle.flat_lists.specs.Shown.{IsShown, first_names, shown_by, shown_by_piece, shown_due, shown_in_movie, shown_of, variant_by}
use Rattle.flat_lists.specs.Steps.{IsPath, IsStep, NamesAfterTurns}
use Rattle.flat_lists.proofs.Paths.{path_begins}

-- ---- it can be written

some_if : {X : Type 0} (kind : Kind) (f : GoodTrack → X) (number : Option ℕ) (track : Option GoodTrack) → IsSoundIf kind number track → IsSome (option_map f track) ↔ IsSome number
some_if kind f None None h = (λ some. some, λ some. some)
some_if kind f None (Some t) h = absurd h
some_if kind f (Some n) None h = absurd h
some_if kind f (Some n) (Some t) h = (λ some. refl, λ some. refl)

pub shown_is : (m : Mapping) (count sequence : ℕ) (asked : Asked) (c : CheckedPiece) (s : Shown) → s ≡ shown_of m sequence asked c.video c.audio → IsInRange 1 count sequence → sequence ≤ 9999
    → IsAsked asked → IsSoundPiece asked c → s.video_bandwidth ≤ 2 ^ 102 → s.audio_bandwidth ≤ 2 ^ 102 → IsShown count s
shown_is m count sequence asked c s e number small numbers sound video audio = record {
  number = subst (λ (s : Shown). IsInRange 1 count s.sequence) (sym e) number;
  bandwidths = record { video = video; audio = audio };
  variant = subst (λ (s : Shown). IsVariant (variant_by s)) (sym e) (record {
    sequence = small;
    asked = numbers;
    size = some_if Video (λ t. (t.width, t.height)) asked.video c.video sound.video;
    video = some_if Video video_codec_name asked.video c.video sound.video;
    aac = some_if Audio aac_of asked.audio c.audio sound.audio;
  });
}

-- ---- in the movie of its file

module _ (edits : Bool) (m : Mapping) (sequence : ℕ) (piece : Piece) (movie : Movie) where
  abbrev asked_due : Result Asked Refusal
  asked_due = asked_first piece.name (first_track piece movie Video) (first_track piece movie Audio)

  pub shown-unasked : (e : Refusal) → asked_due ≡ Err e → shown_in_movie edits m sequence piece movie ≡ Err e
  unfolding shown_in_movie
  shown-unasked e is = ap (λ (r : Result Asked Refusal). r >>= λ asked. checked_in edits asked piece movie >>= λ c. Ok (shown_of m sequence asked c.video c.audio)) is

  pub shown-checked : (asked : Asked) (r : Result CheckedPiece Refusal) → asked_due ≡ Ok asked → checked_in edits asked piece movie ≡ r
      → shown_in_movie edits m sequence piece movie ≡ (r >>= λ c. Ok (shown_of m sequence asked c.video c.audio))
  unfolding shown_in_movie
  shown-checked asked r is e =
      ap (λ (r : Result Asked Refusal). r >>= λ asked. checked_in edits asked piece movie >>= λ c. Ok (shown_of m sequence asked c.video c.audio)) is
      ∙ ap (λ (r : Result CheckedPiece Refusal). r >>= λ c. Ok (shown_of m sequence asked c.video c.audio)) e

-- ---- by the files

abbrev pub numbered : ℕ → Asked × CheckedPiece → ShownSequence
numbered sequence first = record { number = sequence; asked = first.0; first = first.1 }

abbrev as_shown : Mapping → ℕ → Asked × CheckedPiece → Result Shown Refusal
as_shown m sequence first = Ok (shown_by m (numbered sequence first))

module _ (o : Setup) (a : Asking) (sequence : ℕ) (piece : Piece) where
  abbrev pub in_movie : Movie → Result Shown Refusal
  in_movie movie = shown_in_movie (honours_edits o) a.mapping sequence piece movie

  abbrev with_check : Asked → Result (Asked × CheckedPiece) Refusal
  with_check asked = checked o.files (honours_edits o) asked piece >>= λ c. Ok (asked, c)

  checked_loaded : (asked : Asked) (movie : Movie) → loaded o.files piece.name ≡ Ok movie → checked o.files (honours_edits o) asked piece ≡ checked_in (honours_edits o) asked piece movie
  checked_loaded asked movie e = checked-in o.files (honours_edits o) asked piece ∙ ap (λ (r : Result Movie Refusal). r >>= checked_in (honours_edits o) asked piece) e

  pub by_movie : (movie : Movie) → loaded o.files piece.name ≡ Ok movie → shown_by_piece o a sequence piece ≡ in_movie movie
  unfolding checked_first first_asked shown_in_movie
  by_movie movie e =
      ap (λ (r : Result Movie Refusal). ((r >>= λ m. asked_first piece.name (first_track piece m Video) (first_track piece m Audio)) >>= with_check) >>= as_shown a.mapping sequence) e
      ∙ each (asked_first piece.name (first_track piece movie Video) (first_track piece movie Audio))
    where
      last : (asked : Asked) (r : Result CheckedPiece Refusal) → ((r >>= λ c. Ok (asked, c)) >>= as_shown a.mapping sequence) ≡ (r >>= λ c. Ok (shown_of a.mapping sequence asked c.video c.audio))
      last asked (Ok c) = refl
      last asked (Err e) = refl

      each : (r : Result Asked Refusal) → ((r >>= with_check) >>= as_shown a.mapping sequence) ≡ (r >>= λ asked. checked_in (honours_edits o) asked piece movie >>= λ c. Ok (shown_of a.mapping sequence asked c.video c.audio))
      each (Ok asked) =
          ap (λ (r : Result CheckedPiece Refusal). (r >>= λ c. Ok (asked, c)) >>= as_shown a.mapping sequence) (checked_loaded asked movie e) ∙ last asked (checked_in (honours_edits o) asked piece movie)
      each (Err e) = refl

  pub by_fault : (e : Refusal) → loaded o.files piece.name ≡ Err e → shown_by_piece o a sequence piece ≡ Err e
  unfolding checked_first first_asked
  by_fault e is = ap (λ (r : Result Movie Refusal). ((r >>= λ m. asked_first piece.name (first_track piece m Video) (first_track piece m Audio)) >>= with_check) >>= as_shown a.mapping sequence) is

  -- a turn on one name
  one_read : (cache : Cache) (name : List ℕ) → (turns o.files cache (name ∷ [])).reads ≡ (turn o.files cache name).reads
  unfolding turns
  one_read cache name = append-nil (turn o.files cache name).reads

  one_cache : (cache : Cache) (name : List ℕ) → (turns o.files cache (name ∷ [])).cache ≡ (turn o.files cache name).cache
  unfolding turns
  one_cache cache name = refl

  module _ (held held_now : List HeldMovie) (log log_now : Option (List Read)) (name : List ℕ) (named : name ≡ piece.name) where
    -- the turn was refused
    pub piece_refused : (e : Refusal) → IsTurn o.files name (Err e) held held_now log log_now → IsStep o.files (shown_by_piece o a sequence piece) (piece.name ∷ []) (Err e) held held_now log log_now
    piece_refused e turned =
        let t = subst (λ (name : List ℕ). IsTurn o.files name (Err e) held held_now log log_now) named turned in
        record {
          true_now = t.true_now;
          answered = λ known_memory known_store. by_fault e (fault (loaded o.files piece.name) (t.answered known_memory known_store));
          held_names = tt;
          logged = subst (λ (reads : List Read). LogsReads {X = Shown} (Err e) reads log log_now) (sym (one_read (names_held held) piece.name)) t.logged;
        }
      where
        fault : (r : Result Movie Refusal) → ◌≡◌ {A = Result (Unit {0}) Refusal} (r >>= λ m. Ok tt) (Err e) → r ≡ Err e
        fault (Ok m) is = absurd cc
        fault (Err d) is = cc

    -- it wasn't
    pub piece_looked : (edits : Bool) (x : Unit {0}) (h : HeldMovie) (r : Result Shown Refusal) → edits ≡ honours_edits o → slice_get held_now 0 ≡ Some h → IsTurn o.files name (Ok x) held held_now log log_now
        → Answers (λ s. s) r (shown_in_movie edits a.mapping sequence piece h.movie) → IsStep o.files (shown_by_piece o a sequence piece) (piece.name ∷ []) r held held_now log log_now
    piece_looked edits x h r honoured front turned answers =
        let t = subst (λ (name : List ℕ). IsTurn o.files name (Ok x) held held_now log log_now) named turned in
        let load : loaded o.files piece.name ≡ Ok h.movie = t.front.3 ∙ ap (λ (h : HeldMovie). Ok h.movie) (same_Some t.front.0 h (sym t.front.1 ∙ front)) in
        let due : shown_in_movie edits a.mapping sequence piece h.movie ≡ shown_by_piece o a sequence piece =
        ap (λ (b : Bool). shown_in_movie b a.mapping sequence piece h.movie) honoured ∙ sym (by_movie h.movie load) in
        record {
          true_now = t.true_now;
          answered = answers_unless (λ s. s) r (shown_by_piece o a sequence piece) (subst (Answers (λ s. s) r) due answers);
          held_names = after r (t.names ∙ sym (one_cache (names_held held) piece.name));
          logged = logs_all r _ log log_now (t.logged ∙ ap (told_with log) (sym (one_read (names_held held) piece.name)));
        }
      where
        after : (r : Result Shown Refusal) → names_held held_now ≡ (turns o.files (names_held held) (piece.name ∷ [])).cache → NamesAfterTurns o.files (piece.name ∷ []) r held held_now
        after (Ok s) e = e
        after (Err d) e = tt

-- ---- by the timeline

pub none_at : (ps : List Piece) → slice_get ps 0 ≡ None → ps ≡ []
none_at [] e = refl
none_at (p ∷ ps) e = absurd cc

one_at : (ps : List Piece) (p : Piece) → slice_get ps 0 ≡ Some p → take 1 ps ≡ p ∷ []
one_at [] p e = absurd cc
one_at (q ∷ ps) p e = ap (λ (q : Piece). q ∷ []) (same_Some q p e)

module _ (o : Setup) (a : Asking) (sequence : ℕ) where
  abbrev pub of_first : Piece → Result ShownSequence Refusal
  of_first piece = checked_first o a piece >>= λ first. Ok (numbered sequence first)

  abbrev pub of_timeline : Timeline → Result ShownSequence Refusal
  of_timeline t = ok_or (slice_get t.pieces 0) (NothingSelected sequence) >>= of_first

  abbrev pub show : ShownSequence → Result Shown Refusal
  show s = Ok (shown_by a.mapping s)

  pub due_of : (r : Result Timeline Refusal) → timeline_asked o a sequence ≡ r → shown_due o a sequence ≡ ((r >>= of_timeline) >>= show)
  unfolding shown_sequence
  due_of r e = ap (λ (r : Result Timeline Refusal). (r >>= of_timeline) >>= show) e

  pub names_of : (r : Result Timeline Refusal) → timeline_asked o a sequence ≡ r → first_names o a sequence ≡ map (λ piece. piece.name) (pieces_or_none (r >>= λ t. Ok (take 1 t.pieces)))
  names_of r e = ap (λ (r : Result Timeline Refusal). map (λ (piece : Piece). piece.name) (pieces_or_none (r >>= λ t. Ok (take 1 t.pieces)))) e

  -- it has the number of the sequence
  pub shown-numbered : (s : Shown) → shown_due o a sequence ≡ Ok s → s.sequence ≡ sequence
  shown-numbered s e = by_timeline (timeline_asked o a sequence) (sym (due_of (timeline_asked o a sequence) refl) ∙ e)
    where
      by_first : (r : Result (Asked × CheckedPiece) Refusal) → ((r >>= λ first. Ok (numbered sequence first)) >>= show) ≡ Ok s → s.sequence ≡ sequence
      by_first (Ok first) is = let same : shown_by a.mapping (numbered sequence first) ≡ s = cc in sym (ap (λ (s : Shown). s.sequence) same)
      by_first (Err d) is = absurd cc

      by_piece : (found : Option Piece) → ((ok_or found (NothingSelected sequence) >>= of_first) >>= show) ≡ Ok s → s.sequence ≡ sequence
      by_piece None is = absurd cc
      by_piece (Some piece) is = by_first (checked_first o a piece) is

      by_timeline : (r : Result Timeline Refusal) → ((r >>= of_timeline) >>= show) ≡ Ok s → s.sequence ≡ sequence
      by_timeline (Ok t) is = by_piece (slice_get t.pieces 0) is
      by_timeline (Err d) is = absurd cc

  no_reads : (cache : Cache) → (turns o.files cache []).reads ≡ []
  unfolding turns
  no_reads cache = refl

  module _ (held : List HeldMovie) (log : Option (List Read)) (all : AreTrue o.files held) where
    unread : (names : List (List ℕ)) → names ≡ [] → (turns o.files (names_held held) names).reads ≡ []
    unread names e = ap (λ (names : List (List ℕ)). (turns o.files (names_held held) names).reads) e ∙ no_reads (names_held held)

    -- there is no timeline
    pub untimed : (e : Refusal) → (e ≢ NoMemory → timeline_asked o a sequence ≡ Err e) → IsStep o.files (shown_due o a sequence) (first_names o a sequence) (Err e) held held log log
    untimed e refused = record {
      true_now = all;
      answered = λ known_memory known_store. due_of (Err e) (refused known_memory);
      held_names = tt;
      logged = logs_unmade e _ log log refl (λ known_memory known_store. unread (first_names o a sequence) (names_of (Err e) (refused known_memory)));
    }

    -- or no piece
    pub unselected : (t : Timeline) → timeline_asked o a sequence ≡ Ok t → slice_get t.pieces 0 ≡ None
        → IsStep o.files (shown_due o a sequence) (first_names o a sequence) (Err (NothingSelected sequence)) held held log log
    unselected t e none = record {
      true_now = all;
      answered = λ known_memory known_store. due_of (Ok t) e ∙ ap (λ (found : Option Piece). (ok_or found (NothingSelected sequence) >>= of_first) >>= show) none;
      held_names = tt;
      logged = logs_unmade (NothingSelected sequence) _ log log refl (λ known_memory known_store.
          unread (first_names o a sequence) (names_of (Ok t) e ∙ ap (λ (ps : List Piece). map (λ (piece : Piece). piece.name) (take 1 ps)) (none_at t.pieces none)));
    }

  -- or one
  pub selected : (t : Timeline) (piece : Piece) → timeline_asked o a sequence ≡ Ok t → slice_get t.pieces 0 ≡ Some piece
      → (shown_due o a sequence ≡ shown_by_piece o a sequence piece) × (first_names o a sequence ≡ piece.name ∷ [])
  selected t piece e at = (
    due_of (Ok t) e ∙ ap (λ (found : Option Piece). (ok_or found (NothingSelected sequence) >>= of_first) >>= show) at ∙ chained (checked_first o a piece),
    names_of (Ok t) e ∙ ap (map (λ (piece : Piece). piece.name)) (one_at t.pieces piece at),
  )
    where
      chained : (r : Result (Asked × CheckedPiece) Refusal) → ((r >>= λ first. Ok (numbered sequence first)) >>= show) ≡ (r >>= as_shown a.mapping sequence)
      chained (Ok first) = refl
      chained (Err e) = refl

  -- a step by its first piece is one of the sequence
  pub stepped : (t : Timeline) (piece : Piece) (r : Result Shown Refusal) (held held_now : List HeldMovie) (log log_now : Option (List Read)) → timeline_asked o a sequence ≡ Ok t → slice_get t.pieces 0 ≡ Some piece
      → IsStep o.files (shown_by_piece o a sequence piece) (piece.name ∷ []) r held held_now log log_now → IsStep o.files (shown_due o a sequence) (first_names o a sequence) r held held_now log log_now
  stepped t piece r held held_now log log_now e at step =
      let found = selected t piece e at in
      subst (λ (due : Result Shown Refusal). IsStep o.files due (first_names o a sequence) r held held_now log log_now) (sym found.0)
      (subst (λ (names : List (List ℕ)). IsStep o.files (shown_by_piece o a sequence piece) names r held held_now log log_now) (sym found.1) step)

-- ---- the numbers of the sequences

-- from a number below the end on
pub numbers_from : (n end : ℕ) → n < end → range_with_len n (end - n) ≡ n ∷ range_with_len (n + 1) (end - (n + 1))
numbers_from n end h = let many : end - n ≡ suc (end - (n + 1)) = omega arith in ap (range_with_len n) many

pub no_numbers : (n end : ℕ) → end ≤ n → range_with_len n (end - n) ≡ []
no_numbers n end h = let none : end - n ≡ 0 = omega arith in ap (range_with_len n) none

pub all_numbers : (count end : ℕ) → end ≡ count + 1 → range_with_len 1 count ≡ range_with_len 1 (end - 1)
all_numbers count end e = let many : count ≡ end - 1 = omega arith in ap (range_with_len 1) many

-- before the first
pub sequences_begin : (files : Files) (due : ℕ → Result Shown Refusal) (names : ℕ → List (List ℕ)) (count end : ℕ) (held : List HeldMovie) (done : List Shown) (log : Option (List Read))
    → end ≡ count + 1 → held ≡ [] → done ≡ [] → IsPath files due names (range_with_len 1 count) (range_with_len 1 (end - 1)) held done log log
sequences_begin files due names count end held done log e none nothing =
    subst (λ (left : List ℕ). IsPath files due names (range_with_len 1 count) left held done log log) (all_numbers count end e)
    (path_begins files due names (range_with_len 1 count) held done log none nothing)
