-- Looks at the pieces of a part.
use Rattle.std.proofs.Common.{◌≡◌, ◌≢◌, ◌≤◌, ℕ, zero, suc, ◌+◌, take, drop, Bool, List, [], ◌∷◌, ◌++◌, length, Option, Some, None, Result, Ok, Err, OnOk, IfErr, IsErrOf, refl, sym, ap, ap₂, ◌∙◌, subst, arith, append_assoc, append-nil, slice_get}
use Rattle.std.proofs.lemmas.List.{length-map, map-append, take_all, length-append, length-take-le}
use Rattle.vod_types.specs.declared.refusal.Refusal.{Refusal}
use Rattle.vod_types.specs.declared.refusal.Refusal.TheVariants.{NoMemory, NoTrack, StoreFailed}
use Rattle.vod_types.specs.declared.tracks.Asked.{Asked}
use Rattle.vod_types.specs.declared.tracks.Kind.TheVariants.{Video, Audio}
use Rattle.vod_types.specs.Results.{◌>>=◌, each_in_turn}
use Rattle.mp4_model.specs.Movie.{Movie}
use Rattle.clip_model.specs.declared.Piece.{Piece}
use Rattle.clip_model.specs.Mapping.{Mapping}
use Rattle.vod_source.specs.Stored.{Files, Read}
use Rattle.origin_model.specs.Lists.{asked_first, first_track}
use Rattle.origin_model.specs.Loaded.{CheckedPiece, checked, loaded, track_of_kind}
use Rattle.flat_samples.specs.Checks.{checked_in, checked_view}
use Rattle.flat_samples.specs.Movies.{HeldMovie, AreTrue, IsTurn}
use Rattle.flat_samples.specs.declared.tracks.CheckedTracks.{CheckedTracks}
use Rattle.flat_samples.proofs.CheckLemmas.{checked-in, checked_in-not_failed}
use Rattle.vod_types.proofs.StepLemmas.{bind_ok}
use Rattle.vod_source.proofs.CallLemmas.{NotFailed, refusal-not_failed}
use Rattle.flat_lists.specs.declared.part_tracks.PartTracks.{PartTracks}
use Rattle.flat_lists.specs.PartTracks.{PartSeen, asked_in, first_in, part_begun, part_due, part_seen, part_with}
use Rattle.flat_lists.specs.LookedParts.{IsFoundPart, IsPartOf, IsPartTour, checked_by, part_found, part_names, AreWithPieces, FirstStands, IsFirst, IsFirstTour, IsOfFirst, IsLaterTour, IsPieceTour, IsWithPiece, first_found, name_alone, pieces_added}
use Rattle.flat_lists.specs.Tours.{StandsFor, IsOnTour, names_of_steps}
use Rattle.flat_lists.proofs.PartLemmas.{part_first, part_more}
use Rattle.flat_lists.proofs.Tours.{names_good, names_first, toured_none, tour_failed, tour_then, tour_begins, tour_on, tour_refused, tour_ended, in_front, toured_loaded, toured_unloaded}

pub same_err : {X E : Type 0} (d e : E) → IsErrOf {T = X} (Err d) e → d ≡ e
same_err d e h = cc

-- ---- one more piece

pub piece_refused : (edits : Bool) (asked : Asked) (piece : Piece) (m : Movie) (e : Refusal) → (e ≢ NoMemory → checked_in edits asked piece m ≡ Err e) → e ≢ StoreFailed
piece_refused edits asked piece m e h = refusal-not_failed (checked_in edits asked piece m) e (checked_in-not_failed edits asked piece m) h

pub checked_loaded : (files : Files) (edits : Bool) (asked : Asked) (piece : Piece) (m : Movie) → loaded files piece.name ≡ Ok m → checked files edits asked piece ≡ checked_in edits asked piece m
checked_loaded files edits asked piece m e = checked-in files edits asked piece ∙ ap (λ (r : Result Movie Refusal). r >>= checked_in edits asked piece) e

module _ (files : Files) (edits : Bool) (asked : Asked) (place : ℕ) (piece : Piece) (old now : PartSeen) (held held_now : List HeldMovie) (log log_now : Option (List Read)) where
  -- the turn was refused
  pub look_unloaded : (e : Refusal) → IsTurn files piece.name (Err e) held held_now log log_now → IsPieceTour files edits asked place piece old now (Err e) held held_now log log_now
  look_unloaded e t =
      toured_unloaded files {R = Unit {0}} (λ c x. now ≡ part_with place c old) (checked files edits asked piece) piece.name held held_now log log_now e (checked_in edits asked piece) (checked-in files edits asked piece) t

  -- the checks were refused
  pub look_unchecked : (x : Unit {0}) (e : Refusal) (h : HeldMovie) → slice_get held_now 0 ≡ Some h → IsTurn files piece.name (Ok x) held held_now log log_now
      → (e ≢ NoMemory → checked_in edits asked piece h.movie ≡ Err e) → IsPieceTour files edits asked place piece old now (Err e) held held_now log log_now
  look_unchecked x e h at t refused =
      toured_loaded files {R = Unit {0}} (λ c x. now ≡ part_with place c old) (checked files edits asked piece) piece.name held held_now log log_now x (Err e) t
      (λ known_memory known_store. checked_loaded files edits asked piece h.movie (in_front files piece.name x held held_now log log_now h at t) ∙ refused known_memory)

  -- it was put behind the others, or memory ran out
  pub look_taken : (x : Unit {0}) (tracks : CheckedTracks) (r : Result (Unit {0}) Refusal) (h : HeldMovie) → slice_get held_now 0 ≡ Some h
      → IsTurn files piece.name (Ok x) held held_now log log_now → checked_in edits asked piece h.movie ≡ Ok (checked_view piece tracks)
      → OnOk r (now ≡ part_with place (checked_view piece tracks) old) → IfErr r (λ refusal. refusal ≡ NoMemory)
      → IsPieceTour files edits asked place piece old now r held held_now log log_now
  look_taken x tracks r h at t is added only =
      toured_loaded files (λ c x. now ≡ part_with place c old) (checked files edits asked piece) piece.name held held_now log log_now x r t (stands r added only)
    where
      stands : (r : Result (Unit {0}) Refusal) → OnOk r (now ≡ part_with place (checked_view piece tracks) old) → IfErr r (λ refusal. refusal ≡ NoMemory)
          → StandsFor (λ c (x : Unit {0}). now ≡ part_with place c old) r (checked files edits asked piece)
      stands (Ok y) added only = (checked_view piece tracks, checked_loaded files edits asked piece h.movie (in_front files piece.name x held held_now log log_now h at t) ∙ is, added)
      stands (Err e) added only = λ known_memory known_store. absurd (known_memory only)

pub with_piece : (r : Result (Unit {0}) Refusal) (place : ℕ) (piece : Piece) (tracks : CheckedTracks) (old now : PartSeen) → OnOk r (now ≡ part_with place (checked_view piece tracks) old) → OnOk r (IsWithPiece place piece old now)
with_piece (Ok x) place piece tracks old now added = record { checked = checked_view piece tracks; of = refl; seen = added }
with_piece (Err e) place piece tracks old now added = tt

-- ---- the first piece

no_track : (name : List ℕ) → NoTrack name (track_of_kind Video 1) ≢ StoreFailed
no_track name e = cc

asked_first-not_failed : (name : List ℕ) (video audio : Option ℕ) → NotFailed (asked_first name video audio)
asked_first-not_failed name None None = no_track name
asked_first-not_failed name (Some v) audio = tt
asked_first-not_failed name None (Some a) = tt

pub asked_refused : (piece : Piece) (m : Movie) (e : Refusal) → (e ≢ NoMemory → asked_in piece m ≡ Err e) → e ≢ StoreFailed
asked_refused piece m e h = refusal-not_failed (asked_in piece m) e (asked_first-not_failed piece.name (first_track piece m Video) (first_track piece m Audio)) h

module _ (edits : Bool) (m : Mapping) (sequence : ℕ) (piece : Piece) (movie : Movie) where
  -- it exposes none of the tracks
  pub first_unasked : (e : Refusal) → (e ≢ NoMemory → asked_in piece movie ≡ Err e) → FirstStands edits m sequence piece movie (Err e)
  first_unasked e refused = λ known_memory known_store. ap (λ (r : Result Asked Refusal). r >>= λ asked. checked_in edits asked piece movie >>= λ c. Ok (asked, c)) (refused known_memory)

  abbrev step : Asked → Result CheckedPiece Refusal → Result (Asked × CheckedPiece) Refusal
  step asked r = r >>= λ c. Ok (asked, c)

  asked_is : (asked : Asked) → asked_in piece movie ≡ Ok asked → first_in edits piece movie ≡ step asked (checked_in edits asked piece movie)
  asked_is asked e = ap (λ (r : Result Asked Refusal). r >>= λ asked. checked_in edits asked piece movie >>= λ c. Ok (asked, c)) e

  -- a track has a fault
  pub first_unchecked : (asked : Asked) (e : Refusal) → asked_in piece movie ≡ Ok asked → (e ≢ NoMemory → checked_in edits asked piece movie ≡ Err e) → FirstStands edits m sequence piece movie (Err e)
  first_unchecked asked e exposes refused = λ known_memory known_store. asked_is asked exposes ∙ ap (step asked) (refused known_memory)

  module _ (asked : Asked) (tracks : CheckedTracks) (begun part : PartTracks) (begins : (p : Piece) → part_seen begun ≡ part_begun m sequence (checked_view p tracks))
      (added : part_seen part ≡ part_with 0 (checked_view piece tracks) (part_seen begun)) where
    begun_is : part_seen part ≡ part_due m sequence (checked_view piece tracks ∷ [])
    begun_is = added ∙ ap (part_with 0 (checked_view piece tracks)) (begins piece) ∙ part_first m sequence (checked_view piece tracks)

    pub first_taken : asked_in piece movie ≡ Ok asked → checked_in edits asked piece movie ≡ Ok (checked_view piece tracks) → FirstStands edits m sequence piece movie (Ok (asked, part))
    first_taken exposes is = ((asked, checked_view piece tracks), asked_is asked exposes ∙ ap (step asked) is, (refl, begun_is))

    pub of_first : IsOfFirst m sequence piece (part_seen part)
    of_first = record { checked = checked_view piece tracks; of = refl; seen = begun_is }

module _ (files : Files) (edits : Bool) (m : Mapping) (sequence : ℕ) (piece : Piece) (held held_now : List HeldMovie) (log log_now : Option (List Read)) where
  pub first_unloaded : (e : Refusal) → IsTurn files piece.name (Err e) held held_now log log_now → IsFirstTour files edits m sequence piece (Err e) held held_now log log_now
  first_unloaded e t = toured_unloaded files (IsFirst m sequence) (first_found files edits piece) piece.name held held_now log log_now e (first_in edits piece) refl t

  pub first_loaded : (x : Unit {0}) (result : Result (Asked × PartTracks) Refusal) (h : HeldMovie) → slice_get held_now 0 ≡ Some h → IsTurn files piece.name (Ok x) held held_now log log_now
      → FirstStands edits m sequence piece h.movie result → IsFirstTour files edits m sequence piece result held held_now log log_now
  first_loaded x result h at t stands =
      toured_loaded files (IsFirst m sequence) (first_found files edits piece) piece.name held held_now log log_now x result t
      (subst (StandsFor (IsFirst m sequence) result) (sym (ap (λ (r : Result Movie Refusal). r >>= first_in edits piece) (in_front files piece.name x held held_now log log_now h at t))) stands)

pub first_not_failed : {X : Type 0} (r : Result X Refusal) → IfErr r (λ e. e ≢ StoreFailed) → (failed : IsErrOf r StoreFailed) → r ≢ Err StoreFailed → ⊥
first_not_failed r h f none = none f

pub not_failed_by : {X : Type 0} (r : Result X Refusal) → IfErr r (λ e. e ≢ StoreFailed) → r ≢ Err StoreFailed
not_failed_by (Ok x) h f = absurd cc
not_failed_by (Err e) h f = h (let same : e ≡ StoreFailed = cc in same)

-- ---- the pieces behind the first one

pub pieces-append : (place : ℕ) (cs : List CheckedPiece) (c : CheckedPiece) (seen : PartSeen) → pieces_added place (cs ++ c ∷ []) seen ≡ part_with (place + length cs) c (pieces_added place cs seen)
pieces-append place [] c seen = ap (λ (n : ℕ). part_with n c seen) (let same : place ≡ place + 0 = omega arith in same)
pieces-append place (d ∷ cs) c seen =
    pieces-append (place + 1) cs c (part_with place d seen)
    ∙ ap (λ (n : ℕ). part_with n c (pieces_added (place + 1) cs (part_with place d seen))) (let same : place + 1 + length cs ≡ place + length (d ∷ cs) = omega arith in same)

-- what is left of the pieces, when those before this place were added
pub record IsLaterWalk (files : Files) (edits : Bool) (asked : Asked) (pieces left : List Piece) (place : ℕ) (first now : PartSeen) (begun held : List HeldMovie) (log log_now : Option (List Read)) : Type 0 where
  pub done : List CheckedPiece
  pub on : IsOnTour files (checked files edits asked) name_alone pieces left done begun held log log_now
  pub seen : now ≡ pieces_added 1 done first
  pub many : place ≡ 1 + length done

module _ (files : Files) (edits : Bool) (asked : Asked) (pieces : List Piece) (first : PartSeen) (begun : List HeldMovie) (log : Option (List Read)) where
  pub later_begins : (held : List HeldMovie) → held ≡ begun → AreTrue files begun → IsLaterWalk files edits asked pieces pieces 1 first first begun held log log
  later_begins held e known = record {
    done = [];
    on = subst (λ (held : List HeldMovie). IsOnTour files (checked files edits asked) name_alone pieces pieces [] begun held log log) (sym e) (tour_begins files (checked files edits asked) name_alone pieces begun log known);
    seen = refl;
    many = omega arith;
  }

  module _ (place : ℕ) (now then : PartSeen) (held held_now : List HeldMovie) (log_now log_then : Option (List Read)) (p : Piece) (ps left : List Piece) (e : ps ≡ p ∷ left)
      (w : IsLaterWalk files edits asked pieces ps place first now begun held log log_now) where
    on_piece : IsOnTour files (checked files edits asked) name_alone pieces (p ∷ left) w.done begun held log log_now
    on_piece = subst (λ (ps : List Piece). IsOnTour files (checked files edits asked) name_alone pieces ps w.done begun held log log_now) e w.on

    pub later_on : (x : Unit {0}) → IsPieceTour files edits asked place p now then (Ok x) held held_now log_now log_then → IsLaterWalk files edits asked pieces left (place + 1) first then begun held_now log log_then
    later_on x t =
        let c = t.answered.0 in
        record {
          done = w.done ++ c ∷ [];
          on = tour_on files (checked files edits asked) name_alone pieces w.done begun held log log_now (λ c (x : Unit {0}). then ≡ part_with place c now) p left on_piece held_now log_then x t;
          seen = t.answered.2 ∙ ap₂ (λ (n : ℕ) (s : PartSeen). part_with n c s) w.many w.seen ∙ sym (pieces-append 1 w.done c first);
          many = omega (arith, w.many, length-append w.done (c ∷ []));
        }

    pub later_refused : (r : Refusal) → IsPieceTour files edits asked place p now then (Err r) held held_now log_now log_then → IsLaterTour files edits asked pieces first (Err r) begun held_now log log_then
    later_refused r t =
        tour_refused files (checked files edits asked) name_alone pieces w.done begun held log log_now (λ c (x : Unit {0}). then ≡ part_with place c now) p left on_piece held_now log_then
        (λ cs (p : PartTracks). part_seen p ≡ pieces_added 1 cs first) (each_in_turn (checked files edits asked) pieces) r (λ e. e) t

  pub later_ended : (place : ℕ) (part : PartTracks) (held : List HeldMovie) (log_now : Option (List Read)) (ps : List Piece) → ps ≡ [] → IsLaterWalk files edits asked pieces ps place first (part_seen part) begun held log log_now
      → IsLaterTour files edits asked pieces first (Ok part) begun held log log_now
  later_ended place part held log_now ps e w =
      tour_ended files (checked files edits asked) name_alone pieces w.done begun held log log_now (λ cs (p : PartTracks). part_seen p ≡ pieces_added 1 cs first) (each_in_turn (checked files edits asked) pieces) part w.done
      (λ whole. whole) w.seen (subst (λ (ps : List Piece). IsOnTour files (checked files edits asked) name_alone pieces ps w.done begun held log log_now) e w.on)

-- whatever the store tells
pub with_none : (place : ℕ) (seen : PartSeen) → AreWithPieces place [] seen seen
with_none place seen = record { checked = []; of = refl; seen = refl }

take_one_more : {X : Type 0} (count : ℕ) (xs : List X) (x : X) (rest : List X) → drop count xs ≡ x ∷ rest → take (count + 1) xs ≡ take count xs ++ x ∷ []
take_one_more zero [] x rest e = absurd cc
take_one_more {X = X} zero (y ∷ xs) x rest e = let same : y ≡ x = cc in ap (λ (y : X). y ∷ []) same
take_one_more (suc count) [] x rest e = absurd cc
take_one_more {X = X} (suc count) (y ∷ xs) x rest e =
    let n : suc count + 1 ≡ suc (count + 1) = omega arith in
    ap (λ (n : ℕ). take n (y ∷ xs)) n ∙ ap (λ (ys : List X). y ∷ ys) (take_one_more count xs x rest e)

pub with_one_more : (count place : ℕ) (pieces : List Piece) (p : Piece) (rest : List Piece) (first now then : PartSeen) → drop count pieces ≡ p ∷ rest → count ≤ length pieces → place ≡ count + 1 → AreWithPieces 1 (take count pieces) first now
    → IsWithPiece place p now then → AreWithPieces 1 (take (count + 1) pieces) first then
with_one_more count place pieces p rest first now then at within place_is of with =
    let many : place ≡ 1 + length of.checked =
    let a = length-map of.checked (λ (c : CheckedPiece). c.piece) in
    let b = ap (λ (ps : List Piece). length ps) of.of in
    let d = length-take-le count pieces within in
    omega (arith, a, b, d, place_is) in
    record {
      checked = of.checked ++ with.checked ∷ [];
      of = map-append (λ (c : CheckedPiece). c.piece) of.checked (with.checked ∷ []) ∙ ap₂ (λ (ps : List Piece) (q : Piece). ps ++ q ∷ []) of.of with.of ∙ sym (take_one_more count pieces p rest at);
      seen = with.seen ∙ ap₂ (λ (n : ℕ) (s : PartSeen). part_with n with.checked s) many of.seen ∙ sym (pieces-append 1 of.checked with.checked first);
    }

pub with_all : (count : ℕ) (pieces : List Piece) (first now : PartSeen) → length pieces ≤ count → AreWithPieces 1 (take count pieces) first now → AreWithPieces 1 pieces first now
with_all count pieces first now past of = subst (λ (ps : List Piece). AreWithPieces 1 ps first now) (take_all count pieces past) of

-- ---- all pieces of a part

pieces_due : (m : Mapping) (sequence : ℕ) (c : CheckedPiece) (before cs : List CheckedPiece) → pieces_added (length (c ∷ before)) cs (part_due m sequence (c ∷ before)) ≡ part_due m sequence (c ∷ (before ++ cs))
pieces_due m sequence c before [] = ap (λ (ds : List CheckedPiece). part_due m sequence (c ∷ ds)) (sym (append-nil before))
pieces_due m sequence c before (d ∷ cs) =
    let n : length (c ∷ before) + 1 ≡ length (c ∷ (before ++ d ∷ [])) = omega (arith, length-append before (d ∷ [])) in
    ap₂ (λ (n : ℕ) (s : PartSeen). pieces_added n cs s) n (part_more m sequence c before d)
    ∙ pieces_due m sequence c (before ++ d ∷ []) cs ∙ ap (λ (ds : List CheckedPiece). part_due m sequence (c ∷ ds)) (append_assoc before (d ∷ []) cs)

pub pieces_first : (m : Mapping) (sequence : ℕ) (c : CheckedPiece) (cs : List CheckedPiece) (seen now : PartSeen) → seen ≡ part_due m sequence (c ∷ []) → now ≡ pieces_added 1 cs seen → now ≡ part_due m sequence (c ∷ cs)
pieces_first m sequence c cs seen now e f =
    let one : 1 ≡ length (c ∷ []) = omega arith in
    f ∙ ap₂ (λ (n : ℕ) (s : PartSeen). pieces_added n cs s) one e ∙ pieces_due m sequence c [] cs

-- whatever the store tells
pub part_of_none : (m : Mapping) (sequence : ℕ) (pieces : List Piece) (p : PartTracks) → pieces ≡ [] → part_seen p ≡ record { video = None; audio = None } → IsPartOf m sequence pieces (part_seen p)
part_of_none m sequence pieces p none e = record { checked = []; of = sym none; seen = e }

pub part_of_some : (m : Mapping) (sequence : ℕ) (pieces : List Piece) (first : Piece) (later : List Piece) (seen now : PartSeen) → pieces ≡ first ∷ later → IsOfFirst m sequence first seen → AreWithPieces 1 later seen now → IsPartOf m sequence pieces now
part_of_some m sequence pieces first later seen now e of with = record {
  checked = of.checked ∷ with.checked;
  of = ap₂ (λ (q : Piece) (qs : List Piece). q ∷ qs) of.of with.of ∙ sym e;
  seen = pieces_first m sequence of.checked with.checked seen now of.seen with.seen;
}

module _ (files : Files) (edits : Bool) where
  -- the parts of what is found of a first piece
  pub first_parts : (piece : Piece) (f : Asked × CheckedPiece) → first_found files edits piece ≡ Ok f → ((loaded files piece.name >>= asked_in piece) ≡ Ok f.0) × (checked files edits f.0 piece ≡ Ok f.1)
  first_parts piece f e =
      let movie = bind_ok (loaded files piece.name) (first_in edits piece) f e in
      let asked = bind_ok (asked_in piece movie.0) _ f movie.2 in
      let c = bind_ok (checked_in edits asked.0 piece movie.0) _ f asked.2 in
      let same : (asked.0, c.0) ≡ f = (let h = c.2 in cc) in (
        ap (λ (r : Result Movie Refusal). r >>= asked_in piece) movie.1 ∙ asked.1 ∙ ap (λ (f : Asked × CheckedPiece). Ok f.0) same,
        ap (λ (f : Asked × CheckedPiece). checked files edits f.0 piece) (sym same) ∙ checked_loaded files edits asked.0 piece movie.0 movie.1 ∙ c.1 ∙ ap (λ (f : Asked × CheckedPiece). Ok f.1) same,
      )

  pub first_bad : (piece : Piece) (e : Refusal) → first_found files edits piece ≡ Err e → checked_by files edits piece piece ≡ Err e
  first_bad piece e is = by_movie (loaded files piece.name) refl
    where
      by_checked : (m : Movie) (asked : Asked) (r : Result CheckedPiece Refusal) → loaded files piece.name ≡ Ok m → asked_in piece m ≡ Ok asked → checked_in edits asked piece m ≡ r → checked files edits asked piece ≡ Err e
      by_checked m asked (Ok c) load ask check = absurd (
          let found : first_found files edits piece ≡ Ok (asked, c) =
          ap (λ (r : Result Movie Refusal). r >>= first_in edits piece) load ∙ ap (λ (r : Result Asked Refusal). r >>= λ asked. checked_in edits asked piece m >>= λ c. Ok (asked, c)) ask ∙ ap (λ (r : Result CheckedPiece Refusal). r >>= λ c. Ok (asked, c)) check in
          let both : ◌≡◌ {A = Result (Asked × CheckedPiece) Refusal} (Ok (asked, c)) (Err e) = sym found ∙ is in cc)
      by_checked m asked (Err d) load ask check =
          let found : first_found files edits piece ≡ Err d =
          ap (λ (r : Result Movie Refusal). r >>= first_in edits piece) load ∙ ap (λ (r : Result Asked Refusal). r >>= λ asked. checked_in edits asked piece m >>= λ c. Ok (asked, c)) ask ∙ ap (λ (r : Result CheckedPiece Refusal). r >>= λ c. Ok (asked, c)) check in
          let both : d ≡ e = (let h : ◌≡◌ {A = Result (Asked × CheckedPiece) Refusal} (Err d) (Err e) = sym found ∙ is in cc) in
          checked_loaded files edits asked piece m load ∙ check ∙ ap Err both

      by_asked : (m : Movie) (r : Result Asked Refusal) → loaded files piece.name ≡ Ok m → asked_in piece m ≡ r → checked_by files edits piece piece ≡ Err e
      by_asked m (Ok asked) load ask =
          ap (λ (r : Result Movie Refusal). (r >>= asked_in piece) >>= λ asked. checked files edits asked piece) load ∙ ap (λ (r : Result Asked Refusal). r >>= λ asked. checked files edits asked piece) ask
          ∙ by_checked m asked (checked_in edits asked piece m) load ask refl
      by_asked m (Err d) load ask =
          let found : first_found files edits piece ≡ Err d =
          ap (λ (r : Result Movie Refusal). r >>= first_in edits piece) load ∙ ap (λ (r : Result Asked Refusal). r >>= λ asked. checked_in edits asked piece m >>= λ c. Ok (asked, c)) ask in
          let both : d ≡ e = (let h : ◌≡◌ {A = Result (Asked × CheckedPiece) Refusal} (Err d) (Err e) = sym found ∙ is in cc) in
          ap (λ (r : Result Movie Refusal). (r >>= asked_in piece) >>= λ asked. checked files edits asked piece) load ∙ ap (λ (r : Result Asked Refusal). r >>= λ asked. checked files edits asked piece) ask ∙ ap Err both

      by_movie : (r : Result Movie Refusal) → loaded files piece.name ≡ r → checked_by files edits piece piece ≡ Err e
      by_movie (Ok m) load = by_asked m (asked_in piece m) load refl
      by_movie (Err d) load =
          let found : first_found files edits piece ≡ Err d = ap (λ (r : Result Movie Refusal). r >>= first_in edits piece) load in
          let both : d ≡ e = (let h : ◌≡◌ {A = Result (Asked × CheckedPiece) Refusal} (Err d) (Err e) = sym found ∙ is in cc) in
          ap (λ (r : Result Movie Refusal). (r >>= asked_in piece) >>= λ asked. checked files edits asked piece) load ∙ ap Err both

  module _ (m : Mapping) (sequence : ℕ) (pieces : List Piece) where
    pub part_empty : (p : PartTracks) (held : List HeldMovie) (log : Option (List Read)) → pieces ≡ [] → part_seen p ≡ record { video = None; audio = None } → AreTrue files held → IsPartTour files edits m sequence pieces (Ok p) held held log log
    part_empty p held log e seen known =
        subst (λ (ps : List Piece). IsPartTour files edits m sequence ps (Ok p) held held log log) (sym e)
        (toured_none files (IsFoundPart m sequence) (Ok (record { first = None; pieces = [] })) p held log known (record { first = None; pieces = [] }, refl, seen))

    module _ (first : Piece) (later : List Piece) (is : pieces ≡ first ∷ later) (held middle held_now : List HeldMovie) (log log_then log_now : Option (List Read)) where
      pub part_refused : (e : Refusal) → IsFirstTour files edits m sequence first (Err e) held middle log log_then → IsPartTour files edits m sequence pieces (Err e) held middle log log_then
      part_refused e t =
          let names = names_first files (checked_by files edits first) name_alone first later in
          subst (λ (ps : List Piece). IsPartTour files edits m sequence ps (Err e) held middle log log_then) (sym is)
          (tour_failed files (IsFirst m sequence) (IsFoundPart m sequence) (first_found files edits first) (part_found files edits (first ∷ later)) (name_alone first) names.0 (part_names files edits (first ∷ later)) held middle middle log log_then log_then
          e names.1 (λ refused. names.2 e (first_bad first e refused))
          (λ refused. ap (λ (r : Result (Asked × CheckedPiece) Refusal). r >>= λ f. each_in_turn (checked files edits f.0) later >>= λ cs. Ok (record { first = Some f; pieces = f.1 ∷ cs })) refused) t)

      pub part_taken : (r : Asked × PartTracks) (result : Result PartTracks Refusal) → IsFirstTour files edits m sequence first (Ok r) held middle log log_then → IsLaterTour files edits r.0 later (part_seen r.1) result middle held_now log_then log_now
          → IsPartTour files edits m sequence pieces result held held_now log log_now
      part_taken r result t u =
          subst (λ (ps : List Piece). IsPartTour files edits m sequence ps result held held_now log log_now) (sym is)
          (tour_then files (IsFirst m sequence) (IsFoundPart m sequence) (first_found files edits first) (part_found files edits (first ∷ later)) (name_alone first) (names_of_steps (checked files edits r.0) name_alone later)
          (part_names files edits (first ∷ later)) held middle held_now log log_then log_now
          (λ cs (p : PartTracks). part_seen p ≡ pieces_added 1 cs (part_seen r.1)) (each_in_turn (checked files edits r.0) later) r result named t u (whole result))
        where
          found : Asked × CheckedPiece
          found = t.answered.0

          parts : ((loaded files first.name >>= asked_in first) ≡ Ok found.0) × (checked files edits found.0 first ≡ Ok found.1)
          parts = first_parts first found t.answered.1

          by_first : (piece : Piece) → checked_by files edits first piece ≡ checked files edits found.0 piece
          by_first piece = ap (λ (r : Result Asked Refusal). r >>= λ asked. checked files edits asked piece) parts.0

          named : part_names files edits (first ∷ later) ≡ name_alone first ++ names_of_steps (checked files edits r.0) name_alone later
          named =
              names_good files (checked_by files edits first) name_alone first later found.1 (by_first first ∙ parts.1)
              ∙ ap (λ (r : Result Asked Refusal). name_alone first ++ names_of_steps (λ piece. r >>= λ asked. checked files edits asked piece) name_alone later) parts.0
              ∙ ap (λ (asked : Asked). name_alone first ++ names_of_steps (checked files edits asked) name_alone later) (sym t.answered.2.0)

          whole : (result : Result PartTracks Refusal) → StandsFor (λ cs (p : PartTracks). part_seen p ≡ pieces_added 1 cs (part_seen r.1)) result (each_in_turn (checked files edits r.0) later)
              → StandsFor (IsFoundPart m sequence) result (part_found files edits (first ∷ later))
          whole (Ok p) (cs, each, seen) = (
            record { first = Some found; pieces = found.1 ∷ cs },
            ap (λ (r : Result (Asked × CheckedPiece) Refusal). r >>= λ f. each_in_turn (checked files edits f.0) later >>= λ cs. Ok (record { first = Some f; pieces = f.1 ∷ cs })) t.answered.1
                ∙ ap (λ (r : Result (List CheckedPiece) Refusal). r >>= λ cs. Ok (record { first = Some found; pieces = found.1 ∷ cs }))
                (ap (λ (asked : Asked). each_in_turn (checked files edits asked) later) (sym t.answered.2.0) ∙ each),
            pieces_first m sequence found.1 cs (part_seen r.1) (part_seen p) t.answered.2.1 seen,
          )
          whole (Err e) refused = λ known_memory known_store.
              ap (λ (r : Result (Asked × CheckedPiece) Refusal). r >>= λ f. each_in_turn (checked files edits f.0) later >>= λ cs. Ok (record { first = Some f; pieces = f.1 ∷ cs })) t.answered.1
              ∙ ap (λ (r : Result (List CheckedPiece) Refusal). r >>= λ cs. Ok (record { first = Some found; pieces = found.1 ∷ cs }))
              (ap (λ (asked : Asked). each_in_turn (checked files edits asked) later) (sym t.answered.2.0) ∙ refused known_memory known_store)
