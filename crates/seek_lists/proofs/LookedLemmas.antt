-- Looks at the pieces of a part.
use Rattle.std.proofs.Common.{◌≡◌, ◌≢◌, ℕ, ◌+◌, Bool, List, [], ◌∷◌, ◌++◌, length, Option, Some, None, Result, Ok, Err, OnOk, IfErr, refl, sym, ap, ap₂, ◌∙◌, subst, arith, length-append}
use Rattle.vod_types.specs.declared.refusal.Refusal.{Refusal}
use Rattle.vod_types.specs.declared.refusal.Refusal.TheVariants.{NoMemory, StoreFailed}
use Rattle.vod_types.specs.declared.tracks.Asked.{Asked}
use Rattle.vod_types.specs.Results.{◌>>=◌, each_in_turn}
use Rattle.mp4_model.specs.Movie.{Movie}
use Rattle.clip_model.specs.declared.Piece.{Piece}
use Rattle.clip_model.specs.Mapping.{Mapping}
use Rattle.vod_source.specs.Stored.{Files, Read}
use Rattle.origin_model.specs.Loaded.{CheckedPiece, checked, loaded}
use Rattle.origin_model.specs.Reads.{Cache}
use Rattle.flat_samples.specs.Checks as flat
use Rattle.flat_lists.specs.LookedParts.{IsOfFirst, IsWithPiece, checked_by, first_found, name_alone, part_found, part_names, pieces_added}
use Rattle.flat_lists.specs.PartTracks.{PartSeen, asked_in, first_in, part_begun, part_due, part_with}
use Rattle.flat_lists.specs.Tours.{StandsFor, names_of_steps}
use Rattle.flat_lists.proofs.LookedLemmas.{first_bad, first_parts, pieces-append, pieces_first}
use Rattle.flat_lists.proofs.PartLemmas.{part_first}
use Rattle.flat_lists.proofs.Tours.{names_first, names_good}
use Rattle.vod_plan.specs.declared.tracks.CheckedTracks.{CheckedTracks}
use Rattle.vod_plan.specs.Tracks.{checked_in, checked_view}
use Rattle.vod_plan.specs.Turned.{AreTurns}
use Rattle.vod_plan.proofs.LookWalks.{not_loaded, was_loaded}
use Rattle.seek_lists.specs.declared.part_tracks.PartTracks.{PartTracks}
use Rattle.seek_lists.specs.Looked.{FirstStands, IsFirst, IsFirstTour, IsFoundPart, IsLaterTour, IsPartTour, IsPieceTour}
use Rattle.seek_lists.specs.PartTracks.{part_seen}
use Rattle.seek_lists.specs.Ways.{IsWay}
use Rattle.seek_lists.proofs.ShownLemmas.{same_check}
use Rattle.seek_lists.proofs.Tours.{tour_failed, tour_none, tour_stands, tour_then, tour_unmade, step_err, step_ok}
use Rattle.seek_lists.proofs.Ways.{ways_begin, way_on, way_refused, way_whole}

-- ---- one more piece

module _ (files : Files) (edits : Bool) (asked : Asked) (place : ℕ) (piece : Piece) (old now : PartSeen) (held held_now : Cache) (log log_now : Option (List Read)) where
  abbrev IsAdded : CheckedPiece → Unit {0} → Type 0
  IsAdded c x = now ≡ part_with place c old

  -- the turn was refused
  pub look_unloaded : {Z : Type 0} (e : Refusal) → (e ≢ NoMemory → e ≢ StoreFailed → loaded files piece.name ≡ Err e) → AreTurns {X = Z} files (piece.name ∷ []) (Err e) held held_now log log_now
      → IsPieceTour files edits asked place piece old now (Err e) held held_now log log_now
  look_unloaded e known turned =
      tour_unmade files IsAdded (checked files edits asked piece) (name_alone piece) held held_now log log_now e turned (λ memory store. not_loaded files edits asked piece e (known memory store))

  module _ {Z : Type 0} (z : Z) (m : Movie) (load : loaded files piece.name ≡ Ok m) (turned : AreTurns files (piece.name ∷ []) (Ok z) held held_now log log_now) where
    -- the checks were refused
    pub look_unchecked : (e : Refusal) → (e ≢ NoMemory → checked_in edits asked piece m ≡ Err e) → IsPieceTour files edits asked place piece old now (Err e) held held_now log log_now
    look_unchecked e refused =
        tour_stands files IsAdded (checked files edits asked piece) (name_alone piece) held held_now log log_now z (Err e) turned (λ memory store. was_loaded files edits asked piece m load ∙ refused memory)

    -- it was put behind the others, or memory ran out
    pub look_taken : (tracks : CheckedTracks) (r : Result (Unit {0}) Refusal) → checked_in edits asked piece m ≡ Ok (checked_view piece tracks)
        → OnOk r (now ≡ part_with place (checked_view piece tracks) old) → IfErr r (λ refusal. refusal ≡ NoMemory) → IsPieceTour files edits asked place piece old now r held held_now log log_now
    look_taken tracks r is added only = tour_stands files IsAdded (checked files edits asked piece) (name_alone piece) held held_now log log_now z r turned (stands r added only)
      where
        stands : (r : Result (Unit {0}) Refusal) → OnOk r (now ≡ part_with place (checked_view piece tracks) old) → IfErr r (λ refusal. refusal ≡ NoMemory) → StandsFor IsAdded r (checked files edits asked piece)
        stands (Ok y) added only = (checked_view piece tracks, was_loaded files edits asked piece m load ∙ is, added)
        stands (Err e) added only = λ memory store. absurd (memory only)

pub with_piece : (r : Result (Unit {0}) Refusal) (place : ℕ) (piece : Piece) (tracks : CheckedTracks) (old now : PartSeen) → OnOk r (now ≡ part_with place (checked_view piece tracks) old) → OnOk r (IsWithPiece place piece old now)
with_piece (Ok x) place piece tracks old now added = record { checked = checked_view piece tracks; of = refl; seen = added }
with_piece (Err e) place piece tracks old now added = tt

-- ---- the first piece

module _ (edits : Bool) (m : Mapping) (sequence : ℕ) (piece : Piece) (movie : Movie) where
  abbrev by_asked : Result Asked Refusal → Result (Asked × CheckedPiece) Refusal
  by_asked r = r >>= λ asked. flat.checked_in edits asked piece movie >>= λ c. Ok (asked, c)

  -- it exposes none of the tracks
  pub first_unasked : (e : Refusal) → (e ≢ NoMemory → asked_in piece movie ≡ Err e) → FirstStands edits m sequence piece movie (Err e)
  first_unasked e refused = λ memory store. ap by_asked (refused memory)

  abbrev step : Asked → Result CheckedPiece Refusal → Result (Asked × CheckedPiece) Refusal
  step asked r = r >>= λ c. Ok (asked, c)

  asked_is : (asked : Asked) (r : Result CheckedPiece Refusal) → asked_in piece movie ≡ Ok asked → checked_in edits asked piece movie ≡ r → first_in edits piece movie ≡ step asked r
  asked_is asked r e is = ap by_asked e ∙ ap (step asked) (sym (same_check edits asked piece movie) ∙ is)

  -- a track has a fault
  pub first_unchecked : (asked : Asked) (e : Refusal) → asked_in piece movie ≡ Ok asked → (e ≢ NoMemory → checked_in edits asked piece movie ≡ Err e) → FirstStands edits m sequence piece movie (Err e)
  first_unchecked asked e exposes refused = λ memory store. asked_is asked (Err e) exposes (refused memory)

  module _ (asked : Asked) (tracks : CheckedTracks) (begun part : PartTracks) (begins : part_seen begun ≡ part_begun m sequence (checked_view piece tracks))
      (added : part_seen part ≡ part_with 0 (checked_view piece tracks) (part_seen begun)) where
    begun_is : part_seen part ≡ part_due m sequence (checked_view piece tracks ∷ [])
    begun_is = added ∙ ap (part_with 0 (checked_view piece tracks)) begins ∙ part_first m sequence (checked_view piece tracks)

    pub first_taken : asked_in piece movie ≡ Ok asked → checked_in edits asked piece movie ≡ Ok (checked_view piece tracks) → FirstStands edits m sequence piece movie (Ok (asked, part))
    first_taken exposes is = ((asked, checked_view piece tracks), asked_is asked (Ok (checked_view piece tracks)) exposes is, (refl, begun_is))

    pub of_first : IsOfFirst m sequence piece (part_seen part)
    of_first = record { checked = checked_view piece tracks; of = refl; seen = begun_is }

module _ (files : Files) (edits : Bool) (m : Mapping) (sequence : ℕ) (piece : Piece) (held held_now : Cache) (log log_now : Option (List Read)) where
  abbrev by_movie : Result Movie Refusal → Result (Asked × CheckedPiece) Refusal
  by_movie r = r >>= first_in edits piece

  pub first_unloaded : {Z : Type 0} (e : Refusal) → (e ≢ NoMemory → e ≢ StoreFailed → loaded files piece.name ≡ Err e) → AreTurns {X = Z} files (piece.name ∷ []) (Err e) held held_now log log_now
      → IsFirstTour files edits m sequence piece (Err e) held held_now log log_now
  first_unloaded e known turned = tour_unmade files (IsFirst m sequence) (first_found files edits piece) (name_alone piece) held held_now log log_now e turned (λ memory store. ap by_movie (known memory store))

  pub first_loaded : {Z : Type 0} (z : Z) (movie : Movie) (result : Result (Asked × PartTracks) Refusal) → loaded files piece.name ≡ Ok movie → AreTurns files (piece.name ∷ []) (Ok z) held held_now log log_now
      → FirstStands edits m sequence piece movie result → IsFirstTour files edits m sequence piece result held held_now log log_now
  first_loaded z movie result load turned stands =
      tour_stands files (IsFirst m sequence) (first_found files edits piece) (name_alone piece) held held_now log log_now z result turned (subst (StandsFor (IsFirst m sequence) result) (sym (ap by_movie load)) stands)

pub not_failed_by : {X : Type 0} (r : Result X Refusal) → IfErr r (λ e. e ≢ StoreFailed) → r ≢ Err StoreFailed
not_failed_by (Ok x) h f = absurd cc
not_failed_by (Err e) h f = h (let same : e ≡ StoreFailed = cc in same)

-- ---- the pieces behind the first one

-- what is left of the pieces, when those before this place were added
pub record IsLaterWalk (files : Files) (edits : Bool) (asked : Asked) (pieces left : List Piece) (place : ℕ) (first now : PartSeen) (begun held : Cache) (log log_now : Option (List Read)) : Type 0 where
  pub done : List CheckedPiece
  pub on : IsWay files (checked files edits asked) name_alone pieces left done begun held log log_now
  pub seen : now ≡ pieces_added 1 done first
  pub many : place ≡ 1 + length done

module _ (files : Files) (edits : Bool) (asked : Asked) (pieces : List Piece) (first : PartSeen) (begun : Cache) (log : Option (List Read)) where
  abbrev AreAdded : List CheckedPiece → PartTracks → Type 0
  AreAdded cs p = part_seen p ≡ pieces_added 1 cs first

  pub later_begins : IsLaterWalk files edits asked pieces pieces 1 first first begun begun log log
  later_begins = record { done = []; on = ways_begin files (checked files edits asked) name_alone pieces pieces [] begun log refl refl; seen = refl; many = omega arith }

  module _ (place : ℕ) (now then : PartSeen) (held held_now : Cache) (log_now log_then : Option (List Read)) (p : Piece) (ps left : List Piece) (e : ps ≡ p ∷ left)
      (w : IsLaterWalk files edits asked pieces ps place first now begun held log log_now) where
    abbrev IsThen : CheckedPiece → Unit {0} → Type 0
    IsThen c x = then ≡ part_with place c now

    pub later_on : (x : Unit {0}) → IsPieceTour files edits asked place p now then (Ok x) held held_now log_now log_then → IsLaterWalk files edits asked pieces left (place + 1) first then begun held_now log log_then
    later_on x t =
        let c = t.answered.0 in
        record {
          done = w.done ++ c ∷ [];
          on = way_on files (checked files edits asked) name_alone pieces w.done begun held log log_now p ps left e held_now log_then w.on c (w.done ++ c ∷ []) refl
              (step_ok files IsThen (checked files edits asked p) (name_alone p) held held_now log_now log_then x t);
          seen = t.answered.2 ∙ ap₂ (λ (n : ℕ) (s : PartSeen). part_with n c s) w.many w.seen ∙ sym (pieces-append 1 w.done c first);
          many = omega (arith, w.many, length-append w.done (c ∷ []));
        }

    pub later_refused : (r : Refusal) → IsPieceTour files edits asked place p now then (Err r) held held_now log_now log_then → IsLaterTour files edits asked pieces first (Err r) begun held_now log log_then
    later_refused r t =
        let is = way_refused files (checked files edits asked) name_alone pieces w.done begun held log log_now p ps left e held_now log_then w.on (λ (cs : List CheckedPiece). cs) r
        (step_err files IsThen (checked files edits asked p) (name_alone p) held held_now log_now log_then r t) in
        tour_unmade files AreAdded (each_in_turn (checked files edits asked) pieces) (names_of_steps (checked files edits asked) name_alone pieces) begun held_now log log_then r is.turned is.answered

  pub later_ended : (place : ℕ) (part : PartTracks) (held : Cache) (log_now : Option (List Read)) (ps : List Piece) → ps ≡ [] → IsLaterWalk files edits asked pieces ps place first (part_seen part) begun held log log_now
      → IsLaterTour files edits asked pieces first (Ok part) begun held log log_now
  later_ended place part held log_now ps e w =
      let whole = way_whole files (checked files edits asked) name_alone pieces w.done begun held log log_now (λ (cs : List CheckedPiece). cs) w.done ps e refl w.on in
      tour_stands files AreAdded (each_in_turn (checked files edits asked) pieces) (names_of_steps (checked files edits asked) name_alone pieces) begun held log log_now w.done (Ok part) whole.turned
      (w.done, whole.answered, w.seen)

-- ---- all pieces of a part

module _ (files : Files) (edits : Bool) (m : Mapping) (sequence : ℕ) (pieces : List Piece) where
  pub part_empty : (p : PartTracks) (held : Cache) (log : Option (List Read)) → pieces ≡ [] → part_seen p ≡ record { video = None; audio = None } → IsPartTour files edits m sequence pieces (Ok p) held held log log
  part_empty p held log e seen =
      subst (λ (ps : List Piece). IsPartTour files edits m sequence ps (Ok p) held held log log) (sym e)
      (tour_none files (IsFoundPart m sequence) (Ok (record { first = None; pieces = [] })) p held log (record { first = None; pieces = [] }, refl, seen))

  module _ (first : Piece) (later : List Piece) (is : pieces ≡ first ∷ later) (held middle held_now : Cache) (log log_then log_now : Option (List Read)) where
    pub part_refused : (e : Refusal) → IsFirstTour files edits m sequence first (Err e) held middle log log_then → IsPartTour files edits m sequence pieces (Err e) held middle log log_then
    part_refused e t =
        let names = names_first files (checked_by files edits first) name_alone first later in
        subst (λ (ps : List Piece). IsPartTour files edits m sequence ps (Err e) held middle log log_then) (sym is)
        (tour_failed files (IsFirst m sequence) (IsFoundPart m sequence) (first_found files edits first) (part_found files edits (first ∷ later)) (name_alone first) names.0 (part_names files edits (first ∷ later)) held middle middle log log_then log_then
        e names.1 (λ refused. names.2 e (first_bad files edits first e refused))
        (λ refused. ap (λ (r : Result (Asked × CheckedPiece) Refusal). r >>= λ f. each_in_turn (checked files edits f.0) later >>= λ cs. Ok (record { first = Some f; pieces = f.1 ∷ cs })) refused) t)

    pub part_taken : (r : Asked × PartTracks) (result : Result PartTracks Refusal) → IsFirstTour files edits m sequence first (Ok r) held middle log log_then → IsLaterTour files edits r.0 later (part_seen r.1) result middle held_now log_then log_now
        → IsPartTour files edits m sequence pieces result held held_now log log_now
    part_taken r result t u =
        subst (λ (ps : List Piece). IsPartTour files edits m sequence ps result held held_now log log_now) (sym is)
        (tour_then files (IsFirst m sequence) (IsFoundPart m sequence) (first_found files edits first) (part_found files edits (first ∷ later)) (name_alone first) (names_of_steps (checked files edits r.0) name_alone later)
        (part_names files edits (first ∷ later)) held middle held_now log log_then log_now
        (λ cs (p : PartTracks). part_seen p ≡ pieces_added 1 cs (part_seen r.1)) (each_in_turn (checked files edits r.0) later) r result named t u (whole result))
      where
        found : Asked × CheckedPiece
        found = t.answered.0

        parts : ((loaded files first.name >>= asked_in first) ≡ Ok found.0) × (checked files edits found.0 first ≡ Ok found.1)
        parts = first_parts files edits first found t.answered.1

        by_first : (piece : Piece) → checked_by files edits first piece ≡ checked files edits found.0 piece
        by_first piece = ap (λ (r : Result Asked Refusal). r >>= λ asked. checked files edits asked piece) parts.0

        named : part_names files edits (first ∷ later) ≡ name_alone first ++ names_of_steps (checked files edits r.0) name_alone later
        named =
            names_good files (checked_by files edits first) name_alone first later found.1 (by_first first ∙ parts.1)
            ∙ ap (λ (r : Result Asked Refusal). name_alone first ++ names_of_steps (λ piece. r >>= λ asked. checked files edits asked piece) name_alone later) parts.0
            ∙ ap (λ (asked : Asked). name_alone first ++ names_of_steps (checked files edits asked) name_alone later) (sym t.answered.2.0)

        whole : (result : Result PartTracks Refusal) → StandsFor (λ cs (p : PartTracks). part_seen p ≡ pieces_added 1 cs (part_seen r.1)) result (each_in_turn (checked files edits r.0) later)
            → StandsFor (IsFoundPart m sequence) result (part_found files edits (first ∷ later))
        whole (Ok p) (cs, each, seen) = (
          record { first = Some found; pieces = found.1 ∷ cs },
          ap (λ (r : Result (Asked × CheckedPiece) Refusal). r >>= λ f. each_in_turn (checked files edits f.0) later >>= λ cs. Ok (record { first = Some f; pieces = f.1 ∷ cs })) t.answered.1
              ∙ ap (λ (r : Result (List CheckedPiece) Refusal). r >>= λ cs. Ok (record { first = Some found; pieces = found.1 ∷ cs }))
              (ap (λ (asked : Asked). each_in_turn (checked files edits asked) later) (sym t.answered.2.0) ∙ each),
          pieces_first m sequence found.1 cs (part_seen r.1) (part_seen p) t.answered.2.1 seen,
        )
        whole (Err e) refused = λ memory store.
            ap (λ (r : Result (Asked × CheckedPiece) Refusal). r >>= λ f. each_in_turn (checked files edits f.0) later >>= λ cs. Ok (record { first = Some f; pieces = f.1 ∷ cs })) t.answered.1
            ∙ ap (λ (r : Result (List CheckedPiece) Refusal). r >>= λ cs. Ok (record { first = Some found; pieces = found.1 ∷ cs }))
            (ap (λ (asked : Asked). each_in_turn (checked files edits asked) later) (sym t.answered.2.0) ∙ refused memory store)
