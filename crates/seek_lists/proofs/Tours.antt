-- Calls that have turns on the files of several pieces: what they come to together.
use Rattle.std.proofs.Common.{◌≡◌, ◌≢◌, ℕ, List, [], ◌∷◌, ◌++◌, map, Option, Result, Ok, Err, refl, sym, ap, ap₂, ◌∙◌, subst}
use Rattle.std.proofs.lemmas.List.{map-append}
use Rattle.vod_types.specs.declared.refusal.Refusal.{Refusal}
use Rattle.vod_types.specs.declared.refusal.Refusal.TheVariants.{NoMemory, StoreFailed}
use Rattle.vod_types.specs.Results.{◌>>=◌, each_in_turn}
use Rattle.vod_source.specs.Stored.{Files, Read}
use Rattle.origin_model.specs.Reads.{Cache}
use Rattle.flat_lists.specs.Tours.{StandsFor, names_of_steps}
use Rattle.vod_plan.specs.Turned.{AreTurns}
use Rattle.vod_plan.proofs.CacheLemmas.{turned_all, turned_begin, turned_ended, turned_then, turned_unbegun}
use Rattle.seek_lists.specs.Tours.{IsTour}
use Rattle.seek_lists.specs.Turned.{IsTurned}
use Rattle.seek_lists.specs.Ways.{IsWay}
use Rattle.seek_lists.proofs.Turns.{unbegun}
use Rattle.seek_lists.proofs.Ways.{ways_begin, way_on, way_refused, way_whole}

module _ (files : Files) {R Y : Type 0} (Is : Y → R → Type 0) (due : Result Y Refusal) (names : List (List ℕ)) (held now : Cache) (log log_now : Option (List Read)) where
  -- all turns were taken
  pub tour_stands : {Z : Type 0} (z : Z) (r : Result R Refusal) → AreTurns files names (Ok z) held now log log_now → StandsFor Is r due → IsTour files Is due names r held now log log_now
  tour_stands z r turned stands = record { answered = stands; turned = turned_all files z r names held now log log_now turned }

  -- or one was refused
  pub tour_unmade : {Z : Type 0} (e : Refusal) → AreTurns {X = Z} files names (Err e) held now log log_now → (e ≢ NoMemory → e ≢ StoreFailed → due ≡ Err e) → IsTour files Is due names (Err e) held now log log_now
  tour_unmade e turned known = record { answered = known; turned = record { logged = turned.logged; cache = turned.cache } }

  -- a tour as one step of several
  pub step_ok : (r : R) (t : IsTour files Is due names (Ok r) held now log log_now) → IsTurned files (λ (y : Y). y) due names (Ok t.answered.0) held now log log_now
  step_ok r t = record { answered = t.answered.1; turned = turned_all files r (Ok t.answered.0) names held now log log_now t.turned }

  pub step_err : (e : Refusal) → IsTour files Is due names (Err e) held now log log_now → IsTurned {X = Y} files (λ (y : Y). y) due names (Err e) held now log log_now
  step_err e t = record { answered = t.answered; turned = record { logged = t.turned.logged; cache = t.turned.cache } }

-- a call without a turn
pub tour_none : (files : Files) {R Y : Type 0} (Is : Y → R → Type 0) (due : Result Y Refusal) (r : R) (held : Cache) (log : Option (List Read)) → StandsFor Is (Ok r) due → IsTour files Is due [] (Ok r) held held log log
tour_none files Is due r held log stands = record { answered = stands; turned = turned_all files tt (Ok r) [] held held log log (turned_begin files held log) }

-- a call that is refused before it reads
pub tour_unread : (files : Files) {R Y : Type 0} (Is : Y → R → Type 0) (due : Result Y Refusal) (names : List (List ℕ)) (e : Refusal) (held : Cache) (log : Option (List Read))
    → (e ≢ NoMemory → (due ≡ Err e) × (names ≡ [])) → IsTour files Is due names (Err e) held held log log
tour_unread files {Y} Is due names e held log refused =
    let is = unbegun {X = Y} files (λ (y : Y). y) due names held log e (λ memory. (refused memory).0) (λ memory. (refused memory).1) in
    record { answered = is.answered; turned = record { logged = is.turned.logged; cache = is.turned.cache } }

-- ---- one call after another

module _ (files : Files) {R Y S Z : Type 0} (Is : Y → R → Type 0) (Are : Z → S → Type 0) (first : Result Y Refusal) (due : Result Z Refusal) (front back all : List (List ℕ)) (held middle now : Cache)
    (log log_then log_now : Option (List Read)) where
  -- the first call was refused, or cut short
  pub tour_failed : (e : Refusal) → all ≡ front ++ back → (first ≡ Err e → back ≡ []) → (first ≡ Err e → due ≡ Err e) → IsTour files Is first front (Err e) held middle log log_then
      → IsTour files Are due all (Err e) held middle log log_then
  tour_failed e named none whole t = record {
    answered = λ memory store. whole (t.answered memory store);
    turned = subst (λ (ns : List (List ℕ)). AreTurns {X = S} files ns (Err e) held middle log log_then) (sym named)
        (turned_ended files S e front back held middle log log_then (record { logged = t.turned.logged; cache = t.turned.cache }) (λ memory store. none (t.answered memory store)));
  }

  -- it wasn't
  pub tour_then : {W : Type 0} (Then : W → S → Type 0) (second : Result W Refusal) (r : R) (result : Result S Refusal) → all ≡ front ++ back → IsTour files Is first front (Ok r) held middle log log_then
      → IsTour files Then second back result middle now log_then log_now → (StandsFor Then result second → StandsFor Are result due) → IsTour files Are due all result held now log log_now
  tour_then Then second r result named t u whole = record {
    answered = whole u.answered;
    turned = subst (λ (ns : List (List ℕ)). AreTurns files ns result held now log log_now) (sym named)
        (turned_then files r result front back held middle now log log_then log_now t.turned u.turned);
  }

-- ---- a call that hands on what another one found

module _ (files : Files) {R Y S Z : Type 0} (Is : Y → R → Type 0) (Are : Z → S → Type 0) (due : Result Y Refusal) (g : Y → Z) (names : List (List ℕ)) (held now : Cache) (log log_now : Option (List Read)) where
  pub tour_ok : (r : R) (s : S) → ((y : Y) → Is y r → Are (g y) s) → IsTour files Is due names (Ok r) held now log log_now → IsTour files Are (due >>= λ y. Ok (g y)) names (Ok s) held now log log_now
  tour_ok r s are t = record {
    answered = (g t.answered.0, ap (λ (d : Result Y Refusal). d >>= λ y. Ok (g y)) t.answered.1, are t.answered.0 t.answered.2);
    turned = turned_all files r (Ok s) names held now log log_now t.turned;
  }

  pub tour_err : (e : Refusal) → IsTour files Is due names (Err e) held now log log_now → IsTour files Are (due >>= λ y. Ok (g y)) names (Err e) held now log log_now
  tour_err e t = record {
    answered = λ memory store. ap (λ (d : Result Y Refusal). d >>= λ y. Ok (g y)) (t.answered memory store);
    turned = record { logged = t.turned.logged; cache = t.turned.cache };
  }

-- ---- steps whose values are kept in a list

pub record IsListWalk {X Y V : Type 0} (files : Files) (f : X → Result Y Refusal) (looks : X → List (List ℕ)) (kept : Y → V) (all left : List X) (seen : List V) (begun held : Cache) (log log_now : Option (List Read)) : Type 0 where
  pub done : List Y
  pub on : IsWay files f looks all left done begun held log log_now
  pub seen_is : seen ≡ map kept done

module _ {X Y V : Type 0} (files : Files) (f : X → Result Y Refusal) (looks : X → List (List ℕ)) (kept : Y → V) (all : List X) (begun : Cache) (log : Option (List Read)) where
  abbrev Kept : {S : Type 0} → (S → List V) → List Y → S → Type 0
  Kept items ys r = items r ≡ map kept ys

  abbrev IsAll : {S : Type 0} → (S → List V) → Result S Refusal → Cache → Option (List Read) → Type 0
  IsAll items result now log_now = IsTour files (Kept items) (each_in_turn f all) (names_of_steps f looks all) result begun now log log_now

  pub list_begins : (seen : List V) → seen ≡ [] → IsListWalk files f looks kept all all seen begun begun log log
  list_begins seen none = record { done = []; on = ways_begin files f looks all all [] begun log refl refl; seen_is = none }

  module _ (left : List X) (seen : List V) (held : Cache) (log_now : Option (List Read)) (w : IsListWalk files f looks kept all left seen begun held log log_now) where
    -- memory ran out between steps
    pub list_cut : {S : Type 0} (items : S → List V) (e : Refusal) → e ≡ NoMemory → IsAll items (Err e) held log_now
    list_cut {S} items e none = record {
      answered = λ memory. absurd (memory none);
      turned = subst (λ (ns : List (List ℕ)). AreTurns {X = S} files ns (Err e) begun held log log_now) (sym w.on.names_are)
          (turned_then files tt (Err e) w.on.before (names_of_steps f looks left) begun held held log log_now log_now w.on.turned (turned_unbegun files S e (names_of_steps f looks left) held log_now none));
    }

    pub list_ended : {S : Type 0} (items : S → List V) (r : S) → left ≡ [] → items r ≡ seen → IsAll items (Ok r) held log_now
    list_ended items r none are =
        let whole = way_whole files f looks all w.done begun held log log_now (λ (ys : List Y). ys) w.done left none refl w.on in
        record {
          answered = (w.done, whole.answered, are ∙ w.seen_is);
          turned = turned_all files w.done (Ok r) (names_of_steps f looks all) begun held log log_now whole.turned;
        }

    module _ {R : Type 0} (Is : Y → R → Type 0) (x : X) (rest : List X) (at : left ≡ x ∷ rest) (now : Cache) (log_then : Option (List Read)) where
      pub list_on : (r : R) (v : V) (then : List V) → ((y : Y) → Is y r → v ≡ kept y) → then ≡ seen ++ v ∷ [] → IsTour files Is (f x) (looks x) (Ok r) held now log_now log_then
          → IsListWalk files f looks kept all rest then begun now log log_then
      list_on r v then is more t = record {
        done = w.done ++ t.answered.0 ∷ [];
        on = way_on files f looks all w.done begun held log log_now x left rest at now log_then w.on t.answered.0 (w.done ++ t.answered.0 ∷ []) refl (step_ok files Is (f x) (looks x) held now log_now log_then r t);
        seen_is = more ∙ ap₂ (λ (vs : List V) (v : V). vs ++ v ∷ []) w.seen_is (is t.answered.0 t.answered.2) ∙ sym (map-append kept w.done (t.answered.0 ∷ []));
      }

      pub list_refused : {S : Type 0} (items : S → List V) (e : Refusal) → IsTour files Is (f x) (looks x) (Err e) held now log_now log_then → IsAll items (Err e) now log_then
      list_refused items e t =
          let is = way_refused files f looks all w.done begun held log log_now x left rest at now log_then w.on (λ (ys : List Y). ys) e (step_err files Is (f x) (looks x) held now log_now log_then e t) in
          record { answered = is.answered; turned = record { logged = is.turned.logged; cache = is.turned.cache } }
