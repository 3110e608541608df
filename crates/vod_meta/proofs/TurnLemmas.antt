-- What a turn on a file leaves.
use Rattle.std.proofs.Common.{◌≡◌, ℕ, Bool, true, false, cond, not, List, [], ◌∷◌, take, Option, Some, None, IfSome, Result, Ok, Err, refl, sym, ap, subst, ◌∙◌}
use Rattle.std.specs.Prelude.{filter, bytes_eq, is_ok, is_some, IfOk, OnOk, OnErr, IfErr}
use Rattle.std.specs.List.{AllByRecursion}
use Rattle.std.proofs.lemmas.List.{take-map}
use Rattle.vod_types.specs.declared.refusal.Refusal.{Refusal}
use Rattle.vod_types.specs.declared.refusal.Refusal.TheVariants.{NoMemory}
use Rattle.mp4_model.specs.Movie.{Movie}
use Rattle.vod_source.specs.Calls.{Came}
use Rattle.vod_source.specs.Stored.{Files, Read}
use Rattle.vod_source.specs.Told.{told_with, GrewByPrefix}
use Rattle.vod_source.proofs.ToldLemmas.{told_with-nil, GrewByPrefix-same, GrewByPrefix-whole}
use Rattle.origin_model.specs.Loaded.{loaded}
use Rattle.origin_model.specs.Reads.{Turned, file_turn_reads, turn, turn_by}
use Rattle.vod_meta.specs.Cached.{find_held, is_held, without, IsBrought}
use Rattle.vod_meta.specs.Held.{HeldMovie, names_held, AreTrue}
use Rattle.vod_meta.proofs.FaultPlaces.{all_take}
use Rattle.vod_meta.proofs.HeldLemmas.{found_held}

module _ (P : HeldMovie → Type 0) (name : List ℕ) where
  all_found : (held : List HeldMovie) (h : HeldMovie) → AllByRecursion P held → find_held name held ≡ Some h → P h
  all_found [] h a e = absurd cc
  all_found (x ∷ held) h a e = go (bytes_eq name x.name) e (λ rest. all_found held h a.1 rest)
    where
      go : (t : Bool) → cond t (Some x) (find_held name held) ≡ Some h → (find_held name held ≡ Some h → P h) → P h
      go true e later = let same : x ≡ h = cc e in subst P same a.0
      go false e later = later e

  all_without : (held : List HeldMovie) → AllByRecursion P held → AllByRecursion P (without name held)
  all_without [] a = tt
  all_without (x ∷ held) a = go (bytes_eq name x.name) (all_without held a.1)
    where
      go : (t : Bool) → AllByRecursion P (without name held) → AllByRecursion P (cond t held (x ∷ without name held))
      go true later = a.1
      go false later = (a.0, later)

module _ (files : Files) (name : List ℕ) (held : List HeldMovie) where
  -- ---- the definition by cases

  abbrev turned : Turned
  turned = turn files (names_held held) name

  abbrev others : List (List ℕ)
  others = filter (λ (other : List ℕ). not (bytes_eq other name)) (names_held held)

  turn-held : is_held name held ≡ true → turned ≡ record { reads = []; cache = name ∷ others }
  unfolding turn
  turn-held e = rw e refl

  turn-other : (loads : Bool) → is_held name held ≡ false → is_ok (loaded files name) ≡ loads → turned ≡ turn_by files false loads (names_held held) name
  unfolding turn
  turn-other loads e is = rw (e, is) refl

  turn-reads : is_held name held ≡ false → turned.reads ≡ file_turn_reads files name
  turn-reads e = go (is_ok (loaded files name)) refl
    where
      go : (loads : Bool) → is_ok (loaded files name) ≡ loads → turned.reads ≡ file_turn_reads files name
      go true is = ap (λ (t : Turned). t.reads) (turn-other true e is)
      go false is = ap (λ (t : Turned). t.reads) (turn-other false e is)

  -- ---- the cases of a turn

  abbrev Holds : HeldMovie → Type 0
  Holds h = loaded files h.name ≡ Ok h.movie

  abbrev Loads : Result HeldMovie Refusal → Option (List Read) → Option (List Read) → Type 0
  Loads result log log_now = Came (λ (m : HeldMovie). m.movie) result (loaded files name) (file_turn_reads files name) log log_now

  module _ {X : Type 0} (see : X → HeldMovie) where
    -- what is told of a turn
    pub record Turns (result : Result X Refusal) (now : List HeldMovie) (log log_now : Option (List Read)) : Type 0 where
      pub told : Came (λ (x : X). (see x).movie) result (loaded files name) turned.reads log log_now
      pub names : OnOk result (names_held now ≡ turned.cache)
      pub true_now : AreTrue files now

    module _ (all : AreTrue files held) (log log_now : Option (List Read)) where
      was_held : (x : X) (now : List HeldMovie) → find_held name held ≡ Some (see x) → IsBrought name (see x) held now → Turns (Ok x) now log log
      was_held x now found brought =
          let is : is_held name held ≡ true = sym (found_held name held) ∙ ap is_some found in
          let it = all_found Holds name held (see x) all found in
          record {
            told = record {
              answered = subst (λ (n : List ℕ). loaded files n ≡ Ok (see x).movie) brought.named it;
              logged = sym (told_with-nil log) ∙ ap (λ (t : Turned). told_with log t.reads) (sym (turn-held is));
            };
            names =
                ap names_held brought.is
                ∙ ap (λ (n : List ℕ). n ∷ names_held (without name held)) brought.named
                ∙ ap (λ (ns : List (List ℕ)). name ∷ ns) (sym brought.others)
                ∙ ap (λ (t : Turned). t.cache) (sym (turn-held is));
            true_now = subst (AllByRecursion Holds) (sym brought.is) (it, all_without Holds name held all);
          }

      no_memory : (r : Refusal) → r ≡ NoMemory → Turns (Err r) held log log
      no_memory r is = record {
        told = record {
          answered = λ memory store. absurd (memory is);
          logged = (GrewByPrefix-same log log turned.reads refl, λ memory store. absurd (memory is));
        };
        names = tt;
        true_now = all;
      }

      was_loaded : (m : HeldMovie) (result : Result X Refusal) (now : List HeldMovie) → is_held name held ≡ false → m.name ≡ name → Loads (Ok m) log log_now
          → OnOk result (now ≡ take 16 (m ∷ held)) → IfOk result (λ x. see x ≡ m) → IfErr result (λ r. r ≡ NoMemory) → OnErr result (now ≡ held) → Turns result now log log_now
      was_loaded m (Ok x) now other named came new value only same =
          let it : Holds m = subst (λ (n : List ℕ). loaded files n ≡ Ok m.movie) (sym named) came.answered in
          let loads : is_ok (loaded files name) ≡ true = ap (λ (r : Result Movie Refusal). is_ok r) came.answered in
          record {
            told = record {
              answered = came.answered ∙ ap (λ (h : HeldMovie). Ok h.movie) (sym value);
              logged = came.logged ∙ ap (told_with log) (sym (turn-reads other));
            };
            names =
                ap names_held new
                ∙ sym (take-map (λ (h : HeldMovie). h.name) 16 (m ∷ held))
                ∙ ap (λ (n : List ℕ). take 16 (n ∷ names_held held)) named
                ∙ ap (λ (t : Turned). t.cache) (sym (turn-other true other loads));
            true_now = subst (AllByRecursion Holds) (sym new) (all_take Holds 16 (m ∷ held) (it, all));
          }
      was_loaded m (Err r) now other named came new value only same =
          let reads : log_now ≡ told_with log turned.reads = came.logged ∙ ap (told_with log) (sym (turn-reads other)) in
          record {
            told = record {
              answered = λ memory store. absurd (memory only);
              logged = (GrewByPrefix-whole log log_now turned.reads reads, λ memory store. reads);
            };
            names = tt;
            true_now = subst (AllByRecursion Holds) (sym same) all;
          }

      not_loaded : (r : Refusal) → is_held name held ≡ false → Loads (Err r) log log_now → Turns (Err r) held log log_now
      not_loaded r other came = record {
        told = record {
          answered = came.answered;
          logged = (
            subst (GrewByPrefix log log_now) (sym (turn-reads other)) came.logged.0,
            λ memory store. came.logged.1 memory store ∙ ap (told_with log) (sym (turn-reads other)),
          );
        };
        names = tt;
        true_now = all;
      }

-- ---- where the store tells its files

module _ {X : Type 0} (see : X → HeldMovie) (name : List ℕ) (held : List HeldMovie) where
  abbrev pub Tells : Option Files → Result X Refusal → List HeldMovie → Option (List Read) → Option (List Read) → Type 0
  Tells content result now log log_now = IfSome content (λ files. Turns files name held see result now log log_now)

  abbrev AreTold : Option Files → Type 0
  AreTold content = IfSome content (λ files. AreTrue files held)

  pub tells-was_held : (content : Option Files) (log : Option (List Read)) (x : X) (now : List HeldMovie) → AreTold content → find_held name held ≡ Some (see x) → IsBrought name (see x) held now
      → Tells content (Ok x) now log log
  tells-was_held None log x now all found brought = tt
  tells-was_held (Some files) log x now all found brought = was_held files name held see all log log x now found brought

  pub tells-no_memory : (content : Option Files) (log : Option (List Read)) (r : Refusal) → AreTold content → r ≡ NoMemory → Tells content (Err r) held log log
  tells-no_memory None log r all is = tt
  tells-no_memory (Some files) log r all is = no_memory files name held see all log log r is

  pub tells-was_loaded : (content : Option Files) (log log_now : Option (List Read)) (m : HeldMovie) (result : Result X Refusal) (now : List HeldMovie) → AreTold content → is_held name held ≡ false → m.name ≡ name
      → IfSome content (λ files. Came {X = HeldMovie} (λ h. h.movie) (Ok m) (loaded files name) (file_turn_reads files name) log log_now)
      → OnOk result (now ≡ take 16 (m ∷ held)) → IfOk result (λ x. see x ≡ m) → IfErr result (λ r. r ≡ NoMemory) → OnErr result (now ≡ held) → Tells content result now log log_now
  tells-was_loaded None log log_now m result now all other named came new value only same = tt
  tells-was_loaded (Some files) log log_now m result now all other named came new value only same = was_loaded files name held see all log log_now m result now other named came new value only same

  pub tells-not_loaded : (content : Option Files) (log log_now : Option (List Read)) (r : Refusal) → AreTold content → is_held name held ≡ false
      → IfSome content (λ files. Came {X = HeldMovie} (λ h. h.movie) (Err r) (loaded files name) (file_turn_reads files name) log log_now) → Tells content (Err r) held log log_now
  tells-not_loaded None log log_now r all other came = tt
  tells-not_loaded (Some files) log log_now r all other came = not_loaded files name held see all log log_now r other came

  -- each part of what is told
  module _ (result : Result X Refusal) (now : List HeldMovie) (log log_now : Option (List Read)) where
    pub tells-told : (content : Option Files) → Tells content result now log log_now
        → IfSome content (λ files. Came (λ (x : X). (see x).movie) result (loaded files name) (turn files (names_held held) name).reads log log_now)
    tells-told None told = tt
    tells-told (Some files) told = told.told

    pub tells-names : (content : Option Files) → Tells content result now log log_now → IfSome content (λ files. OnOk result (names_held now ≡ (turn files (names_held held) name).cache))
    tells-names None told = tt
    tells-names (Some files) told = told.names

    pub tells-true : (content : Option Files) → Tells content result now log log_now → IfSome content (λ files. AreTrue files now)
    tells-true None told = tt
    tells-true (Some files) told = told.true_now

-- what was put has the name of what was read
pub named_as : {X : Type 0} (see : X → HeldMovie) (r : Result X Refusal) (m : HeldMovie) (name : List ℕ) → IfOk r (λ x. see x ≡ m) → m.name ≡ name → IfOk r (λ x. (see x).name ≡ name)
named_as see (Ok x) m name same named = ap (λ (h : HeldMovie). h.name) same ∙ named
named_as see (Err e) m name same named = tt
