-- What a turn on a file leaves.
use Rattle.std.proofs.Common.{◌≡◌, ℕ, zero, suc, Bool, true, false, not, List, [], ◌∷◌, take, Option, Some, None, IfSome, Result, Ok, Err, refl, sym, ap, subst, ◌∙◌}
use Rattle.std.specs.Prelude.{filter, slice_get, bytes_eq, is_ok, OnOk, IfErr}
use Rattle.std.specs.List.{remove, AllByRecursion}
use Rattle.std.proofs.lemmas.List.{take-map}
use Rattle.vod_types.specs.declared.refusal.Refusal.{Refusal}
use Rattle.vod_types.specs.declared.refusal.Refusal.TheVariants.{NoMemory}
use Rattle.vod_types.specs.Results.{◌>>=◌}
use Rattle.mp4_model.specs.Movie.{Movie}
use Rattle.vod_source.specs.Stored.{Files, Read}
use Rattle.vod_source.specs.Told.{told_with, GrewByPrefix}
use Rattle.vod_source.proofs.ToldLemmas.{told_with-nil, GrewByPrefix-whole}
use Rattle.origin_model.specs.Loaded.{loaded}
use Rattle.origin_model.specs.Reads.{Turned, file_turn_reads, turn, turn_by}
use Rattle.vod_source.specs.Calls.{Came}
use Rattle.flat_samples.specs.Held.{is_held, IsPlaceOf}
use Rattle.flat_samples.specs.Movies.{HeldMovie, names_held, AreTrue, IsTurn}
use Rattle.flat_samples.proofs.FaultPlaces.{all_get, all_take}

all_remove : {X : Type 0} (P : X → Type 0) (xs : List X) (i : ℕ) → AllByRecursion P xs → AllByRecursion P (remove xs i)
all_remove P [] zero a = tt
all_remove P [] (suc i) a = tt
all_remove P (x ∷ xs) zero a = a.1
all_remove P (x ∷ xs) (suc i) a = (a.0, all_remove P xs i a.1)

module _ (files : Files) (name : List ℕ) (held : List HeldMovie) where
  -- ---- the definition by cases

  abbrev turned : Turned
  turned = turn files (names_held held) name

  abbrev others : List (List ℕ)
  others = filter (λ (other : List ℕ). not (bytes_eq other name)) (names_held held)

  turn-held : is_held name held ≡ true → turned ≡ record { reads = []; cache = name ∷ others }
  unfolding turn
  turn-held e = rw e refl

  turn-other : (loads : Bool) → is_held name held ≡ false → is_ok (loaded files name) ≡ loads → turned ≡ turn_by files false loads (names_held held) name
  unfolding turn
  turn-other loads e is = rw (e, is) refl

  turn-reads : is_held name held ≡ false → turned.reads ≡ file_turn_reads files name
  turn-reads e = go (is_ok (loaded files name)) refl
    where
      go : (loads : Bool) → is_ok (loaded files name) ≡ loads → turned.reads ≡ file_turn_reads files name
      go true is = ap (λ (t : Turned). t.reads) (turn-other true e is)
      go false is = ap (λ (t : Turned). t.reads) (turn-other false e is)

  -- ---- the cases of a turn

  abbrev Holds : HeldMovie → Type 0
  Holds h = loaded files h.name ≡ Ok h.movie

  abbrev Loads : Result HeldMovie Refusal → Option (List Read) → Option (List Read) → Type 0
  Loads result log log_now = Came (λ (m : HeldMovie). m.movie) result (loaded files name) (file_turn_reads files name) log log_now

  abbrev Turns : Result (Unit {0}) Refusal → List HeldMovie → Option (List Read) → Option (List Read) → Type 0
  Turns result now log log_now = IsTurn files name result held now log log_now

  abbrev and_then_nothing : Result Movie Refusal → Result (Unit {0}) Refusal
  and_then_nothing r = r >>= λ m. Ok tt

  module _ (all : AreTrue files held) (log log_now : Option (List Read)) where
    was_held : (place : ℕ) (p : IsPlaceOf name held place) (now : List HeldMovie) → now ≡ p.found ∷ remove held place → Turns (Ok tt) now log log
    was_held place p now new =
        let it = all_get Holds held place p.found all p.at in
        let loads : loaded files name ≡ Ok p.found.movie = subst (λ (n : List ℕ). loaded files n ≡ Ok p.found.movie) p.named it in
        record {
          true_now = subst (AllByRecursion Holds) (sym new) (it, all_remove Holds held place all);
          answered = ap and_then_nothing loads;
          front = (p.found, ap (λ (hs : List HeldMovie). slice_get hs 0) new, p.named, loads);
          names =
              ap names_held new
              ∙ ap (λ (n : List ℕ). n ∷ names_held (remove held place)) p.named
              ∙ ap (λ (ns : List (List ℕ)). name ∷ ns) (sym p.others)
              ∙ ap (λ (t : Turned). t.cache) (sym (turn-held p.is_held));
          logged = sym (told_with-nil log) ∙ ap (λ (t : Turned). told_with log t.reads) (sym (turn-held p.is_held));
        }

    was_loaded : (m : HeldMovie) (result : Result (Unit {0}) Refusal) (now : List HeldMovie) → is_held name held ≡ false → m.name ≡ name → Loads (Ok m) log log_now
        → OnOk result (now ≡ take 16 (m ∷ held)) → IfErr result (λ r. r ≡ NoMemory) → IfErr result (λ r. now ≡ held) → Turns result now log log_now
    was_loaded m (Ok x) now other named came new only same =
        let it : Holds m = subst (λ (n : List ℕ). loaded files n ≡ Ok m.movie) (sym named) came.answered in
        let loads : is_ok (loaded files name) ≡ true = ap (λ (r : Result Movie Refusal). is_ok r) came.answered in
        record {
          true_now = subst (AllByRecursion Holds) (sym new) (all_take Holds 16 (m ∷ held) (it, all));
          answered = ap and_then_nothing came.answered;
          front = (m, ap (λ (hs : List HeldMovie). slice_get hs 0) new, named, came.answered);
          names =
              ap names_held new
              ∙ sym (take-map (λ (h : HeldMovie). h.name) 16 (m ∷ held))
              ∙ ap (λ (n : List ℕ). take 16 (n ∷ names_held held)) named
              ∙ ap (λ (t : Turned). t.cache) (sym (turn-other true other loads));
          logged = came.logged ∙ ap (told_with log) (sym (turn-reads other));
        }
    was_loaded m (Err r) now other named came new only same =
        let reads : log_now ≡ told_with log turned.reads = came.logged ∙ ap (told_with log) (sym (turn-reads other)) in
        record {
          true_now = subst (AllByRecursion Holds) (sym same) all;
          answered = λ memory store. absurd (memory only);
          front = tt;
          names = λ memory store. absurd (memory only);
          logged = (GrewByPrefix-whole log log_now turned.reads reads, λ memory store. reads);
        }

    not_loaded : (r : Refusal) → is_held name held ≡ false → Loads (Err r) log log_now → Turns (Err r) held log log_now
    not_loaded r other came = record {
      true_now = all;
      answered = λ memory store. ap and_then_nothing (came.answered memory store);
      front = tt;
      names = λ memory store.
          let loads : is_ok (loaded files name) ≡ false = ap (λ (l : Result Movie Refusal). is_ok l) (came.answered memory store) in
          ap (λ (t : Turned). t.cache) (sym (turn-other false other loads));
      logged = (
        subst (GrewByPrefix log log_now) (sym (turn-reads other)) came.logged.0,
        λ memory store. came.logged.1 memory store ∙ ap (told_with log) (sym (turn-reads other)),
      );
    }

-- ---- where the store tells its files

module _ (name : List ℕ) (held : List HeldMovie) where
  abbrev TellsTurn : Option Files → Result (Unit {0}) Refusal → List HeldMovie → Option (List Read) → Option (List Read) → Type 0
  TellsTurn content result now log log_now = IfSome content (λ known. AreTrue known held → IsTurn known name result held now log log_now)

  abbrev TellsLoad : Option Files → Result HeldMovie Refusal → Option (List Read) → Option (List Read) → Type 0
  TellsLoad content result log log_now = IfSome content (λ known. Came (λ (m : HeldMovie). m.movie) result (loaded known name) (file_turn_reads known name) log log_now)

  pub told-was_held : (content : Option Files) (log : Option (List Read)) (place : ℕ) (p : IsPlaceOf name held place) (now : List HeldMovie) → now ≡ p.found ∷ remove held place → TellsTurn content (Ok tt) now log log
  told-was_held None log place p now new = tt
  told-was_held (Some known) log place p now new = λ all. was_held known name held all log log place p now new

  pub told-was_loaded : (content : Option Files) (log log_now : Option (List Read)) (m : HeldMovie) (result : Result (Unit {0}) Refusal) (now : List HeldMovie) → is_held name held ≡ false → m.name ≡ name
      → TellsLoad content (Ok m) log log_now → OnOk result (now ≡ take 16 (m ∷ held)) → IfErr result (λ r. r ≡ NoMemory) → IfErr result (λ r. now ≡ held) → TellsTurn content result now log log_now
  told-was_loaded None log log_now m result now other named came new only same = tt
  told-was_loaded (Some known) log log_now m result now other named came new only same = λ all. was_loaded known name held all log log_now m result now other named came new only same

  pub told-not_loaded : (content : Option Files) (log log_now : Option (List Read)) (r : Refusal) → is_held name held ≡ false → TellsLoad content (Err r) log log_now → TellsTurn content (Err r) held log log_now
  told-not_loaded None log log_now r other came = tt
  told-not_loaded (Some known) log log_now r other came = λ all. not_loaded known name held all log log_now r other came
