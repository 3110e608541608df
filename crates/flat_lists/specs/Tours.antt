-- Calls that look at the files of several pieces, one after another, over the movies that are held; this project's own.
use Rattle.std.specs.Prelude.{◌≡◌, ◌≢◌, ℕ, List, [], ◌++◌, flat_map, is_err, Option, Result, Ok, Err}
use Rattle.vod_types.specs.declared.refusal.Refusal.{Refusal}
use Rattle.vod_types.specs.declared.refusal.Refusal.TheVariants.{NoMemory, StoreFailed}
use Rattle.vod_types.specs.Lists.{through_first}
use Rattle.vod_types.specs.Results.{◌>>=◌, each_in_turn}
use Rattle.vod_source.specs.Calls.{LogsReads}
use Rattle.vod_source.specs.Stored.{Files, Read}
use Rattle.vod_source.specs.Told.{told_with}
use Rattle.origin_model.specs.Reads.{turns}
use Rattle.flat_samples.specs.Movies.{HeldMovie, AreTrue, names_held}

-- what was answered stands for what is due, unless the store failed or memory ran out
abbrev pub StandsFor : {R Y : Type 0} → (Y → R → Type 0) → Result R Refusal → Result Y Refusal → Type 0
StandsFor {Y = Y} Is (Ok r) due = (y : Y) × (due ≡ Ok y) × Is y r
StandsFor Is (Err e) due = e ≢ NoMemory → e ≢ StoreFailed → due ≡ Err e

-- after an Ok the names that are held are those after the turns
abbrev pub HeldAfter : {R : Type 0} → Files → List (List ℕ) → Result R Refusal → List HeldMovie → List HeldMovie → Type 0
HeldAfter files names (Ok r) held held_now = names_held held_now ≡ (turns files (names_held held) names).cache
HeldAfter files names (Err e) held held_now = Unit {0}

-- a call that has a turn on each of these names, and then no other is due
pub record IsTour {R Y : Type 0} (files : Files) (Is : Y → R → Type 0) (due : Result Y Refusal) (names : List (List ℕ)) (result : Result R Refusal) (held held_now : List HeldMovie) (log log_now : Option (List Read)) : Type 0 where
  pub true_now : AreTrue files held_now
  pub answered : StandsFor Is result due
  pub names_now : HeldAfter files names result held held_now
  pub logged : LogsReads result (turns files (names_held held) names).reads log log_now

-- the same over no movie that is held, whatever it leaves
pub record IsWholeTour {R Y : Type 0} (files : Files) (Is : Y → R → Type 0) (due : Result Y Refusal) (names : List (List ℕ)) (result : Result R Refusal) (log log_now : Option (List Read)) : Type 0 where
  pub answered : StandsFor Is result due
  pub logged : LogsReads result (turns files [] names).reads log log_now

-- the names that are looked at for steps, through the first that is refused
abbrev pub names_of_steps : {X Y : Type 0} → (X → Result Y Refusal) → (X → List (List ℕ)) → List X → List (List ℕ)
names_of_steps f looks xs = flat_map looks (through_first (λ x. is_err (f x)) xs)

-- What is left of steps: these, over the movies that are held, when so many reads were made.
pub record IsOnTour {X Y : Type 0} (files : Files) (f : X → Result Y Refusal) (looks : X → List (List ℕ)) (all left : List X) (done : List Y) (begun held : List HeldMovie) (log log_now : Option (List Read)) : Type 0 where
  pub true_now : AreTrue files held
  pub rest : each_in_turn f all ≡ (each_in_turn f left >>= λ later. Ok (done ++ later))
  pub made : List Read
  pub reads : (turns files (names_held begun) (names_of_steps f looks all)).reads ≡ made ++ (turns files (names_held held) (names_of_steps f looks left)).reads
  pub names_now : (turns files (names_held begun) (names_of_steps f looks all)).cache ≡ (turns files (names_held held) (names_of_steps f looks left)).cache
  pub logged : log_now ≡ told_with log made
