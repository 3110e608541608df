-- Steps that each have turns on files, one after another; this project's own.
use Rattle.std.specs.Prelude.{◌≡◌, ℕ, List, [], ◌++◌, flat_map, Option, is_err, Result, Ok, Err}
use Rattle.vod_types.specs.declared.refusal.Refusal.{Refusal}
use Rattle.vod_types.specs.Lists.{through_first}
use Rattle.vod_types.specs.Results.{◌>>=◌, each_in_turn}
use Rattle.vod_source.specs.Calls.{AnswersUnlessFailed, LogsReads}
use Rattle.vod_source.specs.Stored.{Files, Read}
use Rattle.vod_source.specs.Told.{told_with}
use Rattle.origin_model.specs.Reads.{turns}
use Rattle.flat_samples.specs.Movies.{HeldMovie, AreTrue, names_held}

-- after an Ok the names that are held are those after the turns
abbrev pub NamesAfterTurns : {Y : Type 0} → Files → List (List ℕ) → Result Y Refusal → List HeldMovie → List HeldMovie → Type 0
NamesAfterTurns files names (Ok y) held held_now = names_held held_now ≡ (turns files (names_held held) names).cache
NamesAfterTurns files names (Err e) held held_now = Unit {0}

-- a step that came to what is due, by turns on files of these names
pub record IsStep {Y : Type 0} (files : Files) (due : Result Y Refusal) (names : List (List ℕ)) (result : Result Y Refusal) (held held_now : List HeldMovie) (log log_now : Option (List Read)) : Type 0 where
  pub true_now : AreTrue files held_now
  pub answered : AnswersUnlessFailed (λ y. y) result due
  pub held_names : NamesAfterTurns files names result held held_now
  pub logged : LogsReads result (turns files (names_held held) names).reads log log_now

-- the names of the steps that are taken: through the first that is refused
abbrev pub names_through : {X Y : Type 0} → (X → Result Y Refusal) → (X → List (List ℕ)) → List X → List (List ℕ)
names_through due names xs = flat_map names (through_first (λ x. is_err (due x)) xs)

-- What is left of the steps: these elements, over the movies that are held, when so much was gained and so many reads were made.
pub record IsPath {X Y : Type 0} (files : Files) (due : X → Result Y Refusal) (names : X → List (List ℕ)) (xs left : List X) (held : List HeldMovie) (done : List Y) (log log_now : Option (List Read)) : Type 0 where
  pub true_now : AreTrue files held
  pub rest : each_in_turn due xs ≡ (each_in_turn due left >>= λ later. Ok (done ++ later))
  pub made : List Read
  pub reads : (turns files [] (names_through due names xs)).reads ≡ made ++ (turns files (names_held held) (names_through due names left)).reads
  pub logged : log_now ≡ told_with log made
