-- Steps that each have turns on files, one after another, from a cache that may hold movies; this project's own.
use Rattle.std.specs.Prelude.{◌≡◌, ℕ, List, ◌++◌, Option, Result, Ok}
use Rattle.vod_types.specs.declared.refusal.Refusal.{Refusal}
use Rattle.vod_types.specs.Results.{◌>>=◌, each_in_turn}
use Rattle.vod_source.specs.Stored.{Files, Read}
use Rattle.origin_model.specs.Reads.{Cache}
use Rattle.flat_lists.specs.Steps.{names_through}
use Rattle.vod_plan.specs.Turned.{AreTurns}

-- What is left of the steps: these elements, when so much was gained by turns on these names.
pub record IsWay {X Y : Type 0} (files : Files) (due : X → Result Y Refusal) (names : X → List (List ℕ)) (all left : List X) (done : List Y) (held held_now : Cache) (log log_now : Option (List Read)) : Type 0 where
  pub rest : each_in_turn due all ≡ (each_in_turn due left >>= λ later. Ok (done ++ later))
  pub before : List (List ℕ)
  pub names_are : names_through due names all ≡ before ++ names_through due names left
  pub turned : AreTurns {X = Unit {0}} files before (Ok tt) held held_now log log_now
