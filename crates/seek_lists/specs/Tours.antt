-- Calls that have turns on the files of several pieces, one after another; this project's own.
use Rattle.std.specs.Prelude.{ℕ, List, Option, Result}
use Rattle.vod_types.specs.declared.refusal.Refusal.{Refusal}
use Rattle.vod_source.specs.Stored.{Files, Read}
use Rattle.origin_model.specs.Reads.{Cache}
use Rattle.flat_lists.specs.Tours.{StandsFor}
use Rattle.vod_plan.specs.Turned.{AreTurns}

-- What it answered stands for what is due, and it had a turn on each of these names.
pub record IsTour {R Y : Type 0} (files : Files) (Is : Y → R → Type 0) (due : Result Y Refusal) (names : List (List ℕ)) (result : Result R Refusal) (held held_now : Cache) (log log_now : Option (List Read)) : Type 0 where
  pub answered : StandsFor Is result due
  pub turned : AreTurns files names result held held_now log log_now
