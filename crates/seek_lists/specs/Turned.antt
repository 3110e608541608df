-- What a call that has turns on files came to; this project's own.
use Rattle.std.specs.Prelude.{ℕ, List, Option, Result}
use Rattle.vod_types.specs.declared.refusal.Refusal.{Refusal}
use Rattle.vod_source.specs.Calls.{AnswersUnlessFailed}
use Rattle.vod_source.specs.Stored.{Files, Read}
use Rattle.origin_model.specs.Reads.{Cache}
use Rattle.vod_plan.specs.Turned.{AreTurns}

-- What was due of it is what it answered, and these are the names of the files on which it had turns.
pub record IsTurned {X Y : Type 0} (files : Files) (view : X → Y) (due : Result Y Refusal) (names : List (List ℕ)) (result : Result X Refusal) (held held_now : Cache) (log log_now : Option (List Read)) : Type 0 where
  pub answered : AnswersUnlessFailed view result due
  pub turned : AreTurns files names result held held_now log log_now
