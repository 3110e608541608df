-- What a call that reads files came to: a store may fail in it, and memory may run out.
use Rattle.std.specs.Prelude.{◌≡◌, ◌≢◌, List, Option, Result, Ok, Err}
use Rattle.vod_types.specs.declared.refusal.Refusal.{Refusal}
use Rattle.vod_types.specs.declared.refusal.Refusal.TheVariants.{NoMemory, StoreFailed}
use Rattle.vod_source.specs.Stored.{Read}
use Rattle.vod_source.specs.Told.{told_with, GrewByPrefix}

-- what it answered, seen by view, is what is due, unless the store failed or memory ran out
abbrev pub AnswersUnlessFailed : {X Y : Type 0} → (X → Y) → Result X Refusal → Result Y Refusal → Type 0
AnswersUnlessFailed view (Ok x) due = due ≡ Ok (view x)
AnswersUnlessFailed view (Err e) due = e ≢ NoMemory → e ≢ StoreFailed → due ≡ Err e

-- the log gained these reads, and a prefix of them where the store failed or memory ran out
abbrev pub LogsReads : {X : Type 0} → Result X Refusal → List Read → Option (List Read) → Option (List Read) → Type 0
LogsReads (Ok x) reads before now = now ≡ told_with before reads
LogsReads (Err e) reads before now = GrewByPrefix before now reads × (e ≢ NoMemory → e ≢ StoreFailed → now ≡ told_with before reads)

-- What was due of a call is what it answered, and these reads were made for it.
pub record Came {X Y : Type 0} (view : X → Y) (result : Result X Refusal) (due : Result Y Refusal) (reads : List Read) (log log_now : Option (List Read)) : Type 0 where
  pub answered : AnswersUnlessFailed view result due
  pub logged : LogsReads result reads log log_now
