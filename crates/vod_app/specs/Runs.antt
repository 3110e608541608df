-- How a run ends, what it has written and what it has read; this project's own.
use Rattle.std.specs.Prelude.{◌≡◌, ℕ, Bool, true, false, List, [], Option, None, Result}
use Rattle.vod_types.specs.declared.paths.Leaf.{Leaf}
use Rattle.vod_types.specs.declared.refusal.Refusal.{Refusal}
use Rattle.vod_types.specs.declared.refusal.Refusal.TheVariants as refusals
use Rattle.vod_types.specs.Settled.{Settled}
use Rattle.list_model.specs.Command.{Requested, Outcome, done, usage, refused, store_failed, sink_failed, no_memory, door_failed, outcome_status}
use Rattle.vod_source.specs.Stored.{Files, Read}
use Rattle.origin_model.specs.Answers.{answer, every_leaf, is_index, path_rows}
use Rattle.origin_model.specs.Outcomes.{AreRunReads, Due, GainsDue, GainsLine, GainsReads, due_answer, due_rows, end_refusal, get_due, pack_due, plan_due, settings_named, settings_reads}
use Rattle.origin_model.specs.Packaging.{packed_path}
use Rattle.origin_model.specs.Reads.{AreReads}
use Rattle.origin_model.specs.Requests.{Setup}
use Rattle.vod_source.specs.Calls.{AnswersUnlessFailed, LogsReads}
use Rattle.vod_http.specs.Answered.{Rest}
use Rattle.mp4_flat.specs.declared.entries.PackEnd.{PackEnd}
use Rattle.mp4_flat.specs.declared.entries.PackEnd.TheVariants as packs
use Rattle.vod_app.specs.declared.ends.End.{End}
use Rattle.vod_app.specs.declared.ends.End.TheVariants as ends

-- the outcome that an end stands for
abbrev pub outcome_of : End → Outcome
outcome_of ends.Done = done
outcome_of ends.Usage = usage
outcome_of (ends.Refused r) = refused r
outcome_of ends.StoreFailed = store_failed
outcome_of ends.SinkFailed = sink_failed
outcome_of ends.NoMemory = no_memory
outcome_of ends.DoorFailed = door_failed

-- the outcome of a call that was refused; a failure of the store and want of memory have outcomes of their own
abbrev pub refused_outcome : Refusal → Outcome
refused_outcome refusals.StoreFailed = store_failed
refused_outcome refusals.NoMemory = no_memory
refused_outcome r = refused r

-- the settings that a file holds, or why it is refused, with the reads of it
pub record AreSettingsRead (files : Files) (name : List ℕ) (result : Result Settled Refusal) (log log_now : Option (List Read)) : Type 0 where
  pub answered : AnswersUnlessFailed (λ s. s) result (settings_named files name)
  pub logged : LogsReads result (settings_reads files name) log log_now

-- what is due of a body of which this is left
abbrev pub due_rest : Rest → Due
due_rest rest = (rest.0, end_refusal rest.1)

-- What was written of what is due for a path, and what was read for it, by this outcome.
pub record IsWritten (due : Due) (has_leaf : Leaf → Bool) (o : Setup) (with_body : Bool) (path : List ℕ) (outcome : Outcome) (out out_now : Option (List ℕ)) (log log_now : Option (List Read)) : Type 0 where
  pub wrote : GainsDue due outcome out out_now
  pub reads : List Read
  pub reads_are : AreReads has_leaf o [] with_body path None reads
  pub logged : GainsReads reads outcome log log_now

-- of the answer of a path
abbrev pub IsAnswerWritten : Setup → List ℕ → Outcome → Option (List ℕ) → Option (List ℕ) → Option (List Read) → Option (List Read) → Type 0
IsAnswerWritten o path outcome out out_now log log_now = IsWritten (due_answer (answer o path None)) every_leaf o true path outcome out out_now log log_now

-- of the listed rows of a path
abbrev pub IsPlanWritten : Setup → List ℕ → Outcome → Option (List ℕ) → Option (List ℕ) → Option (List Read) → Option (List Read) → Type 0
IsPlanWritten o path outcome out out_now log log_now = IsWritten (due_rows (path_rows o path)) is_index o false path outcome out out_now log log_now

-- What a run wrote of what is due, and what it read for the settings and the request, by this outcome.
pub record IsRun (due : Due) (has_leaf : Leaf → Bool) (files : Files) (q : Requested) (with_body : Bool) (outcome : Outcome) (out out_now : Option (List ℕ)) (log log_now : Option (List Read)) : Type 0 where
  pub wrote : GainsDue due outcome out out_now
  pub reads : List Read
  pub reads_are : AreRunReads files q has_leaf with_body reads
  pub logged : GainsReads reads outcome log log_now

-- what `get` wrote and read by this outcome
abbrev pub IsGet : Files → Requested → Outcome → Option (List ℕ) → Option (List ℕ) → Option (List Read) → Option (List Read) → Type 0
IsGet files q outcome out out_now log log_now = IsRun (get_due files q) every_leaf files q true outcome out out_now log log_now

-- what `plan` wrote and read by this outcome
abbrev pub IsPlan : Files → Requested → Outcome → Option (List ℕ) → Option (List ℕ) → Option (List Read) → Option (List Read) → Type 0
IsPlan files q outcome out out_now log log_now = IsRun (plan_due files q) is_index files q false outcome out out_now log log_now

-- the outcome of a packaging that ended so
abbrev pub pack_outcome : PackEnd → Outcome
pack_outcome packs.Whole = done
pack_outcome (packs.Refused r) = refused_outcome r
pack_outcome packs.SinkFailed = sink_failed

-- what `pack` wrote by this outcome; nothing is said of its reads
abbrev pub IsPack : Files → Requested → Outcome → Option (List ℕ) → Option (List ℕ) → Type 0
IsPack files q outcome out out_now = GainsDue (pack_due files q) outcome out out_now

-- with these settings
abbrev pub IsPackWritten : Setup → List ℕ → Outcome → Option (List ℕ) → Option (List ℕ) → Type 0
IsPackWritten o path outcome out out_now = GainsDue (packed_path o path) outcome out out_now

-- how `plan` ends, what it wrote and which reads it made
pub record PlanOutcome
    (files : Files) (q : Requested) (status : ℕ) (out out_now : Option (List ℕ)) (log log_now : Option (List Read))
    (err err_now : Option (List ℕ)) (err_faults err_faults_now : ℕ) : Type 0 where
  pub outcome : Outcome
  pub status_is : status ≡ outcome_status outcome
  pub wrote : GainsDue (plan_due files q) outcome out out_now
  pub reads : List Read
  pub reads_are : AreRunReads files q is_index false reads
  pub logged : GainsReads reads outcome log log_now
  pub told : GainsLine outcome err err_now err_faults err_faults_now

-- how `pack` ends and what it wrote
pub record PackOutcome
    (files : Files) (q : Requested) (status : ℕ) (out out_now : Option (List ℕ))
    (err err_now : Option (List ℕ)) (err_faults err_faults_now : ℕ) : Type 0 where
  pub outcome : Outcome
  pub status_is : status ≡ outcome_status outcome
  pub wrote : GainsDue (pack_due files q) outcome out out_now
  pub told : GainsLine outcome err err_now err_faults err_faults_now

-- a run tells its outcome by its status and by a line
pub record TellsOutcome (status : ℕ) (err err_now : Option (List ℕ)) (faults faults_now : ℕ) : Type 0 where
  pub outcome : Outcome
  pub status_is : status ≡ outcome_status outcome
  pub told : GainsLine outcome err err_now faults faults_now
