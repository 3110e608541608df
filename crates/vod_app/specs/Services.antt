-- What the commands do that serve connections; this project's own.
use Rattle.std.specs.Prelude.{◌≡◌, ℕ, List, Option, Result, ⊤}
use Rattle.vod_types.specs.declared.refusal.Refusal.{Refusal}
use Rattle.vod_types.specs.Settled.{Settled}
use Rattle.list_model.specs.Command.{Outcome, done, usage, refused, store_failed, sink_failed, no_memory, door_failed, outcome_status}
use Rattle.vod_source.specs.Stored.{Files, Read}
use Rattle.vod_source.specs.Told.{told_with, GrewByPrefix}
use Rattle.origin_model.specs.Answers.{answer}
use Rattle.origin_model.specs.Outcomes.{GainsLine}
use Rattle.vod_session.specs.declared.doors.DoorEnd.{DoorEnd}
use Rattle.vod_session.specs.Steps.{Answers}
use Rattle.vod_turns.specs.Outcomes.{DoorState, EndsByWords, ServesBy, TurnsBy}
use Rattle.vod_app.specs.declared.words.Order.{Order}
use Rattle.vod_app.specs.declared.words.Order.TheVariants as orders

-- what is answered to each path over these files, with these settings
abbrev pub answers_with : Files → List ℕ → Settled → Answers
answers_with files root settings path range = answer (record { settings = settings; root = root; files = files }) path range

module _ {L : Type 0} (left written : L → Option (List ℕ)) (named : Result Settled Refusal) (answers : Settled → Answers) (count : ℕ) (door door_now : DoorState L) (faults faults_now : ℕ) where
  -- what was done with the links of a door that was opened, in an order
  abbrev pub DoesWith : Order → Settled → DoorEnd → Type 0
  DoesWith orders.OneByOne settings end = ServesBy left written named answers count door door_now faults faults_now settings end
  DoesWith orders.InTurns settings end = TurnsBy left written named answers count door door_now faults faults_now settings end

  -- and by this outcome of a command that reads its settings
  abbrev pub DoesBy : Order → Outcome → Type 0
  DoesBy order outcome = EndsByWords named door door_now (DoesWith order) outcome

-- the reads of the settings where they are refused, and some of them where the store failed
abbrev pub LogsSettings : List Read → Outcome → Option (List Read) → Option (List Read) → Type 0
LogsSettings reads (refused r) log log_now = log_now ≡ told_with log reads
LogsSettings reads store_failed log log_now = GrewByPrefix log log_now reads
LogsSettings reads done log log_now = ⊤
LogsSettings reads usage log log_now = ⊤
LogsSettings reads sink_failed log log_now = ⊤
LogsSettings reads no_memory log log_now = ⊤
LogsSettings reads door_failed log log_now = ⊤

-- the outcomes of a command whose settings were read
abbrev pub EndsOpened : Outcome → Type 0
EndsOpened done = ⊤
EndsOpened no_memory = ⊤
EndsOpened door_failed = ⊤
EndsOpened usage = ⊥
EndsOpened (refused r) = ⊥
EndsOpened store_failed = ⊥
EndsOpened sink_failed = ⊥

-- how a command ends that serves connections, what it did with them, and what it read for its settings
pub record ServiceOutcome (Does : Outcome → Type 0) (reads : List Read) (status : ℕ) (log log_now : Option (List Read)) (err err_now : Option (List ℕ)) (err_faults err_faults_now : ℕ) : Type 0 where
  pub outcome : Outcome
  pub status_is : status ≡ outcome_status outcome
  pub does : Does outcome
  pub logged : LogsSettings reads outcome log log_now
  pub told : GainsLine outcome err err_now err_faults err_faults_now
