-- What the commands do that serve connections.
use Rattle.std.proofs.Common.{◌≡◌, ◌≢◌, ◌≤◌, ℕ, List, [], Option, Some, Result, Ok, Err, refl, sym, ap, ◌∙◌, subst, arith, inl, inr, append-nil}
use Rattle.vod_types.specs.declared.refusal.Refusal.{Refusal}
use Rattle.vod_types.specs.declared.refusal.Refusal.TheVariants.{NoMemory, StoreFailed}
use Rattle.vod_types.specs.Settled.{Settled}
use Rattle.list_model.specs.Command.{Outcome, refused, store_failed, no_memory}
use Rattle.vod_source.specs.Calls.{LogsReads}
use Rattle.vod_source.specs.Stored.{Read}
use Rattle.vod_session.specs.Steps.{Answers}
use Rattle.vod_session.specs.declared.doors.DoorEnd.{DoorEnd}
use Rattle.vod_session.specs.declared.doors.DoorEnd.TheVariants as ends
use Rattle.vod_session.proofs.DoorLemmas.{up_to_from, up_to_none}
use Rattle.vod_turns.specs.Outcomes.{DoorState, EndsAsDoor, EndsEarly}
use Rattle.vod_turns.proofs.DoorLemmas.{in_turns_from}
use Rattle.vod_app.specs.declared.words.Order.{Order}
use Rattle.vod_app.specs.declared.words.Order.TheVariants as orders
use Rattle.vod_app.specs.Runs.{refused_outcome}
use Rattle.vod_app.specs.Services.{DoesBy, DoesWith, LogsSettings}
use Rattle.vod_app.proofs.RunLemmas.{by_refusal}

module _ {L : Type 0} (left written : L → Option (List ℕ)) (answers : Settled → Answers) (count : ℕ) (door door_now : DoorState L) where
  -- a door that couldn't be opened
  pub does_none : (settings : Settled) (order : Order) (faults : ℕ) → door_now.coming ≡ door.coming → door_now.returned ≡ door.returned → door_now.out ≡ door.out
      → DoesWith left written (Ok settings) answers count door door_now faults faults order settings ends.DoorFailed
  does_none settings orders.OneByOne faults c r o = up_to_none count ends.DoorFailed (λ e. cc) c r o (omega arith)
  does_none settings orders.InTurns faults c r o =
      record {
        served = λ e. absurd cc;
        unserved = λ e. record {
          out_is = o;
          links = λ all before all_is before_is. ([], all, refl, c ∙ all_is, r ∙ before_is ∙ ap (λ (links : List L). Some links) (sym (append-nil before)));
        };
      }

  -- the same of a count that was lower before
  does_from : (settings : Settled) (order : Order) (end : DoorEnd) (earlier faults faults_now : ℕ) → earlier ≤ faults
      → DoesWith left written (Ok settings) answers count door door_now faults faults_now order settings end
      → DoesWith left written (Ok settings) answers count door door_now earlier faults_now order settings end
  does_from settings orders.OneByOne end earlier faults faults_now below does = up_to_from below does
  does_from settings orders.InTurns end earlier faults faults_now below does =
      record { served = λ e. in_turns_from below (does.served e); unserved = does.unserved }

  ends_from : (settings : Settled) (order : Order) (outcome : Outcome) (earlier faults faults_now : ℕ) → earlier ≤ faults
      → EndsAsDoor door door_now (DoesWith left written (Ok settings) answers count door door_now faults faults_now order settings) outcome
      → EndsAsDoor door door_now (DoesWith left written (Ok settings) answers count door door_now earlier faults_now order settings) outcome
  ends_from settings order outcome earlier faults faults_now below (inl early) = inl early
  ends_from settings order outcome earlier faults faults_now below (inr does) =
      inr (does.0, does.1, does_from settings order does.0 earlier faults faults_now below does.2)

  -- with the settings that were named
  pub does_named : (settings : Settled) (named : Result Settled Refusal) (order : Order) (outcome : Outcome) (earlier faults faults_now : ℕ) → named ≡ Ok settings → earlier ≤ faults
      → DoesBy left written (Ok settings) answers count door door_now faults faults_now order outcome
      → DoesBy left written named answers count door door_now earlier faults_now order outcome
  does_named settings named order outcome earlier faults faults_now e below does =
      subst (λ (n : Result Settled Refusal). DoesBy left written n answers count door door_now earlier faults_now order outcome) (sym e)
      (ends_from settings order outcome earlier faults faults_now below does)

  -- the command ended before the door was opened
  pub does_early : (named : Result Settled Refusal) (order : Order) (outcome : Outcome) (faults faults_now : ℕ) → door_now ≡ door → EndsEarly outcome
      → DoesBy left written named answers count door door_now faults faults_now order outcome
  does_early (Ok settings) order outcome faults faults_now e early = inl (e, early)
  does_early (Err why) order outcome faults faults_now e early = (e, inr early)

  -- the settings weren't read
  unread : (named : Result Settled Refusal) (order : Order) (faults faults_now : ℕ) → door_now ≡ door → (r : Refusal) → (r ≢ NoMemory → r ≢ StoreFailed → named ≡ Err r)
      → DoesBy left written named answers count door door_now faults faults_now order (refused_outcome r)
  unread named order faults faults_now e =
      by_refusal (λ r outcome. (r ≢ NoMemory → r ≢ StoreFailed → named ≡ Err r) → DoesBy left written named answers count door door_now faults faults_now order outcome)
      (λ due. does_early named order no_memory faults faults_now e (inr refl))
      (λ due. does_early named order store_failed faults faults_now e (inl refl))
      (λ r known_memory known_store due.
      subst (λ (n : Result Settled Refusal). DoesBy left written n answers count door door_now faults faults_now order (refused r)) (sym (due known_memory known_store)) (e, inl refl))

  pub does_unread : (named : Result Settled Refusal) (order : Order) (outcome : Outcome) (faults faults_now : ℕ) → door_now ≡ door → (r : Refusal) → outcome ≡ refused_outcome r
      → (r ≢ NoMemory → r ≢ StoreFailed → named ≡ Err r) → DoesBy left written named answers count door door_now faults faults_now order outcome
  does_unread named order outcome faults faults_now same r e due =
      subst (λ (told : Outcome). DoesBy left written named answers count door door_now faults faults_now order told) (sym e) (unread named order faults faults_now same r due)

-- the reads of settings that are refused
unread_reads : (reads : List Read) (log log_now : Option (List Read)) (r : Refusal) → LogsReads {X = Settled} (Err r) reads log log_now → LogsSettings reads (refused_outcome r) log log_now
unread_reads reads log log_now =
    by_refusal (λ r outcome. LogsReads {X = Settled} (Err r) reads log log_now → LogsSettings reads outcome log log_now)
    (λ logged. tt)
    (λ logged. logged.0)
    (λ r known_memory known_store logged. logged.1 known_memory known_store)

pub logs_unread : (reads : List Read) (outcome : Outcome) (log log_now : Option (List Read)) (r : Refusal) → outcome ≡ refused_outcome r → LogsReads {X = Settled} (Err r) reads log log_now
    → LogsSettings reads outcome log log_now
logs_unread reads outcome log log_now r e logged =
    subst (λ (told : Outcome). LogsSettings reads told log log_now) (sym e) (unread_reads reads log log_now r logged)
