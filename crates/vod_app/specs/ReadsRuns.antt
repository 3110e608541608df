-- What `reads` writes; this project's own.
use Rattle.std.specs.Prelude.{◌≡◌, ℕ, true, List, [], Option, Some, None}
use Rattle.vod_types.specs.declared.refusal.Refusal.{Refusal}
use Rattle.list_model.specs.Command.{Requested, Outcome, outcome_status, reads_text}
use Rattle.vod_source.specs.Stored.{Files, Read}
use Rattle.origin_model.specs.Answers.{answer, every_leaf}
use Rattle.origin_model.specs.Outcomes.{AreRequestReads, GainsDue, GainsLine, GainsReads, due_answer, reads_due, run_setup}
use Rattle.origin_model.specs.Reads.{AreReads}
use Rattle.origin_model.specs.Requests.{Setup}

-- it is done where nothing is refused in the end, and else refused with that, unless it failed
abbrev pub EndsWith : Option Refusal → Outcome → Type 0
EndsWith due outcome = GainsDue ([], due) outcome (Some []) (Some [])

-- The answer of a path ended so, and these reads of it are in a log that was empty.
pub record IsLogged (o : Setup) (path : List ℕ) (outcome : Outcome) (log : List Read) : Type 0 where
  pub ends : EndsWith (due_answer (answer o path None)).1 outcome
  pub reads : List Read
  pub reads_are : AreReads every_leaf o [] true path None reads
  pub logged : GainsReads reads outcome (Some []) (Some log)

-- The lines of a log were written, for a request that ended so.
abbrev pub WritesReads : List Read → Outcome → Outcome → Option (List ℕ) → Option (List ℕ) → Type 0
WritesReads log ended outcome out out_now =
    (due : Option Refusal) (reads : List Read) → EndsWith due ended → GainsReads reads ended (Some []) (Some log)
    → GainsDue (reads_text reads, due) outcome out out_now

-- what was written of the reads of a path, by this outcome
pub record AreReadsWritten (o : Setup) (path : List ℕ) (outcome : Outcome) (out out_now : Option (List ℕ)) : Type 0 where
  pub reads : List Read
  pub reads_are : AreReads every_leaf o [] true path None reads
  pub wrote : GainsDue (reads_text reads, (due_answer (answer o path None)).1) outcome out out_now

-- the same of a run
pub record IsReads (files : Files) (q : Requested) (outcome : Outcome) (out out_now : Option (List ℕ)) : Type 0 where
  pub reads : List Read
  pub made : AreRequestReads files q every_leaf true (run_setup files q) reads
  pub wrote : GainsDue (reads_due files q reads) outcome out out_now

-- how `reads` ends and what it wrote
pub record ReadsOutcome
    (files : Files) (q : Requested) (status : ℕ) (out out_now : Option (List ℕ))
    (err err_now : Option (List ℕ)) (err_faults err_faults_now : ℕ) : Type 0 where
  pub outcome : Outcome
  pub status_is : status ≡ outcome_status outcome
  pub reads : List Read
  pub made : AreRequestReads files q every_leaf true (run_setup files q) reads
  pub wrote : GainsDue (reads_due files q reads) outcome out out_now
  pub told : GainsLine outcome err err_now err_faults err_faults_now
