-- What `reads` logs and writes, step by step.
use Rattle.std.proofs.Common.{◌≡◌, ◌≢◌, ℕ, true, List, [], ◌++◌, ◌⊎◌, inl, inr, IfSome, Option, Some, None, Result, Ok, Err, refl, sym, ap, ◌∙◌, subst}
use Rattle.std.proofs.lemmas.Grind.{flat_map-append}
use Rattle.vod_types.specs.declared.refusal.Refusal.{Refusal}
use Rattle.vod_types.specs.declared.refusal.Refusal.TheVariants.{NoMemory, StoreFailed}
use Rattle.vod_types.specs.Results.{◌>>=◌}
use Rattle.vod_types.specs.Settled.{Settled}
use Rattle.list_model.specs.Command.{Outcome, Requested, done, usage, refused, no_memory, store_failed, sink_failed, door_failed, read_line, reads_text}
use Rattle.vod_source.specs.Logs.{LoggedValue, reads_of}
use Rattle.vod_source.specs.Stored.{Files, Read}
use Rattle.vod_source.specs.Told.{told_with, GrewByPrefix}
use Rattle.vod_source.proofs.CallLemmas.{told_with_all}
use Rattle.vod_source.proofs.ToldLemmas.{GrewByPrefix-front, GrewByPrefix-same, GrewByPrefix-whole, told_with-nil}
use Rattle.origin_model.specs.Answers.{answer, every_leaf}
use Rattle.origin_model.specs.Outcomes.{AreRequestReads, Due, GainsDue, GainsReads, due_answer, get_due, reads_due, run_setup, setup_with}
use Rattle.origin_model.specs.Reads.{path_reads}
use Rattle.origin_model.specs.Requests.{Setup}
use Rattle.vod_app.specs.Runs.{AreSettingsRead, IsAnswerWritten, refused_outcome}
use Rattle.vod_app.specs.ReadsRuns.{AreReadsWritten, EndsWith, IsLogged, IsReads, WritesReads}
use Rattle.vod_app.proofs.BodyLemmas.{written_at}
use Rattle.vod_app.proofs.RunLemmas.{are_some_reads, by_refusal, some_reads}

-- ---- what an answer over an empty log leaves in it

-- what was written of it tells how it ends
ends_as : (due : Due) (outcome : Outcome) (out out_now : Option (List ℕ)) → GainsDue due outcome out out_now → EndsWith due.1 outcome
ends_as due done out out_now wrote = (wrote.0, refl)
ends_as due (refused r) out out_now wrote = (wrote.0, refl)
ends_as due store_failed out out_now wrote = GrewByPrefix-same (Some []) (Some []) [] refl
ends_as due sink_failed out out_now wrote = GrewByPrefix-same (Some []) (Some []) [] refl
ends_as due no_memory out out_now wrote = GrewByPrefix-same (Some []) (Some []) [] refl
ends_as due usage out out_now wrote = absurd wrote
ends_as due door_failed out out_now wrote = absurd wrote

-- whatever the end, the log is the front of the reads
in_front : (due : Option Refusal) (outcome : Outcome) (reads log : List Read) → EndsWith due outcome → GainsReads reads outcome (Some []) (Some log)
    → GrewByPrefix (Some []) (Some log) reads
in_front due done reads log ends e = GrewByPrefix-whole (Some []) (Some log) reads e
in_front due (refused r) reads log ends e = GrewByPrefix-whole (Some []) (Some log) reads e
in_front due store_failed reads log ends e = e
in_front due sink_failed reads log ends e = e
in_front due no_memory reads log ends e = e
in_front due usage reads log ends e = absurd ends
in_front due door_failed reads log ends e = absurd ends

module _ (o : Setup) (path : List ℕ) (ended : Outcome) (out out_now : Option (List ℕ)) (log : List Read) (written : IsAnswerWritten o path ended out out_now (Some []) (Some log)) where
  logged_end : IsLogged o path ended log
  logged_end = record { ends = ends_as (due_answer (answer o path None)) ended out out_now written.wrote; reads = written.reads; reads_are = written.reads_are; logged = written.logged }

  -- whatever it was, where memory ran out for the log
  logged_memory : IsLogged o path no_memory log
  logged_memory = record {
    ends = GrewByPrefix-same (Some []) (Some []) [] refl;
    reads = written.reads;
    reads_are = written.reads_are;
    logged = in_front (due_answer (answer o path None)).1 ended written.reads log (ends_as (due_answer (answer o path None)) ended out out_now written.wrote) written.logged;
  }

-- of a store that kept an empty log at first
module _ {S : Type 0} (content : S → Option Files) (o : Files → Setup) (given path : List ℕ) (ended outcome : Outcome) (out out_now : Option (List ℕ)) where
  abbrev Told : LoggedValue S → LoggedValue S → Type 0
  Told before now =
      IfSome (content before.inner) (λ files. IsAnswerWritten (o files) given ended out out_now (Some (reads_of before.names before.entries)) (Some (reads_of now.names now.entries)))

  pub logged_from : (before now same : LoggedValue S) (store : S)
      → before ≡ record { inner = store; names = []; entries = []; refused = 0 } → Told before now → given ≡ path
      → (outcome ≡ ended) ⊎ (outcome ≡ no_memory) → same ≡ now
      → IfSome (content store) (λ files. IsLogged (o files) path outcome (reads_of same.names same.entries))
  logged_from before now same store fresh told given_is ends is =
      subst (λ (l : LoggedValue S). IfSome (content store) (λ files. IsLogged (o files) path outcome (reads_of l.names l.entries))) (sym is)
      (told_with_all (content store) _ _ (subst (λ (l : LoggedValue S). Told l now) fresh told)
      (λ files w. let at = written_at (o files) given path ended out out_now (Some []) (Some (reads_of now.names now.entries)) given_is w in elim ends [
        | inl end ↦ subst (λ (told : Outcome). IsLogged (o files) path told (reads_of now.names now.entries)) (sym end) (logged_end (o files) path ended out out_now (reads_of now.names now.entries) at)
        | inr none ↦ subst (λ (told : Outcome). IsLogged (o files) path told (reads_of now.names now.entries)) (sym none) (logged_memory (o files) path ended out out_now (reads_of now.names now.entries) at)
      ]))

-- ---- the lines of a log

-- a prefix of its lines is one of all lines
lines_front : (log reads : List Read) {out out_now : Option (List ℕ)} → GrewByPrefix (Some []) (Some log) reads
    → GrewByPrefix out out_now (reads_text log) → GrewByPrefix out out_now (reads_text reads)
lines_front log reads g wrote =
    let same : g.front ≡ log = cc in
    let split : reads ≡ log ++ g.back = g.split ∙ ap (λ front. front ++ g.back) same in
    GrewByPrefix-front (reads_text log) (reads_text g.back) (reads_text reads) (ap reads_text split ∙ flat_map-append read_line log g.back) wrote

-- a log of all reads
all_of : (log reads : List Read) → Some log ≡ told_with (Some []) reads → log ≡ reads
all_of log reads e = cc

module _ (log : List Read) (out out_now : Option (List ℕ)) where
  -- all of them were written
  pub wrote_all : (ended : Outcome) → out_now ≡ told_with out (reads_text log) → WritesReads log ended ended out out_now
  wrote_all done e due reads ends logged = (ends.0, e ∙ ap (λ (l : List Read). told_with out (reads_text l)) (all_of log reads logged))
  wrote_all (refused r) e due reads ends logged = (ends.0, e ∙ ap (λ (l : List Read). told_with out (reads_text l)) (all_of log reads logged))
  wrote_all store_failed e due reads ends logged = lines_front log reads logged (GrewByPrefix-whole out out_now (reads_text log) e)
  wrote_all sink_failed e due reads ends logged = lines_front log reads logged (GrewByPrefix-whole out out_now (reads_text log) e)
  wrote_all no_memory e due reads ends logged = lines_front log reads logged (GrewByPrefix-whole out out_now (reads_text log) e)
  wrote_all usage e due reads ends logged = ends
  wrote_all door_failed e due reads ends logged = ends

  -- the output failed
  pub wrote_some : (ended : Outcome) → GrewByPrefix out out_now (reads_text log) → WritesReads log ended sink_failed out out_now
  wrote_some ended wrote due reads ends logged = lines_front log reads (in_front due ended reads log ends logged) wrote

  -- there was no memory for them
  pub wrote_none : (ended : Outcome) → out_now ≡ out → WritesReads log ended no_memory out out_now
  wrote_none ended e due reads ends logged = GrewByPrefix-same out out_now (reads_text reads) e

-- ---- a whole run

-- of a request that was logged
pub reads_written : (o : Setup) (path : List ℕ) (ended outcome : Outcome) (log : List Read) (out out_now : Option (List ℕ))
    → IsLogged o path ended log → WritesReads log ended outcome out out_now → AreReadsWritten o path outcome out out_now
reads_written o path ended outcome log out out_now is wrote =
    record { reads = is.reads; reads_are = is.reads_are; wrote = wrote (due_answer (answer o path None)).1 is.reads is.ends is.logged }

-- of one for which there was no memory
pub reads_unmade : (o : Setup) (path : List ℕ) (out : Option (List ℕ)) → AreReadsWritten o path no_memory out out
reads_unmade o path out =
    let reads = path_reads every_leaf o [] true [] path None in
    record { reads = reads; reads_are = record { taken = []; are = refl }; wrote = GrewByPrefix-same out out (reads_text reads) refl }

module _ (files : Files) (q : Requested) where
  abbrev reads_due_of : Result Setup Refusal → List Read → List ℕ × Option Refusal
  reads_due_of s reads = (reads_text reads, (due_answer (s >>= λ o. answer o q.path None)).1)

  reads_due-is : (reads : List Read) → reads_due files q reads ≡ reads_due_of (run_setup files q) reads
  unfolding reads_due get_due
  reads_due-is reads = refl

  -- whose settings are refused
  pub reads_refused : (outcome : Outcome) (r : Refusal) (out : Option (List ℕ)) (log log_now : Option (List Read))
      → outcome ≡ refused_outcome r → AreSettingsRead files q.settings (Err r) log log_now → IsReads files q outcome out out
  reads_refused outcome r out log log_now e a =
      let setup : (r ≢ NoMemory → r ≢ StoreFailed → run_setup files q ≡ Err r) = (λ known_memory known_store.
      ap (λ s. s >>= λ settings. Ok (setup_with files q settings)) (a.answered known_memory known_store))
      in
      let reads = some_reads every_leaf q true (run_setup files q) in
      let due = reads_due files q reads in
      let wrote =
      by_refusal (λ r outcome. (r ≢ NoMemory → r ≢ StoreFailed → due ≡ ([], Some r)) → GainsDue due outcome out out)
      (λ refuses. GrewByPrefix-same out out due.0 refl)
      (λ refuses. GrewByPrefix-same out out due.0 refl)
      (λ r known_memory known_store refuses. subst (λ due. GainsDue due (refused r) out out) (sym (refuses known_memory known_store)) (refl, sym (told_with-nil out)))
      r
      (λ known_memory known_store.
      reads_due-is reads ∙ ap (λ s. reads_due_of s (some_reads every_leaf q true s)) (setup known_memory known_store))
      in
      record {
        reads = reads;
        made = are_some_reads every_leaf files q true (run_setup files q);
        wrote = subst (λ told. GainsDue due told out out) (sym e) wrote;
      }

  pub reads_with_settings : (s : Settled) (outcome : Outcome) (out out_now : Option (List ℕ)) (log log_mid : Option (List Read))
      → AreSettingsRead files q.settings (Ok s) log log_mid → AreReadsWritten (setup_with files q s) q.path outcome out out_now
      → IsReads files q outcome out out_now
  reads_with_settings s outcome out out_now log log_mid a w =
      let setup : run_setup files q ≡ Ok (setup_with files q s) = ap (λ s. s >>= λ settings. Ok (setup_with files q settings)) a.answered in
      record {
        reads = w.reads;
        made = subst (λ s. AreRequestReads files q every_leaf true s w.reads) (sym setup) w.reads_are;
        wrote = subst (λ due. GainsDue due outcome out out_now) (sym (reads_due-is w.reads ∙ ap (λ s. reads_due_of s w.reads) setup)) w.wrote;
      }
