-- What a run writes and reads, step by step.
use Rattle.std.proofs.Common.{◌≡◌, ◌≢◌, ◌+◌, ◌<◌, ℕ, suc, zero, Bool, true, false, List, [], ◌∷◌, ◌++◌, length, get_or, take, map, Option, Some, None, Result, Ok, Err, refl, sym, ap, ◌∙◌, arith, subst, Bor, append_assoc, append-nil, add-one}
use Rattle.std.specs.List.{concat}
use Rattle.vod_types.specs.declared.refusal.Refusal.{Refusal}
use Rattle.vod_types.specs.declared.refusal.Refusal.TheVariants.{NoMemory, StoreFailed}
use Rattle.vod_types.specs.declared.paths.Leaf.{Leaf}
use Rattle.vod_types.specs.Results.{◌>>=◌}
use Rattle.vod_types.specs.Settled.{Settled}
use Rattle.list_model.specs.Command.{Outcome, Requested, plan_text, done, usage, refused, no_memory, store_failed, sink_failed, door_failed}
use Rattle.origin_model.specs.Answers.{answer, every_leaf, is_index, path_rows}
use Rattle.origin_model.specs.Outcomes.{AreRequestReads, Due, GainsDue, GainsReads, due_answer, due_rows, due_with, get_due, pack_due, plan_due, run_setup, settings_reads, setup_with}
use Rattle.origin_model.specs.Packaging.{packed_path}
use Rattle.origin_model.specs.Reads.{AreReads, Cache, path_reads}
use Rattle.origin_model.specs.Requests.{Setup}
use Rattle.vod_types.specs.declared.segments.Listed.{Listed}
use Rattle.vod_source.specs.Calls.{LogsReads}
use Rattle.segment_model.specs.Listing.{ListedSegment, listed_view}
use Rattle.vod_origin.specs.Listings.{ListsPath}
use Rattle.mp4_flat.specs.Packed.{IsPackedAs}
use Rattle.mp4_flat.specs.declared.entries.PackEnd.{PackEnd}
use Rattle.mp4_flat.specs.declared.entries.PackEnd.TheVariants.{Whole, Refused, SinkFailed}
use Rattle.vod_app.specs.Runs.{AreSettingsRead, IsAnswerWritten, IsGet, IsPack, IsPackWritten, IsPlan, IsPlanWritten, IsRun, IsWritten, pack_outcome, refused_outcome}
use Rattle.vod_source.specs.Stored.{Files, Read}
use Rattle.vod_source.specs.Told.{told_with, GrewByPrefix}
use Rattle.vod_source.proofs.ToldLemmas.{told_with-nil, told_with-more, GrewByPrefix-same, GrewByPrefix-after, GrewByPrefix-more, GrewByPrefix-whole}

-- ---- pieces that are written one after another

abbrev texts : List (Bor (List ℕ)) → List (List ℕ)
texts pieces = map (λ piece. piece.now) pieces

one_more : (pieces : List (Bor (List ℕ))) (i : ℕ) (d : Bor (List ℕ)) → i < length pieces
    → concat (take (suc i) (texts pieces)) ≡ concat (take i (texts pieces)) ++ (get_or pieces i d).now
one_more [] i d h = absurd (omega arith)
one_more (piece ∷ pieces) zero d h = append-nil piece.now
one_more (piece ∷ pieces) (suc i) d h =
    ap (λ rest. piece.now ++ rest) (one_more pieces i d (omega arith)) ∙ sym (append_assoc piece.now (concat (take i (texts pieces))) (get_or pieces i d).now)

pub pieces_more : (pieces : List (Bor (List ℕ))) (i : ℕ) (d : Bor (List ℕ)) → i < length pieces
    → concat (take (i + 1) (texts pieces)) ≡ concat (take i (texts pieces)) ++ (get_or pieces i d).now
pieces_more pieces i d h = rw add-one (one_more pieces i d h)

pub pieces_rest : (pieces : List (Bor (List ℕ))) (i : ℕ) (d : Bor (List ℕ)) → i < length pieces
    → (rest : List ℕ) × (concat (texts pieces) ≡ concat (take i (texts pieces)) ++ ((get_or pieces i d).now ++ rest))
pieces_rest [] i d h = absurd (omega arith)
pieces_rest (piece ∷ pieces) zero d h = (concat (texts pieces), refl)
pieces_rest (piece ∷ pieces) (suc i) d h =
    let later = pieces_rest pieces i d (omega arith) in (
      later.0,
      ap (λ rest. piece.now ++ rest) later.1 ∙ sym (append_assoc piece.now (concat (take i (texts pieces))) ((get_or pieces i d).now ++ later.0)),
    )

-- a prefix of the next piece after those before it is a prefix of all
pub put_prefix : (pieces : List (Bor (List ℕ))) (i : ℕ) (d : Bor (List ℕ)) {before middle now : Option (List ℕ)} → i < length pieces
    → middle ≡ told_with before (concat (take i (texts pieces))) → GrewByPrefix middle now (get_or pieces i d).now
    → GrewByPrefix before now (concat (texts pieces))
put_prefix pieces i d h e grown =
    let all = pieces_rest pieces i d h in
    subst (GrewByPrefix _ _) (sym all.1) (GrewByPrefix-after (concat (take i (texts pieces))) e (GrewByPrefix-more all.0 grown))

-- ---- the outcome of a refused call

-- what holds of a refused call's outcome, in each of the three cases
pub by_refusal : (P : Refusal → Outcome → Type 0) → P NoMemory no_memory → P StoreFailed store_failed → ((r : Refusal) → r ≢ NoMemory → r ≢ StoreFailed → P r (refused r))
    → (r : Refusal) → P r (refused_outcome r)
by_refusal P memory store other NoMemory = memory
by_refusal P memory store other StoreFailed = store
by_refusal P memory store other r = other r (λ e. cc) (λ e. cc)

-- ---- what is gained where a call is refused

-- nothing is written, and what was read is in the log
module _ (due : Due) (reads : List Read) (out : Option (List ℕ)) (log log_now : Option (List Read)) where
  abbrev pub Gained : Refusal → Outcome → Type 0
  Gained r outcome = (r ≢ NoMemory → r ≢ StoreFailed → due ≡ ([], Some r)) → LogsReads {X = List ℕ} (Err r) reads log log_now
      → GainsDue due outcome out out × GainsReads reads outcome log log_now

  pub gained_refused : (r : Refusal) → Gained r (refused_outcome r)
  gained_refused =
      by_refusal Gained
      (λ refuses logged. (GrewByPrefix-same out out due.0 refl, logged.0))
      (λ refuses logged. (GrewByPrefix-same out out due.0 refl, logged.0))
      (λ r known_memory known_store refuses logged. (
        subst (λ due. GainsDue due (refused r) out out) (sym (refuses known_memory known_store)) (refl, sym (told_with-nil out)),
        logged.1 known_memory known_store,
      ))

-- a request that is refused
pub written_refused : {due : Due} {has_leaf : Leaf → Bool} {o : Setup} {with_body : Bool} {path : List ℕ} (reads : List Read) (r : Refusal) (outcome : Outcome)
    (out : Option (List ℕ)) (log log_now : Option (List Read)) → outcome ≡ refused_outcome r → (r ≢ NoMemory → r ≢ StoreFailed → due ≡ ([], Some r))
    → AreReads has_leaf o [] with_body path None reads → LogsReads {X = List ℕ} (Err r) reads log log_now → IsWritten due has_leaf o with_body path outcome out out log log_now
written_refused {due} {has_leaf} {o} {with_body} {path} reads r outcome out log log_now e refuses are logged =
    let gained = gained_refused due reads out log log_now r refuses logged in
    subst (λ told. IsWritten due has_leaf o with_body path told out out log log_now) (sym e)
    (record { wrote = gained.0; reads = reads; reads_are = are; logged = gained.1 })

-- ---- a whole run

-- the reads that a request may make, whatever was refused before
abbrev pub some_reads : (Leaf → Bool) → Requested → Bool → Result Setup Refusal → List Read
some_reads has_leaf q with_body (Ok o) = path_reads has_leaf o [] with_body [] q.path None
some_reads has_leaf q with_body (Err r) = []

pub are_some_reads : (has_leaf : Leaf → Bool) (files : Files) (q : Requested) (with_body : Bool) (setup : Result Setup Refusal)
    → AreRequestReads files q has_leaf with_body setup (some_reads has_leaf q with_body setup)
are_some_reads has_leaf files q with_body (Ok o) = record { taken = []; are = refl }
are_some_reads has_leaf files q with_body (Err r) = refl

pub gained_more : (outcome : Outcome) (first second : List Read) (log log_mid log_now : Option (List Read)) → log_mid ≡ told_with log first
    → GainsReads second outcome log_mid log_now → GainsReads (first ++ second) outcome log log_now
gained_more done first second log log_mid log_now e g = told_with-more log log_mid log_now first second e g
gained_more (refused r) first second log log_mid log_now e g = told_with-more log log_mid log_now first second e g
gained_more store_failed first second log log_mid log_now e g = GrewByPrefix-after first e g
gained_more sink_failed first second log log_mid log_now e g = GrewByPrefix-after first e g
gained_more no_memory first second log log_mid log_now e g = GrewByPrefix-after first e g
gained_more usage first second log log_mid log_now e g = g
gained_more door_failed first second log log_mid log_now e g = g

-- what is due of a run with these settings, which writes nothing where they are refused
module _ (due_of : Result Setup Refusal → Due) (has_leaf : Leaf → Bool) (files : Files) (q : Requested) (with_body : Bool) where
  run_refused : ((r : Refusal) → due_of (Err r) ≡ ([], Some r)) → (r : Refusal) (outcome : Outcome) (out : Option (List ℕ)) (log log_now : Option (List Read))
      → outcome ≡ refused_outcome r → AreSettingsRead files q.settings (Err r) log log_now
      → IsRun (due_of (run_setup files q)) has_leaf files q with_body outcome out out log log_now
  run_refused none r outcome out log log_now e a =
      let setup : (r ≢ NoMemory → r ≢ StoreFailed → run_setup files q ≡ Err r) = (λ known_memory known_store.
      ap (λ s. s >>= λ settings. Ok (setup_with files q settings)) (a.answered known_memory known_store))
      in
      let request = some_reads has_leaf q with_body (run_setup files q) in
      let all_logged : (r ≢ NoMemory → r ≢ StoreFailed → log_now ≡ told_with log (settings_reads files q.settings ++ request)) = (λ known_memory known_store.
      a.logged.1 known_memory known_store
      ∙ ap (told_with log) (sym (append-nil (settings_reads files q.settings)))
      ∙ ap (λ s. told_with log (settings_reads files q.settings ++ some_reads has_leaf q with_body s)) (sym (setup known_memory known_store)))
      in
      let gained =
      gained_refused (due_of (run_setup files q)) (settings_reads files q.settings ++ request) out log log_now r
      (λ known_memory known_store. ap due_of (setup known_memory known_store) ∙ none r)
      (GrewByPrefix-more request a.logged.0, all_logged)
      in
      subst (λ told. IsRun (due_of (run_setup files q)) has_leaf files q with_body told out out log log_now) (sym e)
      (record {
        wrote = gained.0;
        reads = settings_reads files q.settings ++ request;
        reads_are = record { request = request; made = are_some_reads has_leaf files q with_body (run_setup files q); are = refl };
        logged = gained.1;
      })

  run_with : (s : Settled) (outcome : Outcome) (out out_now : Option (List ℕ)) (log log_mid log_now : Option (List Read))
      → AreSettingsRead files q.settings (Ok s) log log_mid
      → IsWritten (due_of (Ok (setup_with files q s))) has_leaf (setup_with files q s) with_body q.path outcome out out_now log_mid log_now
      → IsRun (due_of (run_setup files q)) has_leaf files q with_body outcome out out_now log log_now
  run_with s outcome out out_now log log_mid log_now a w =
      let setup : run_setup files q ≡ Ok (setup_with files q s) = ap (λ s. s >>= λ settings. Ok (setup_with files q settings)) a.answered in
      record {
        wrote = subst (λ s. GainsDue (due_of s) outcome out out_now) (sym setup) w.wrote;
        reads = settings_reads files q.settings ++ w.reads;
        reads_are = record { request = w.reads; made = subst (λ s. AreRequestReads files q has_leaf with_body s w.reads) (sym setup) w.reads_are; are = refl };
        logged = gained_more outcome (settings_reads files q.settings) w.reads log log_mid log_now a.logged w.logged;
      }

-- ---- the command `get`

module _ (files : Files) (q : Requested) where
  pub got_of : (outcome : Outcome) (r : Refusal) (out : Option (List ℕ)) (log log_now : Option (List Read))
      → outcome ≡ refused_outcome r → AreSettingsRead files q.settings (Err r) log log_now → IsGet files q outcome out out log log_now
  unfolding get_due
  got_of outcome r out log log_now e a =
      run_refused (λ s. due_answer (s >>= λ o. answer o q.path None)) every_leaf files q true (λ r. refl) r outcome out log log_now e a

  pub got_with : (s : Settled) (outcome : Outcome) (out out_now : Option (List ℕ)) (log log_mid log_now : Option (List Read))
      → AreSettingsRead files q.settings (Ok s) log log_mid → IsAnswerWritten (setup_with files q s) q.path outcome out out_now log_mid log_now
      → IsGet files q outcome out out_now log log_now
  unfolding get_due
  got_with s outcome out out_now log log_mid log_now a w =
      run_with (λ s. due_answer (s >>= λ o. answer o q.path None)) every_leaf files q true s outcome out out_now log log_mid log_now a w

-- ---- the command `plan`

-- all reads were made before the output was written
pub gained_all : (due : Due) (outcome : Outcome) (out out_now : Option (List ℕ)) (reads : List Read) (log log_now : Option (List Read))
    → GainsDue due outcome out out_now → log_now ≡ told_with log reads → GainsReads reads outcome log log_now
gained_all due done out out_now reads log log_now wrote e = e
gained_all due (refused r) out out_now reads log log_now wrote e = e
gained_all due store_failed out out_now reads log log_now wrote e = GrewByPrefix-whole log log_now reads e
gained_all due sink_failed out out_now reads log log_now wrote e = GrewByPrefix-whole log log_now reads e
gained_all due no_memory out out_now reads log log_now wrote e = GrewByPrefix-whole log log_now reads e
gained_all due usage out out_now reads log log_now wrote e = wrote
gained_all due door_failed out out_now reads log log_now wrote e = wrote

module _ {X : Type 0} (items : X → List Listed) (o : Setup) (path : List ℕ) (outcome : Outcome) (cache cache_now : Cache) (none : cache ≡ []) (out : Option (List ℕ)) (log log_now : Option (List Read)) where
  abbrev rows_view : X → List ListedSegment
  rows_view rows = map listed_view (items rows)

  abbrev rows_reads : List Read
  rows_reads = path_reads is_index o [] false [] path None

  rows_are : AreReads is_index o [] false path None rows_reads
  rows_are = record { taken = []; are = refl }

  same_reads : path_reads is_index o cache false [] path None ≡ rows_reads
  same_reads = ap (λ (c : Cache). path_reads is_index o c false [] path None) none

  pub plan_refused : (r : Refusal) → outcome ≡ refused_outcome r → ListsPath rows_view o path (Err r) cache cache_now log log_now → IsPlanWritten o path outcome out out log log_now
  plan_refused r e lists =
      written_refused rows_reads r outcome out log log_now e (λ known_memory known_store. ap due_rows (lists.answered known_memory known_store)) rows_are
      (subst (λ (reads : List Read). LogsReads {X = List ℕ} (Err r) reads log log_now) same_reads lists.logged)

  pub plan_written : (rows : X) (shown : List Listed) (out_now : Option (List ℕ)) → shown ≡ items rows
      → GainsDue (plan_text (map listed_view shown), None) outcome out out_now
      → ListsPath rows_view o path (Ok rows) cache cache_now log log_now → IsPlanWritten o path outcome out out_now log log_now
  plan_written rows shown out_now all wrote lists =
      let due : due_rows (path_rows o path) ≡ (plan_text (map listed_view shown), None) =
      ap due_rows lists.answered ∙ ap (λ rows. (plan_text (map listed_view rows), None)) (sym all)
      in
      record {
        wrote = subst (λ due. GainsDue due outcome out out_now) (sym due) wrote;
        reads = rows_reads;
        reads_are = rows_are;
        logged = gained_all (plan_text (map listed_view shown), None) outcome out out_now rows_reads log log_now wrote (lists.logged ∙ ap (told_with log) same_reads);
      }

-- of a request that wasn't made for want of memory
pub plan_unmade : (o : Setup) (path : List ℕ) (out : Option (List ℕ)) (log : Option (List Read)) → IsPlanWritten o path no_memory out out log log
plan_unmade o path out log = record {
  wrote = GrewByPrefix-same out out (due_rows (path_rows o path)).0 refl;
  reads = path_reads is_index o [] false [] path None;
  reads_are = record { taken = []; are = refl };
  logged = GrewByPrefix-same log log (path_reads is_index o [] false [] path None) refl;
}

-- the same path by another name
pub plan_at : (o : Setup) (given path : List ℕ) (outcome : Outcome) (out out_now : Option (List ℕ)) (log log_now : Option (List Read)) → given ≡ path
    → IsPlanWritten o given outcome out out_now log log_now → IsPlanWritten o path outcome out out_now log log_now
plan_at o given path outcome out out_now log log_now same written = subst (λ (p : List ℕ). IsPlanWritten o p outcome out out_now log log_now) same written

module _ (files : Files) (q : Requested) where
  pub planned_of : (outcome : Outcome) (r : Refusal) (out : Option (List ℕ)) (log log_now : Option (List Read))
      → outcome ≡ refused_outcome r → AreSettingsRead files q.settings (Err r) log log_now → IsPlan files q outcome out out log log_now
  unfolding plan_due
  planned_of outcome r out log log_now e a =
      run_refused (λ s. due_rows (s >>= λ o. path_rows o q.path)) is_index files q false (λ r. refl) r outcome out log log_now e a

  pub planned_with : (s : Settled) (outcome : Outcome) (out out_now : Option (List ℕ)) (log log_mid log_now : Option (List Read))
      → AreSettingsRead files q.settings (Ok s) log log_mid → IsPlanWritten (setup_with files q s) q.path outcome out out_now log_mid log_now
      → IsPlan files q outcome out out_now log log_now
  unfolding plan_due
  planned_with s outcome out out_now log log_mid log_now a w =
      run_with (λ s. due_rows (s >>= λ o. path_rows o q.path)) is_index files q false s outcome out out_now log log_mid log_now a w

-- ---- the command `pack`

-- a packaging that is put to a sink ends a run with what is due
module _ (due : Due) (out out_now : Option (List ℕ)) where
  abbrev Put : Refusal → Outcome → Type 0
  Put r told = IsPackedAs due (Refused r) out out_now → GainsDue due told out out_now

  gains_by : (end : PackEnd) → IsPackedAs due end out out_now → GainsDue due (pack_outcome end) out out_now
  gains_by Whole put = put
  gains_by (Refused r) put = by_refusal Put (λ put. put.0) (λ put. put.0) (λ r memory store put. put.1 memory store) r put
  gains_by SinkFailed put = put

  pub packed_gains : (end : PackEnd) (outcome : Outcome) → outcome ≡ pack_outcome end → IsPackedAs due end out out_now → GainsDue due outcome out out_now
  packed_gains end outcome e put = subst (λ (told : Outcome). GainsDue due told out out_now) (sym e) (gains_by end put)

module _ (files : Files) (q : Requested) where
  pub packed_of : (outcome : Outcome) (r : Refusal) (out : Option (List ℕ)) (log log_now : Option (List Read))
      → outcome ≡ refused_outcome r → AreSettingsRead files q.settings (Err r) log log_now → IsPack files q outcome out out
  unfolding pack_due
  packed_of outcome r out log log_now e a =
      let due = due_with (run_setup files q) (λ o. packed_path o q.path) in
      let refuses : (r ≢ NoMemory → r ≢ StoreFailed → due ≡ ([], Some r)) = (λ known_memory known_store.
      ap (λ s. due_with (s >>= λ settings. Ok (setup_with files q settings)) (λ o. packed_path o q.path)) (a.answered known_memory known_store))
      in
      let gained = gained_refused due [] out None None r refuses (GrewByPrefix-same None None [] refl, λ known_memory known_store. refl) in
      subst (λ told. GainsDue due told out out) (sym e) gained.0

  pub packed_with : (s : Settled) (outcome : Outcome) (out out_now : Option (List ℕ)) (log log_mid : Option (List Read))
      → AreSettingsRead files q.settings (Ok s) log log_mid → IsPackWritten (setup_with files q s) q.path outcome out out_now → IsPack files q outcome out out_now
  unfolding pack_due
  packed_with s outcome out out_now log log_mid a w =
      let setup : run_setup files q ≡ Ok (setup_with files q s) = ap (λ s. s >>= λ settings. Ok (setup_with files q settings)) a.answered in
      subst (λ s. GainsDue (due_with s (λ o. packed_path o q.path)) outcome out out_now) (sym setup) w
