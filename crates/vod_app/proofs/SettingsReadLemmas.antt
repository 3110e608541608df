-- The settings of a run: what is answered and read in each case.
use Rattle.std.proofs.Common.{◌≡◌, ◌≢◌, ◌+◌, ◌-◌, zero, suc, ◌<◌, ◌≤◌, ℕ, Bool, true, false, List, [], ◌∷◌, length, take, Option, Some, None, Result, Ok, Err, refl, sym, ap, ◌∙◌, arith, subst}
use Rattle.std.specs.Prelude.{bytes_eq, codes, nat_le, ok_or, unwrap_or, option_and_then, option_map, if◌then◌else◌}
use Rattle.std.specs.Option.{option_map_or}
use Rattle.std.proofs.lemmas.Bool.{lt-leb, le-leb}
use Rattle.std.proofs.lemmas.List.{take_all}
use Rattle.std.proofs.lemmas.Slice.Eq.{bytes_eq-Decides}
use Rattle.vod_types.specs.declared.refusal.Refusal.{Refusal}
use Rattle.vod_types.specs.declared.refusal.Refusal.TheVariants.{NoMemory, StoreFailed, NoFile, BadSettings}
use Rattle.vod_types.specs.Ranges.{range_reads}
use Rattle.vod_types.proofs.RangesLemmas.{range_reads-last}
use Rattle.vod_types.specs.Results.{◌>>=◌, Answers}
use Rattle.vod_types.specs.Settled.{Settled}
use Rattle.vod_types.specs.Settings.{default_settings, settings_of, policy_of_text}
use Rattle.vod_types.specs.declared.settings.Policy.TheVariants.{LastShort}
use Rattle.vod_types.specs.Json.{json_value, or_default, object, array_within, number_within}
use Rattle.vod_types.specs.Options.{passing}
use Rattle.serde_json.specs.Find.{as_bool, as_str, get}
use Rattle.vod_source.specs.Ranges.{file_reads, of_file}
use Rattle.vod_source.proofs.RangeLemmas.{file_reads-zero}
use Rattle.vod_source.specs.Stored.{Files, Read, file_named, size_of, bytes_at, log_after}
use Rattle.vod_source.specs.Told.{told_with}
use Rattle.vod_source.proofs.ToldLemmas.{told_with-nil, GrewByPrefix-same}
use Rattle.origin_model.specs.Outcomes.{settings_named, settings_reads, settings_file_reads}
use Rattle.vod_source.proofs.CallLemmas.{answers_unless, logs_all}
use Rattle.vod_app.specs.Runs.{AreSettingsRead}

-- ---- names

not_default : (name : List ℕ) → name ≢ codes "-" → bytes_eq name (codes "-") ≡ false
not_default name other = by_test (bytes_eq name (codes "-")) refl
  where
    by_test : (test : Bool) → bytes_eq name (codes "-") ≡ test → bytes_eq name (codes "-") ≡ false
    by_test false e = e
    by_test true e = absurd (other ((bytes_eq-Decides name (codes "-")).0 e))

module _ (files : Files) where
  settings_named-default : settings_named files (codes "-") ≡ Ok default_settings
  unfolding settings_named
  settings_named-default = refl

  settings_reads-default : settings_reads files (codes "-") ≡ []
  unfolding settings_reads
  settings_reads-default = refl

  settings_named-file : (name : List ℕ) → name ≢ codes "-" → settings_named files name ≡ (ok_or (file_named files name) (NoFile name) >>= settings_of)
  unfolding settings_named
  settings_named-file name other = rw (not_default name other) refl

  settings_reads-file : (name : List ℕ) → name ≢ codes "-" → settings_reads files name ≡ option_map_or (settings_file_reads name) (file_named files name) []
  unfolding settings_reads
  settings_reads-file name other = rw (not_default name other) refl

-- ---- files

absent : (found : Option (List ℕ)) → option_map length found ≡ None → found ≡ None
absent None e = refl
absent (Some bytes) e = absurd cc

present : (found : Option (List ℕ)) (size : ℕ) → option_map length found ≡ Some size → (bytes : List ℕ) × (found ≡ Some bytes) × (length bytes ≡ size)
present None size e = absurd cc
present (Some bytes) size e = (bytes, refl, cc)

settings_of-long : (bytes : List ℕ) → 65536 < length bytes → settings_of bytes ≡ Err (BadSettings 1)
unfolding settings_of
settings_of-long bytes long = rw (lt-leb (length bytes) 65536 long) refl

one_read : (name : List ℕ) (n d : ℕ) → 0 < n → n + d ≡ 65536 → file_reads name 0 n ≡ (name, 0, n) ∷ []
unfolding file_reads range_reads
one_read name n zero some e =
    let all : n ≡ 65536 = omega arith in
    let P : ℕ → Type 0 = λ m. file_reads name 0 m ≡ (name, 0, m) ∷ [] in
    subst P (sym all) refl
one_read name n (suc d) some e = ap (λ reads. of_file name reads) (range_reads-last 0 n some (omega arith))

whole_read : (name : List ℕ) (n : ℕ) → 0 < n → n ≤ 65536 → file_reads name 0 n ≡ (name, 0, n) ∷ []
whole_read name n some few = one_read name n (65536 - n) some (omega arith)

short_reads : (name : List ℕ) (found : Option (List ℕ)) (bytes : List ℕ) (size : ℕ) → found ≡ Some bytes → length bytes ≡ size → size ≤ 65536
    → option_map_or (settings_file_reads name) found [] ≡ file_reads name 0 size
short_reads name found bytes size e same few =
    let fits : nat_le (length bytes) 65536 ≡ true = le-leb (length bytes) 65536 (omega (arith, same)) in
    ap (λ f. option_map_or (settings_file_reads name) f []) e
    ∙ (ap (λ test. if test then file_reads name 0 (length bytes) else []) fits ∙ ap (λ n. file_reads name 0 n) same)

-- ---- what the code answers

module _ (files : Files) (name : List ℕ) (log : Option (List Read)) where
  pub default_read : name ≡ codes "-" → AreSettingsRead files name (Ok default_settings) log log
  default_read e = record {
    answered = rw e (settings_named-default files);
    logged = rw (e, settings_reads-default files) (sym (told_with-nil log));
  }

  pub absent_read : (r : Refusal) → name ≢ codes "-" → None ≡ size_of files name → (r ≢ NoMemory → r ≡ NoFile name) → AreSettingsRead files name (Err r) log log
  absent_read r other e due =
      let none = absent (file_named files name) (sym e) in
      let no_reads : settings_reads files name ≡ [] = settings_reads-file files name other ∙ rw none refl in
      record {
        answered = λ known_memory known_store. settings_named-file files name other ∙ rw none (ap Err (sym (due known_memory)));
        logged = logs_all {X = Settled} (Err r) (settings_reads files name) log log (rw no_reads (sym (told_with-nil log)));
      }

  -- where the store failed, nothing was read
  pub failed_read : AreSettingsRead files name (Err StoreFailed) log log
  failed_read = record {
    answered = λ known_memory known_store. absurd (known_store refl);
    logged = (GrewByPrefix-same log log (settings_reads files name) refl, λ known_memory known_store. absurd (known_store refl));
  }

  pub long_read : (size : ℕ) → name ≢ codes "-" → size_of files name ≡ Some size → 65536 < size → AreSettingsRead files name (Err (BadSettings 1)) log log
  long_read size other e long =
      let there = present (file_named files name) size e in
      let many : 65536 < length there.0 = omega (arith, there.2) in
      let no_reads : settings_reads files name ≡ [] =
      settings_reads-file files name other ∙ rw there.1 (rw (lt-leb (length there.0) 65536 many) refl)
      in
      record {
        answered = λ known_memory known_store. settings_named-file files name other ∙ rw there.1 (settings_of-long there.0 many);
        logged = logs_all {X = Settled} (Err (BadSettings 1)) (settings_reads files name) log log (rw no_reads (sym (told_with-nil log)));
      }

  pub file_read : (result : Result Settled Refusal) (size : ℕ) {log_now : Option (List Read)} → name ≢ codes "-" → size_of files name ≡ Some size → size ≤ 65536
      → Answers (λ s. s) result (settings_of (bytes_at files name 0 size)) → log_now ≡ told_with log (file_reads name 0 size)
      → AreSettingsRead files name result log log_now
  file_read result size {log_now} other e few due logged =
      let there = present (file_named files name) size e in
      let all : bytes_at files name 0 size ≡ there.0 = ap (λ found. take size (unwrap_or found [])) there.1 ∙ take_all size there.0 (omega (arith, there.2)) in
      let reads : settings_reads files name ≡ file_reads name 0 size =
      settings_reads-file files name other ∙ short_reads name (file_named files name) there.0 size there.1 there.2 few
      in
      let named : settings_named files name ≡ settings_of (bytes_at files name 0 size) = settings_named-file files name other ∙ (ap (λ found. ok_or found (NoFile name) >>= settings_of) there.1 ∙ ap settings_of (sym all)) in
      record {
        answered = rw named (answers_unless (λ s. s) result (settings_of (bytes_at files name 0 size)) due);
        logged = logs_all result (settings_reads files name) log log_now (rw reads logged);
      }

  pub short_read : (result : Result Settled Refusal) (size : ℕ) {log_now : Option (List Read)} → name ≢ codes "-" → size_of files name ≡ Some size → 0 < size → size ≤ 65536
      → Answers (λ s. s) result (settings_of (bytes_at files name 0 size)) → log_now ≡ told_with log ((name, 0, size) ∷ [])
      → AreSettingsRead files name result log log_now
  short_read result size other e some few due logged =
      file_read result size other e few due (rw (whole_read name size some few) logged)

  pub empty_read : (result : Result Settled Refusal) → name ≢ codes "-" → size_of files name ≡ Some 0 → Answers (λ s. s) result (settings_of []) → AreSettingsRead files name result log log
  empty_read result other e due =
      file_read result 0 other e (omega arith) due (rw (file_reads-zero name 0) (sym (told_with-nil log)))

-- ---- no rule of the settings speaks of the store

-- a refusal that isn't the store's
abbrev Broken : Refusal → Type 0
Broken r = r ≢ StoreFailed

rule_refused : {A : Type 0} (found : Option A) (rule : ℕ) (f : A → Result Settled Refusal) → ((x : A) (e : Refusal) → f x ≡ Err e → Broken e)
    → (e : Refusal) → (ok_or found (BadSettings rule) >>= f) ≡ Err e → Broken e
rule_refused None rule f later e h = λ is_store. let same : BadSettings rule ≡ StoreFailed = cc in absurd (broken_store rule same)
  where
    broken_store : (rule : ℕ) → BadSettings rule ≢ StoreFailed
    broken_store rule same = cc
rule_refused (Some x) rule f later e h = later x e h

pub settings_of-refused : (bytes : List ℕ) (e : Refusal) → settings_of bytes ≡ Err e → Broken e
unfolding settings_of
settings_of-refused bytes =
    rule_refused (passing (λ bs. nat_le (length bs) 65536) bytes) 1 _ (λ text.
    rule_refused (option_and_then object (json_value text)) 2 _ (λ members.
    rule_refused (or_default 10000 (number_within 1 600000) (get (codes "segment_ms") members)) 3 _ (λ segment_ms.
    rule_refused (or_default [] (array_within 0 16 (number_within 1 600000)) (get (codes "bootstrap") members)) 4 _ (λ bootstrap.
    rule_refused (or_default false as_bool (get (codes "align") members)) 5 _ (λ align.
    rule_refused (or_default LastShort (λ d. option_and_then policy_of_text (as_str d)) (get (codes "policy") members)) 6 _ (λ policy.
    rule_refused (or_default false as_bool (get (codes "hls_fmp4") members)) 7 _ (λ hls_fmp4.
    rule_refused (or_default false as_bool (get (codes "ignore_edits") members)) 8 _ (λ ignore_edits.
    rule_refused (or_default false as_bool (get (codes "iframes") members)) 9 _
    (λ iframes e h. absurd (ok_is_err _ e h))))))))))
  where
    ok_is_err : (s : Settled) (r : Refusal) → ◌≡◌ {A = Result Settled Refusal} (Ok s) (Err r) → ⊥
    ok_is_err s r e = cc

-- so a call that answers the settings of some bytes never answers that the store failed
pub not_store_failed : (result : Result Settled Refusal) (bytes : List ℕ) → Answers (λ s. s) result (settings_of bytes) → result ≢ Err StoreFailed
not_store_failed (Ok s) bytes h same = cc
not_store_failed (Err e) bytes h same =
    let is_store : e ≡ StoreFailed = cc in
    settings_of-refused bytes e (h (λ is_memory. cc)) is_store

-- ---- loans

-- a loan that was answered stands in the log
pub lent : {X E : Type 0} (result : Result X E) (x : X) (log now : Option (List Read)) (read : Read) → result ≡ Ok x → now ≡ log_after log read result
    → now ≡ told_with log (read ∷ [])
lent result x log now read e h = h ∙ ap (log_after log read) e

-- a text that the test of the code finds to be `-`, or not
pub is_default : (name : List ℕ) → true ≡ bytes_eq name (codes "-") → name ≡ codes "-"
is_default name e = (bytes_eq-Decides name (codes "-")).0 (sym e)

pub other_than_default : (name : List ℕ) → false ≡ bytes_eq name (codes "-") → name ≢ codes "-"
other_than_default name e same = let found : bytes_eq name (codes "-") ≡ true = (bytes_eq-Decides name (codes "-")).1 same in absurd (differ found)
  where
    differ : bytes_eq name (codes "-") ≡ true → ⊥
    differ found = cc
