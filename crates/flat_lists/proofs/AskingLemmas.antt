-- What a request is about: what is answered and read in each case.
use Rattle.std.proofs.Common.{◌≡◌, ◌≢◌, ℕ, ◌<◌, ◌≤◌, Bool, true, false, List, [], ◌∷◌, length, take, Option, Some, None, Result, Ok, Err, refl, sym, ap, ◌∙◌, arith, subst, IfErr}
use Rattle.std.specs.Prelude.{bytes_eq, codes, nat_le, ok_or, option_map, unwrap_or, if◌then◌else◌, length, ◌==◌}
use Rattle.std.proofs.lemmas.Bool.{lt-leb, le-leb, lt-ltb, le-ltb}
use Rattle.std.proofs.lemmas.List.{take_all}
use Rattle.vod_types.specs.declared.paths.Ask.{Ask}
use Rattle.vod_types.specs.declared.refusal.Refusal.{Refusal}
use Rattle.vod_types.specs.declared.refusal.Refusal.TheVariants.{StoreFailed, NoMapping, MappingTooLong, BadJson, BadMapping, Unsupported}
use Rattle.vod_types.specs.Results.{◌>>=◌, Answers, each_in_turn}
use Rattle.clip_model.specs.Mapping.{Mapping, source, concat, sequence_at}
use Rattle.clip_model.specs.Members.{concat_clip, source_clip}
use Rattle.clip_model.specs.Walk.{without_members, vod_alone, typed_clip, clip_of, sequence_of, mapping_of_object, mapping_of}
use Rattle.vod_source.specs.Ranges.{file_reads}
use Rattle.vod_source.specs.Stored.{Files, Read, file_named, size_of, bytes_at}
use Rattle.vod_source.specs.Told.{told_with}
use Rattle.list_model.specs.Path.{is_local}
use Rattle.origin_model.specs.Requests.{Setup, asking_of, mapping_by, mapping_file}
use Rattle.flat_lists.specs.declared.subject.Asking.{Asking}
use Rattle.flat_lists.specs.Asked.{asking_view}
use Rattle.vod_source.specs.Calls.{Came}
use Rattle.flat_lists.specs.Mapped.{mapping_file_reads}
use Rattle.vod_source.proofs.CallLemmas.{NotFailed, came-read, came-unread, not_failed-found, not_failed-step, refusal-not_failed}
use Rattle.vod_types.specs.declared.paths.Window.{Window}
use Rattle.vod_types.specs.declared.tracks.TrackName.{TrackName}
use Rattle.vod_types.specs.Tracks.{default_tracks}
use Rattle.clip_model.specs.Timeline.{Timeline, timeline_of, selected, sequence_timeline}
use Rattle.vod_types.specs.declared.refusal.Refusal.TheVariants as refusals

-- ---- no mapping is refused as a failure of the store

not_failed-each : {A B : Type 0} (f : A → Result B Refusal) → ((x : A) → NotFailed (f x)) → (xs : List A) → NotFailed (each_in_turn f xs)
not_failed-each f h [] = tt
not_failed-each f h (x ∷ xs) =
    not_failed-step (f x) _ (h x) (λ y. not_failed-step (each_in_turn f xs) _ (not_failed-each f h xs) (λ ys. tt))

not_failed-chosen : {A : Type 0} (test : Bool) (r s : Result A Refusal) → NotFailed r → NotFailed s → NotFailed (if test then r else s)
not_failed-chosen true r s h i = h
not_failed-chosen false r s h i = i

broken_rule : (rule : ℕ) → BadMapping rule ≢ StoreFailed
broken_rule rule e = cc

unsupported : (name : List ℕ) → Unsupported name ≢ StoreFailed
unsupported name e = cc

bad_json : BadJson ≢ StoreFailed
bad_json e = cc

by_rule-not_failed : {A B : Type 0} (found : Option A) (rule : ℕ) (f : A → Result B Refusal) → ((x : A) → NotFailed (f x)) → NotFailed (ok_or found (BadMapping rule) >>= f)
by_rule-not_failed found rule f later = not_failed-step (ok_or found (BadMapping rule)) f (not_failed-found found (BadMapping rule) (broken_rule rule)) later

without_members-not_failed : (names : List (List ℕ)) (d : _) → NotFailed (without_members names d)
without_members-not_failed [] d = tt
without_members-not_failed (name ∷ names) d =
    not_failed-chosen _ (Err (Unsupported name)) (without_members names d) (unsupported name) (without_members-not_failed names d)

vod_alone-not_failed : (d : _) → NotFailed (vod_alone d)
vod_alone-not_failed d = not_failed-chosen _ (Ok tt) (Err (Unsupported (codes "playlistType"))) tt (unsupported (codes "playlistType"))

typed_clip-not_failed : (given : Bool) (type : List ℕ) (clip : _) → NotFailed (typed_clip given type clip)
typed_clip-not_failed given type clip =
    not_failed-chosen (bytes_eq type (codes "source")) _ _ (not_failed-found (option_map source (source_clip clip)) (BadMapping 10) (broken_rule 10))
    (not_failed-chosen (bytes_eq type (codes "concat")) _ _ (not_failed-found (option_map concat (concat_clip given clip)) (BadMapping 11) (broken_rule 11)) (unsupported type))

pub mapping_of-not_failed : (bytes : List ℕ) → NotFailed (mapping_of bytes)
unfolding mapping_of mapping_of_object sequence_of clip_of
mapping_of-not_failed bytes =
    search (by_rule-not_failed, not_failed-step, not_failed-found, not_failed-each, without_members-not_failed, vod_alone-not_failed, typed_clip-not_failed, bad_json) depth 24

-- ---- mapping files

absent : (found : Option (List ℕ)) → None ≡ option_map length found → found ≡ None
absent None e = refl
absent (Some bytes) e = absurd cc

present : (found : Option (List ℕ)) (size : ℕ) → Some size ≡ option_map length found → (bytes : List ℕ) × (found ≡ Some bytes) × (length bytes ≡ size)
present None size e = absurd cc
present (Some bytes) size e = (bytes, refl, cc)

module _ (files : Files) (name : List ℕ) where
  mapping_file-absent : file_named files name ≡ None → mapping_file files name ≡ Err (NoMapping name)
  unfolding mapping_file
  mapping_file-absent e = rw e refl

  mapping_file-long : (bytes : List ℕ) → file_named files name ≡ Some bytes → 1048576 < length bytes → mapping_file files name ≡ Err (MappingTooLong (length bytes))
  unfolding mapping_file
  mapping_file-long bytes e long = rw (e, lt-ltb 1048576 (length bytes) long) refl

  mapping_file-read : (bytes : List ℕ) → file_named files name ≡ Some bytes → length bytes ≤ 1048576 → mapping_file files name ≡ mapping_of bytes
  unfolding mapping_file
  mapping_file-read bytes e few = rw (e, le-ltb 1048576 (length bytes) few) refl

  module _ (log : Option (List Read)) where
    pub mapping-absent : None ≡ size_of files name → Came {X = Mapping} (λ m. m) (Err (NoMapping name)) (mapping_file files name) (mapping_file_reads files name) log log
    mapping-absent e =
        let none = absent (file_named files name) e in
        rw none (came-unread (λ m. m) (mapping_file files name) log (Err (NoMapping name)) (λ other. mapping_file-absent none))

    pub mapping-long : (size : ℕ) → Some size ≡ size_of files name → 1048576 < size
        → Came {X = Mapping} (λ m. m) (Err (MappingTooLong size)) (mapping_file files name) (mapping_file_reads files name) log log
    mapping-long size e long =
        let there = present (file_named files name) size e in
        let many : 1048576 < length there.0 = omega (arith, there.2) in
        let none : mapping_file_reads files name ≡ [] = rw (there.1, lt-leb (length there.0) 1048576 many) refl in
        rw none (came-unread (λ m. m) (mapping_file files name) log (Err (MappingTooLong size)) (λ other. mapping_file-long there.0 there.1 many ∙ ap (λ n. Err (MappingTooLong n)) there.2))

    -- the reads of a file that isn't too long
    short_reads : (size : ℕ) → Some size ≡ size_of files name → size ≤ 1048576 → mapping_file_reads files name ≡ file_reads name 0 size
    short_reads size e few =
        let there = present (file_named files name) size e in
        let fits : nat_le (length there.0) 1048576 ≡ true = le-leb (length there.0) 1048576 (omega (arith, there.2)) in
        rw (there.1, fits) (ap (λ n. file_reads name 0 n) there.2)

    pub mapping-read : (result : Result Mapping Refusal) (size : ℕ) (bytes : List ℕ) {log_now : Option (List Read)} → Some size ≡ size_of files name → size ≤ 1048576
        → bytes ≡ bytes_at files name 0 size → Answers (λ m. m) result (mapping_of bytes) → log_now ≡ told_with log (file_reads name 0 size)
        → Came (λ m. m) result (mapping_file files name) (mapping_file_reads files name) log log_now
    mapping-read result size bytes {log_now} e few same answers logged =
        let there = present (file_named files name) size e in
        let all : bytes_at files name 0 size ≡ there.0 = ap (λ found. take size (unwrap_or found [])) there.1 ∙ take_all size there.0 (omega (arith, there.2)) in
        let due : mapping_of bytes ≡ mapping_file files name = ap mapping_of (same ∙ all) ∙ sym (mapping_file-read there.0 there.1 (omega (arith, there.2))) in
        came-read (λ m. m) (mapping_file files name) (mapping_file_reads files name) log log_now result (subst (Answers (λ m. m) result) due answers)
        (logged ∙ ap (told_with log) (sym (short_reads size e few)))

-- ---- what a request is about

module _ (o : Setup) (ask : Ask) (reads : List Read) (log log_now : Option (List Read)) where
  abbrev mapping_due : Result Mapping Refusal
  mapping_due = mapping_by o (is_local ask.place) ask.target ask.tracks

  asking_of-by : asking_of o ask ≡ (mapping_due >>= λ m. Ok (record { mapping = m; window = ask.window; tracks = ask.tracks }))
  unfolding asking_of
  asking_of-by = refl

  pub asked-ok : (m : Mapping) (a : Asking) → asking_view a ≡ record { mapping = m; window = ask.window; tracks = ask.tracks } → Came (λ m. m) (Ok m) mapping_due reads log log_now
      → Came asking_view (Ok a) (asking_of o ask) reads log log_now
  asked-ok m a same came = record { answered = asking_of-by ∙ rw came.answered (ap Ok (sym same)); logged = came.logged }

  pub asked-err : (e : Refusal) → Came {X = Mapping} (λ m. m) (Err e) mapping_due reads log log_now → Came {X = Asking} asking_view (Err e) (asking_of o ask) reads log log_now
  asked-err e came = record { answered = λ known_memory known_store. asking_of-by ∙ rw (came.answered known_memory known_store) refl; logged = came.logged }

-- ---- a timeline is never refused for a failure of the store

selected_not_failed : (b : Bool) (n : ℕ) (t : Timeline) → NotFailed (if b then Err (refusals.NothingSelected n) else Ok t)
selected_not_failed true n t = λ e. absurd cc
selected_not_failed false n t = tt

pub timeline_not_failed : (root : List ℕ) (m : Mapping) (number : ℕ) (w : Window) (tracks : Option (List TrackName)) → NotFailed (timeline_of root m number w tracks)
unfolding timeline_of
timeline_not_failed root m number w tracks =
    not_failed-step (ok_or (sequence_at m number) (refusals.NoSequence number (length m.sequences))) (λ s. selected number (sequence_timeline root (unwrap_or tracks default_tracks) m w s))
    (not_failed-found (sequence_at m number) (refusals.NoSequence number (length m.sequences)) (λ e. absurd cc))
    (λ s. selected_not_failed (length (sequence_timeline root (unwrap_or tracks default_tracks) m w s).pieces == 0) number (sequence_timeline root (unwrap_or tracks default_tracks) m w s))

pub timeline_refused : (root : List ℕ) (m : Mapping) (number : ℕ) (w : Window) (tracks : Option (List TrackName)) (r : Result Timeline Refusal) → Answers (λ t. t) r (timeline_of root m number w tracks) → IfErr r (λ refusal. refusal ≢ StoreFailed)
timeline_refused root m number w tracks (Ok t) h = tt
timeline_refused root m number w tracks (Err e) h = refusal-not_failed (timeline_of root m number w tracks) e (timeline_not_failed root m number w tracks) h
