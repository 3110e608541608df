-- What is written and read of a body, step by step.
use Rattle.std.proofs.Common.{◌≡◌, ◌≢◌, ℕ, Bool, true, false, List, [], ◌++◌, Option, Some, None, IfSome, Ok, Err, refl, sym, ap, ◌∙◌, subst, append_assoc}
use Rattle.vod_types.specs.declared.media.Media.{Media}
use Rattle.vod_types.specs.declared.refusal.Refusal.{Refusal}
use Rattle.vod_types.specs.declared.refusal.Refusal.TheVariants.{BadNal, NoMemory, StoreFailed}
use Rattle.vod_types.specs.Settled.{Settled}
use Rattle.list_model.specs.Command.{Outcome, done, no_memory, refused, store_failed, sink_failed}
use Rattle.list_model.specs.Reply.{Answer, End, whole}
use Rattle.vod_source.specs.declared.step.Step.TheVariants as steps
use Rattle.vod_source.specs.Calls.{LogsReads}
use Rattle.vod_source.specs.Stored.{Files, Read}
use Rattle.vod_source.specs.Told.{told_with, GrewByPrefix}
use Rattle.vod_source.proofs.ToldLemmas.{GrewByPrefix-after, GrewByPrefix-same, told_with-more, told_with-nil}
use Rattle.vod_http.specs.Answered.{Advances, IsReply, Rest, rest_of}
use Rattle.vod_http.specs.declared.answerer.Reply.TheVariants.{Body, Refused}
use Rattle.origin_model.specs.Answers.{answer, every_leaf}
use Rattle.origin_model.specs.Outcomes.{Due, GainsDue, GainsReads, due_answer}
use Rattle.origin_model.specs.Reads.{AreReads, Cache, path_reads}
use Rattle.origin_model.specs.Requests.{Setup}
use Rattle.vod_origin.specs.Begun.{Begins}
use Rattle.vod_origin.specs.Bodies.{rest_in, rest_with}
use Rattle.vod_origin.specs.declared.cursor.Cursor.{Cursor}
use Rattle.vod_origin.specs.Kept.{origin_answer}
use Rattle.vod_origin.specs.Reads.{LogsStep, ReadsForPath, origin_reads, reads_left}
use Rattle.vod_origin.proofs.PathReads.{reads_anew}
use Rattle.vod_app.specs.Runs.{IsAnswerWritten, due_rest, refused_outcome}
use Rattle.vod_app.proofs.RunLemmas.{gained_more, written_refused}

-- ---- lists that grow in steps

-- a list gained some of these, and is to gain the others
pub record IsOnItsWay {A : Type 0} (before now : Option (List A)) (all others : List A) : Type 0 where
  pub done : List A
  pub grew : now ≡ told_with before done
  pub all_is : all ≡ done ++ others

begun : {A : Type 0} (told : Option (List A)) (all : List A) → IsOnItsWay told told all all
begun told all = record { done = []; grew = sym (told_with-nil told); all_is = refl }

module _ {A : Type 0} (before middle now : Option (List A)) (all left : List A) (way : IsOnItsWay before middle all left) where
  gained : (next others : List A) → left ≡ next ++ others → now ≡ told_with middle next → IsOnItsWay before now all others
  gained next others split grew = record {
    done = way.done ++ next;
    grew = told_with-more before middle now way.done next way.grew grew;
    all_is = way.all_is ∙ ap (λ xs. way.done ++ xs) split ∙ sym (append_assoc way.done next others);
  }

  ended : now ≡ told_with middle left → now ≡ told_with before all
  ended grew = told_with-more before middle now way.done left way.grew grew ∙ ap (told_with before) (sym way.all_is)

  failed : GrewByPrefix middle now left → GrewByPrefix before now all
  failed grew = subst (GrewByPrefix before now) (sym way.all_is) (GrewByPrefix-after way.done way.grew grew)

-- ---- a body

-- some of what was left of it at first was written
pub record IsPartWritten (rest left : Rest) (before now : Option (List ℕ)) : Type 0 where
  pub way : IsOnItsWay before now rest.0 left.0
  pub end : left.1 ≡ rest.1

module _ (first : Cursor) where
  abbrev pub Wrote : Option Files → Cursor → Option (List ℕ) → Option (List ℕ) → Type 0
  Wrote content left before now = IfSome content (λ files. IsPartWritten (rest_with files first) (rest_with files left) before now)

  abbrev pub HasRead : Option Files → Cursor → Option (List Read) → Option (List Read) → Type 0
  HasRead content left log log_now = IfSome content (λ files. IsOnItsWay log log_now (reads_left files first) (reads_left files left))

  pub none_written : (content : Option Files) (before : Option (List ℕ)) → Wrote content first before before
  none_written None before = tt
  none_written (Some files) before = record { way = begun before (rest_with files first).0; end = refl }

  pub none_read : (content : Option Files) (log : Option (List Read)) → HasRead content first log log
  none_read None log = tt
  none_read (Some files) log = begun log (reads_left files first)

  module _ (left : Cursor) (before middle now : Option (List ℕ)) where
    pub written_again : (content : Option Files) (next : Cursor) → Wrote content left before middle → Advances (rest_in content left) (rest_in content next) middle now steps.Again → Wrote content next before now
    written_again None next wrote advanced = tt
    written_again (Some files) next wrote advanced =
        let after : rest_with files next ≡ (advanced.1, (rest_with files left).1) = cc in
        record {
          way = gained before middle now (rest_with files first).0 (rest_with files left).0 wrote.way advanced.0 (rest_with files next).0 (advanced.2 ∙ ap (λ (r : Rest). advanced.0 ++ r.0) (sym after)) advanced.4;
          end = ap (λ (r : Rest). r.1) after ∙ wrote.end;
        }

    pub written_whole : (content : Option Files) (next : Cursor) → Wrote content left before middle → Advances (rest_in content left) (rest_in content next) middle now steps.Whole
        → IfSome content (λ files. GainsDue (due_rest (rest_with files first)) done before now)
    written_whole None next wrote advanced = tt
    written_whole (Some files) next wrote advanced = (
      by_end (rest_with files first).1 (sym wrote.end ∙ advanced.0),
      ended before middle now (rest_with files first).0 (rest_with files left).0 wrote.way advanced.1,
    )
      where
        by_end : (end : End) → end ≡ whole → (due_rest ([], end)).1 ≡ None
        by_end end is = ap (λ (e : End). (due_rest ([], e)).1) is

    pub written_cut : (content : Option Files) (next : Cursor) (file sample : ℕ) → Wrote content left before middle → Advances (rest_in content left) (rest_in content next) middle now (steps.BadNal file sample)
        → IfSome content (λ files. GainsDue (due_rest (rest_with files first)) (refused (BadNal file sample)) before now)
    written_cut None next file sample wrote advanced = tt
    written_cut (Some files) next file sample wrote advanced = (
      ap (λ (e : End). (due_rest ([], e)).1) (sym wrote.end ∙ advanced.0),
      ended before middle now (rest_with files first).0 (rest_with files left).0 wrote.way advanced.1,
    )

    pub written_store : (content : Option Files) (next : Cursor) → Wrote content left before middle → Advances (rest_in content left) (rest_in content next) middle now steps.StoreFailed
        → IfSome content (λ files. GainsDue (due_rest (rest_with files first)) store_failed before now)
    written_store None next wrote advanced = tt
    written_store (Some files) next wrote advanced = failed before middle now (rest_with files first).0 (rest_with files left).0 wrote.way advanced

    pub written_sink : (content : Option Files) (next : Cursor) → Wrote content left before middle → Advances (rest_in content left) (rest_in content next) middle now steps.SinkFailed
        → IfSome content (λ files. GainsDue (due_rest (rest_with files first)) sink_failed before now)
    written_sink None next wrote advanced = tt
    written_sink (Some files) next wrote advanced = failed before middle now (rest_with files first).0 (rest_with files left).0 wrote.way advanced

  module _ (left next : Cursor) (log middle log_now : Option (List Read)) where
    pub read_again : (content : Option Files) → HasRead content left log middle → IfSome content (λ files. LogsStep steps.Again (reads_left files left) (reads_left files next) middle log_now)
        → HasRead content next log log_now
    read_again None read logged = tt
    read_again (Some files) read logged = gained log middle log_now (reads_left files first) (reads_left files left) read logged.0 (reads_left files next) logged.1 logged.2

    pub read_ended : (content : Option Files) → HasRead content left log middle → IfSome content (λ files. log_now ≡ told_with middle (reads_left files left))
        → IfSome content (λ files. log_now ≡ told_with log (reads_left files first))
    read_ended None read logged = tt
    read_ended (Some files) read logged = ended log middle log_now (reads_left files first) (reads_left files left) read logged

    pub read_failed : (content : Option Files) → HasRead content left log middle → IfSome content (λ files. GrewByPrefix middle log_now (reads_left files left))
        → IfSome content (λ files. GrewByPrefix log log_now (reads_left files first))
    read_failed None read logged = tt
    read_failed (Some files) read logged = failed log middle log_now (reads_left files first) (reads_left files left) read logged

-- ---- an answer

module _ (o : Setup) (path : List ℕ) where
  abbrev due : Due
  due = due_answer (answer o path None)

  abbrev reads : List Read
  reads = path_reads every_leaf o [] true [] path None

  are : AreReads every_leaf o [] true path None reads
  are = record { taken = []; are = refl }

  refused_due : (before now : ℕ) (e : Refusal) → IsReply {C = Cursor} None (Some (answer o path None)) before now (Refused e) → e ≢ NoMemory → e ≢ StoreFailed → due ≡ ([], Some e)
  refused_due before now NoMemory reply known_memory known_store = absurd (known_memory refl)
  refused_due before now StoreFailed reply known_memory known_store = absurd (known_store refl)
  refused_due before now e reply known_memory known_store = ap due_answer reply.1

  -- of a request that was refused
  pub answer_refused : (before now : ℕ) (e : Refusal) (outcome : Outcome) (cache cache_now : Cache) (out : Option (List ℕ)) (log log_now : Option (List Read)) → outcome ≡ refused_outcome e
      → IsReply {C = Cursor} None (Some (answer o path None)) before now (Refused e) → cache ≡ [] → ReadsForPath o false path None (Refused e) cache cache_now log log_now
      → IsAnswerWritten o path outcome out out log log_now
  answer_refused before now e outcome cache cache_now out log log_now is reply none read =
      let all : origin_reads o cache false path None ≡ reads = ap (λ (c : Cache). origin_reads o c false path None) none ∙ reads_anew o path None in
      written_refused reads e outcome out log log_now is (refused_due before now e reply) are (subst (λ (r : List Read). LogsReads {X = List ℕ} (Err e) r log log_now) all read.logged)

  -- of one that wasn't made for want of memory
  pub answer_unmade : (out : Option (List ℕ)) (log : Option (List Read)) → IsAnswerWritten o path no_memory out out log log
  answer_unmade out log = record { wrote = GrewByPrefix-same out out due.0 refl; reads = reads; reads_are = are; logged = GrewByPrefix-same log log reads refl }

  -- of one whose body was written, as far as it came
  pub answer_written : (kind : Media) (n : Option ℕ) (part : Option (ℕ × ℕ × ℕ)) (cursor : Cursor) (outcome : Outcome) (cache cache_now : Cache) (out out_now : Option (List ℕ)) (log log_mid log_now : Option (List Read))
      → rest_in (Some o.files) cursor ≡ rest_of (Some (answer o path None)) → cache ≡ [] → ReadsForPath o false path None (Body kind n part cursor) cache cache_now log log_mid
      → GainsDue (due_rest (rest_with o.files cursor)) outcome out out_now → GainsReads (reads_left o.files cursor) outcome log_mid log_now
      → IsAnswerWritten o path outcome out out_now log log_now
  answer_written kind n part cursor outcome cache cache_now out out_now log log_mid log_now rests none read wrote logged =
      let all : reads ≡ origin_reads o cache false path None = sym (ap (λ (c : Cache). origin_reads o c false path None) none ∙ reads_anew o path None) in
      record {
        wrote = subst (λ (d : Due). GainsDue d outcome out out_now) (by_answer (answer o path None) rests) wrote;
        reads = reads;
        reads_are = are;
        logged = subst (λ (r : List Read). GainsReads r outcome log log_now) (sym (all ∙ read.logged.1)) (gained_more outcome read.logged.0 (reads_left o.files cursor) log log_mid log_now read.logged.2 logged);
      }
    where
      by_answer : (a : Answer) → Some (rest_with o.files cursor) ≡ rest_of (Some a) → due_rest (rest_with o.files cursor) ≡ due_answer a
      by_answer (Err e) is = absurd cc
      by_answer (Ok body) is = let same : rest_with o.files cursor ≡ (body.bytes, body.end) = cc in ap due_rest same

-- where files are told
module _ (settings : Settled) (root : List ℕ) (content : Option Files) where
  abbrev setup : Files → Setup
  setup files = record { settings = settings; root = root; files = files }

  abbrev told : List ℕ → Option Answer
  told path = origin_answer (record { settings = settings; root = root; content = content }) path None

  pub through_refused : (path : List ℕ) (before now : ℕ) (e : Refusal) (outcome : Outcome) (cache cache_now : Cache) (out : Option (List ℕ)) (log log_now : Option (List Read)) → outcome ≡ refused_outcome e → cache ≡ []
      → IsReply {C = Cursor} None (told path) before now (Refused e) → IfSome content (λ files. ReadsForPath (setup files) false path None (Refused e) cache cache_now log log_now)
      → IfSome content (λ files. IsAnswerWritten (setup files) path outcome out out log log_now)
  through_refused path before now e outcome cache cache_now out log log_now is none reply read = by_content content reply read
    where
      by_content : (content : Option Files) → IsReply {C = Cursor} None (origin_answer (record { settings = settings; root = root; content = content }) path None) before now (Refused e)
          → IfSome content (λ files. ReadsForPath (setup files) false path None (Refused e) cache cache_now log log_now)
          → IfSome content (λ files. IsAnswerWritten (setup files) path outcome out out log log_now)
      by_content None reply read = tt
      by_content (Some files) reply read = answer_refused (setup files) path before now e outcome cache cache_now out log log_now is reply none read

  pub through_body : (middle : Option Files) (path : List ℕ) (kind : Media) (n : Option ℕ) (part : Option (ℕ × ℕ × ℕ)) (cursor : Cursor) (outcome : Outcome) (cache cache_now : Cache)
      (out out_now : Option (List ℕ)) (log log_mid log_now : Option (List Read)) → middle ≡ content → cache ≡ []
      → (◌≡◌ {A = Bool} false false → Begins (told path) content (Body kind n part cursor)) → IfSome content (λ files. ReadsForPath (setup files) false path None (Body kind n part cursor) cache cache_now log log_mid)
      → IfSome middle (λ files. GainsDue (due_rest (rest_with files cursor)) outcome out out_now) → IfSome middle (λ files. GainsReads (reads_left files cursor) outcome log_mid log_now)
      → IfSome content (λ files. IsAnswerWritten (setup files) path outcome out out_now log log_now)
  through_body middle path kind n part cursor outcome cache cache_now out out_now log log_mid log_now same none begins read wrote logged =
      by_content content (begins refl).rest read (subst (λ (c : Option Files). IfSome c (λ files. GainsDue (due_rest (rest_with files cursor)) outcome out out_now)) same wrote)
      (subst (λ (c : Option Files). IfSome c (λ files. GainsReads (reads_left files cursor) outcome log_mid log_now)) same logged)
    where
      by_content : (content : Option Files) → rest_in content cursor ≡ rest_of (origin_answer (record { settings = settings; root = root; content = content }) path None)
          → IfSome content (λ files. ReadsForPath (setup files) false path None (Body kind n part cursor) cache cache_now log log_mid)
          → IfSome content (λ files. GainsDue (due_rest (rest_with files cursor)) outcome out out_now) → IfSome content (λ files. GainsReads (reads_left files cursor) outcome log_mid log_now)
          → IfSome content (λ files. IsAnswerWritten (setup files) path outcome out out_now log log_now)
      by_content None rests read wrote logged = tt
      by_content (Some files) rests read wrote logged =
          answer_written (setup files) path kind n part cursor outcome cache cache_now out out_now log log_mid log_now rests none read wrote logged

-- the same path by another name
pub written_at : (o : Setup) (given path : List ℕ) (outcome : Outcome) (out out_now : Option (List ℕ)) (log log_now : Option (List Read)) → given ≡ path
    → IsAnswerWritten o given outcome out out_now log log_now → IsAnswerWritten o path outcome out out_now log log_now
written_at o given path outcome out out_now log log_now same written = subst (λ (p : List ℕ). IsAnswerWritten o p outcome out out_now log log_now) same written
