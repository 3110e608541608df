-- Calls that read files: what they come to, one after another, and which refusals aren't of the store.
use Rattle.std.proofs.Common.{◌≡◌, ◌≢◌, List, [], ◌++◌, Option, Some, None, IfSome, Result, Ok, Err, sym, ap, ◌∙◌, subst, append-nil}
use Rattle.std.specs.Prelude.{ok_or}
use Rattle.vod_types.specs.declared.refusal.Refusal.{Refusal}
use Rattle.vod_types.specs.declared.refusal.Refusal.TheVariants.{NoMemory, StoreFailed}
use Rattle.vod_types.specs.Results.{◌>>=◌, Answers}
use Rattle.vod_source.specs.Stored.{Read}
use Rattle.vod_source.specs.Told.{told_with, GrewByPrefix}
use Rattle.vod_source.proofs.ToldLemmas.{told_with-nil, told_with-more, GrewByPrefix-same, GrewByPrefix-whole, GrewByPrefix-after, GrewByPrefix-more}
use Rattle.vod_source.specs.Calls.{AnswersUnlessFailed, LogsReads, Came}

-- ---- values that may be told

pub told_all : {A : Type 0} (told : Option A) (P : A → Type 0) → ((x : A) → P x) → IfSome told P
told_all None P all = tt
told_all (Some x) P all = all x

pub told_with_all : {A : Type 0} (told : Option A) (P Q : A → Type 0) → IfSome told P → ((x : A) → P x → Q x) → IfSome told Q
told_with_all None P Q h all = tt
told_with_all (Some x) P Q h all = all x h

pub told_with_both : {A : Type 0} (told : Option A) (P Q R : A → Type 0) → IfSome told P → IfSome told Q → ((x : A) → P x → Q x → R x) → IfSome told R
told_with_both None P Q R h i all = tt
told_with_both (Some x) P Q R h i all = all x h i

-- the second is told by another value, which is the same
pub told_with_other : {A : Type 0} (told other : Option A) (P Q R : A → Type 0) → other ≡ told → IfSome told P → IfSome other Q → ((x : A) → P x → Q x → R x) → IfSome told R
told_with_other told other P Q R e h i all = told_with_both told P Q R h (subst (λ (o : Option _). IfSome o Q) e i) all

-- ---- reads

-- no reads were made, and none are due
pub logs_none : {X : Type 0} (r : Result X Refusal) (before now : Option (List Read)) → now ≡ before → LogsReads r [] before now
logs_none (Ok x) before now e = e ∙ sym (told_with-nil before)
logs_none (Err r) before now e = (GrewByPrefix-same before now [] e, λ known_memory known_store. e ∙ sym (told_with-nil before))

-- all reads were made
pub logs_all : {X : Type 0} (r : Result X Refusal) (reads : List Read) (before now : Option (List Read)) → now ≡ told_with before reads → LogsReads r reads before now
logs_all (Ok x) reads before now e = e
logs_all (Err r) reads before now e = (GrewByPrefix-whole before now reads e, λ known_memory known_store. e)

-- some reads, and then those of another call
pub logs_then : {X : Type 0} (r : Result X Refusal) (first second : List Read) (before middle now : Option (List Read)) → middle ≡ told_with before first
    → LogsReads r second middle now → LogsReads r (first ++ second) before now
logs_then (Ok x) first second before middle now e h = told_with-more before middle now first second e h
logs_then (Err r) first second before middle now e h =
    (GrewByPrefix-after first e h.0, λ known_memory known_store. told_with-more before middle now first second e (h.1 known_memory known_store))

-- the reads of a call that was cut short, or refused
abbrev pub LogsErr : Refusal → List Read → Option (List Read) → Option (List Read) → Type 0
LogsErr e reads before now = GrewByPrefix before now reads × (e ≢ NoMemory → e ≢ StoreFailed → now ≡ told_with before reads)

-- the reads of a call that ends what it is a part of: no others are due unless it was cut short
pub logs_ended : (e : Refusal) (first rest : List Read) (before now : Option (List Read)) → LogsErr e first before now
    → (e ≢ NoMemory → e ≢ StoreFailed → rest ≡ []) → LogsErr e (first ++ rest) before now
logs_ended e first rest before now h none = (
  GrewByPrefix-more rest h.0,
  λ known_memory known_store. h.1 known_memory known_store ∙ ap (told_with before) (sym (ap (λ (reads : List Read). first ++ reads) (none known_memory known_store) ∙ append-nil first)),
)

-- before reads are made
pub logs_unmade : (e : Refusal) (reads : List Read) (before now : Option (List Read)) → now ≡ before
    → (e ≢ NoMemory → e ≢ StoreFailed → reads ≡ []) → LogsErr e reads before now
logs_unmade e reads before now same none = (
  GrewByPrefix-same before now reads same,
  λ known_memory known_store. same ∙ sym (told_with-nil before) ∙ ap (told_with before) (sym (none known_memory known_store)),
)

-- ---- answers

-- one that may lack memory is one that may lack memory or a store
pub answers_unless : {X Y : Type 0} (view : X → Y) (r : Result X Refusal) (due : Result Y Refusal) → Answers view r due → AnswersUnlessFailed view r due
answers_unless view (Ok x) due h = h
answers_unless view (Err e) due h = λ known_memory known_store. h known_memory

-- ---- calls

module _ {X Y : Type 0} (view : X → Y) (due : Result Y Refusal) (reads : List Read) (log log_now : Option (List Read)) where
  -- all reads were made
  pub came-read : (result : Result X Refusal) → Answers view result due → log_now ≡ told_with log reads → Came view result due reads log log_now
  came-read result answers e = record { answered = answers_unless view result due answers; logged = logs_all result reads log log_now e }

-- no read was due
pub came-unread : {X Y : Type 0} (view : X → Y) (due : Result Y Refusal) (log : Option (List Read)) (result : Result X Refusal) → Answers view result due → Came view result due [] log log
came-unread view due log result answers = came-read view due [] log log result answers (sym (told_with-nil log))

-- ---- refusals that aren't a failure of the store

abbrev pub NotFailed : {A : Type 0} → Result A Refusal → Type 0
NotFailed (Ok x) = Unit {0}
NotFailed (Err e) = e ≢ StoreFailed

pub not_failed-step : {A B : Type 0} (r : Result A Refusal) (f : A → Result B Refusal) → NotFailed r → ((x : A) → NotFailed (f x)) → NotFailed (r >>= f)
not_failed-step (Ok x) f h later = later x
not_failed-step (Err e) f h later = h

pub not_failed-found : {A : Type 0} (found : Option A) (e : Refusal) → e ≢ StoreFailed → NotFailed (ok_or found e)
not_failed-found None e h = h
not_failed-found (Some x) e h = tt

-- A call that answers something that is never refused so isn't either.
pub refusal-not_failed : {Y : Type 0} (due : Result Y Refusal) (e : Refusal) → NotFailed due → (e ≢ NoMemory → due ≡ Err e) → e ≢ StoreFailed
refusal-not_failed due e h answers is =
    let due_is : due ≡ Err e = answers (λ is_memory. cc) in subst NotFailed due_is h is

pub answers-not_failed : {X Y : Type 0} (view : X → Y) (due : Result Y Refusal) (result : Result X Refusal) → NotFailed due → Answers view result due → result ≢ Err StoreFailed
answers-not_failed view due (Ok x) h answers e = cc
answers-not_failed view due (Err r) h answers e = let is : r ≡ StoreFailed = cc in refusal-not_failed due r h answers is
