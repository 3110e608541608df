-- A reply gives the answer of its request.
use Rattle.std.proofs.Common.{◌≡◌, ◌≢◌, ℕ, List, length, Option, Some, None, IfSome, Ok, Err, refl, sym, ap, ◌∙◌, subst}
use Rattle.vod_types.specs.declared.media.Media.{Media}
use Rattle.vod_types.specs.declared.paths.Ask.{Ask}
use Rattle.vod_types.specs.declared.paths.ByteRange.{ByteRange}
use Rattle.vod_types.specs.declared.refusal.Refusal.{Refusal}
use Rattle.vod_types.specs.declared.refusal.Refusal.TheVariants as refusals
use Rattle.vod_types.specs.declared.refusal.Refusal.TheVariants.{NoMemory, StoreFailed}
use Rattle.vod_types.specs.Settled.{Settled}
use Rattle.list_model.specs.Reply.{Answer, End, leaf_body, leaf_media, told_length}
use Rattle.vod_source.specs.Causes.{Rose}
use Rattle.vod_source.specs.Stored.{Files}
use Rattle.vod_http.specs.Answered.{HasLength, IsHeadOf, IsRefused, MayRefuse, rest_of}
use Rattle.vod_http.specs.declared.answerer.Reply.TheVariants.{Body, Refused}
use Rattle.origin_model.specs.Answers.{ask_answer, readable}
use Rattle.answer_laws.specs.Refusals.{IsPathRefusal}
use Rattle.flat_lists.specs.Asked.{setup_of}
use Rattle.vod_origin.specs.Ranges.{ask_unranged, clip_of}
use Rattle.vod_origin.specs.Refusals.{may_refuse}
use Rattle.vod_origin.specs.Begun.{asked_answer, asked_part, Begins, Replies}
use Rattle.vod_origin.specs.Bodies.{rest_in, rest_with}
use Rattle.vod_origin.specs.declared.cursor.Cursor.{Cursor}
use Rattle.vod_origin.specs.Kept.{OriginKept, origin_answer}
use Rattle.vod_origin.proofs.Answers.{answer-read, answer-refused}

-- ---- refusals

pub refused_as : (range : Option ByteRange) (told : Option Answer) (before now : ℕ) (e : Refusal) → MayRefuse range e → (e ≡ StoreFailed → Rose before now)
    → (e ≢ NoMemory → e ≢ StoreFailed → IfSome told (λ a. a ≡ Err e)) → IsRefused range told before now e
refused_as range told before now refusals.StoreFailed may rose is = rose refl
refused_as range told before now refusals.NoMemory may rose is = tt
refused_as range told before now why may rose is = (may, is (λ same. absurd cc) (λ same. absurd cc))

-- nothing was begun
pub none_begun : (told : Option Answer) (content : Option Files) (e : Refusal) → Begins told content (Refused e)
none_begun told content e = record { belongs = tt; under_way = tt; few = tt; rest = tt; in_packets = tt }

-- ---- requests

module _ (settings : Settled) (root : List ℕ) (ask : Ask) where
  -- a request that was refused
  pub refused : (content : Option Files) (before now : ℕ) (e : Refusal) → IsPathRefusal e → (e ≡ StoreFailed → Rose before now)
      → IfSome content (λ files. e ≢ NoMemory → e ≢ StoreFailed → ask_answer (setup_of settings root files) None ask ≡ Err e)
      → Replies (asked_answer settings root ask content) before now (Refused e)
  refused None before now e may rose told = λ range. refused_as range None before now e (may_refuse range e may) rose (λ known_memory known_store. tt)
  refused (Some files) before now e may rose told = λ range. refused_as range (Some (ask_answer (setup_of settings root files) None ask)) before now e (may_refuse range e may) rose told

  module _ (bytes : Files → List ℕ) (end : Files → End) where
    -- where files are told, it is answered with these bytes
    abbrev pub IsAnswered : Files → Type 0
    IsAnswered files = ask_answer (setup_of settings root files) None ask ≡ Ok (leaf_body ask.leaf (bytes files) (end files))

    pub replied : (content : Option Files) (before now : ℕ) (kind : Media) (n : Option ℕ) (part : Option (ℕ × ℕ × ℕ)) (cursor : Cursor) → IfSome content IsAnswered
        → kind ≡ leaf_media ask.leaf → HasLength kind n → IfSome content (λ files. n ≡ told_length ask.leaf (length (bytes files))) → part ≡ None
        → Replies (asked_answer settings root ask content) before now (Body kind n part cursor)
    replied None before now kind n part cursor told kind_is has long whole = λ range. ((has, rw whole tt), tt)
    replied (Some files) before now kind n part cursor told kind_is has long whole = λ range. ((has, rw whole tt), subst (IsHeadOf kind n part) (sym told) (sym kind_is, sym long, sym whole))

    -- what is to be written
    pub rests : (content : Option Files) (cursor : Cursor) → IfSome content IsAnswered → IfSome content (λ files. rest_with files cursor ≡ (bytes files, end files))
        → rest_in content cursor ≡ rest_of (asked_answer settings root ask content)
    rests None cursor told is = refl
    rests (Some files) cursor told is = ap Some is ∙ sym (ap (λ (a : Answer). rest_of (Some a)) told)

-- ---- paths

module _ (k : OriginKept) (path : List ℕ) (range : Option ByteRange) where
  -- the answer of a path is that of what it asks for
  pub path_told : (ask : Ask) → readable path ≡ Ok ask → origin_answer k path range ≡ asked_part k.settings k.root range ask k.content
  path_told ask read = by_content k.content
    where
      by_content : (content : Option Files) → origin_answer (record k { content = content }) path range ≡ asked_part k.settings k.root range ask content
      by_content None = refl
      by_content (Some files) = ap Some (answer-read (setup_of k.settings k.root files) path range ask read)

  -- whatever range is asked for, unless it is a clip
  pub path_unranged : (ask : Ask) → readable path ≡ Ok ask → clip_of ask.leaf ≡ None → origin_answer k path range ≡ asked_answer k.settings k.root ask k.content
  path_unranged ask read none = path_told ask read ∙ by_content k.content
    where
      by_content : (content : Option Files) → asked_part k.settings k.root range ask content ≡ asked_answer k.settings k.root ask content
      by_content None = refl
      by_content (Some files) = ap Some (ask_unranged (setup_of k.settings k.root files) range ask none)

  -- a path that isn't read
  pub unread : (before now : ℕ) (e : Refusal) → IsPathRefusal e → e ≢ StoreFailed → (e ≢ NoMemory → readable path ≡ Err e) → IsRefused range (origin_answer k path range) before now e
  unread before now e may not_failed is =
      refused_as range (origin_answer k path range) before now e (may_refuse range e may) (λ failed. absurd (not_failed failed))
      (λ known_memory known_store. by_content k.content (is known_memory))
    where
      by_content : (content : Option Files) → readable path ≡ Err e → IfSome (origin_answer (record k { content = content }) path range) (λ a. a ≡ Err e)
      by_content None read = tt
      by_content (Some files) read = answer-refused (setup_of k.settings k.root files) path range e read
