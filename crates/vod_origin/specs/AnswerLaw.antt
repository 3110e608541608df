-- What an origin's answers keep, as its trait asks; this project's own.
use Rattle.std.proofs.Common.{◌≡◌, ℕ, ◌+◌, ◌-◌, ◌%◌, List, length, Option, Some, None, IfSome, Result, Ok, Err, refl, sym, ap, subst, ◌∙◌, option_map, arith}
use Rattle.vod_types.specs.declared.paths.Ask.{Ask}
use Rattle.vod_types.specs.declared.paths.ByteRange.{ByteRange}
use Rattle.vod_types.specs.declared.paths.Leaf.{Leaf}
use Rattle.vod_types.specs.declared.paths.Leaf.TheVariants.{Master, Mpd, Index, Init, Segment, Iframes, Iframe, Clip}
use Rattle.vod_types.specs.declared.refusal.Refusal.{Refusal}
use Rattle.vod_types.specs.declared.segments.Form.TheVariants.{Ts, Fmp4}
use Rattle.vod_types.specs.declared.tracks.Asked.{Asked}
use Rattle.vod_types.specs.Results.{◌>>=◌}
use Rattle.list_model.specs.Ranges.{IsByteRange}
use Rattle.list_model.specs.Reply.{Answer, Body, leaf_media, mp4_media, told_length}
use Rattle.vod_source.specs.Stored.{Files}
use Rattle.vod_http.specs.Answered.{HasLength, HasBytes, IsAnswer}
use Rattle.origin_model.specs.Answers.{answer, ask_answer, ranged_answer, readable}
use Rattle.origin_model.specs.Requests.{Setup, Asking, asking_of}
use Rattle.answer_laws.specs.Laws.{IsLeafAnswer}
use Rattle.answer_laws.proofs.Answers.{leaf_answered, readable_may}
use Rattle.answer_laws.proofs.Mappings.{asking_may}
use Rattle.answer_laws.proofs.Steps.{May}
use Rattle.vod_origin.specs.Kept.{OriginKept, origin_answer, setup_of}
use Rattle.vod_origin.specs.ClipAnswers.{IsClipAnswer, clip_kept}
use Rattle.vod_origin.specs.Refusals.{may_refuse}

-- ---- bodies

pub mp4_long : (video : Option ℕ) (audio : Option ℕ) (n : ℕ) → HasLength (mp4_media (record { video = video; audio = audio })) (Some n)
mp4_long None audio n = refl
mp4_long (Some video) audio n = refl

-- the length that is told is that of the kind
pub has_length : (leaf : Leaf) (n : ℕ) → HasLength (leaf_media leaf) (told_length leaf n)
has_length Master n = refl
has_length Mpd n = refl
has_length (Index sequence asked) n = refl
has_length (Init part sequence asked) n = mp4_long asked.video asked.audio n
has_length (Segment number sequence asked Ts) n = refl
has_length (Segment number sequence asked Fmp4) n = mp4_long asked.video asked.audio n
has_length (Iframes sequence video) n = refl
has_length (Iframe number index sequence video) n = refl
has_length (Clip sequence asked) n = mp4_long asked.video asked.audio n

has_bytes : (leaf : Leaf) (bytes : List ℕ) → (told_length leaf (length bytes) ≡ None → length bytes % 188 ≡ 0) → HasBytes (told_length leaf (length bytes)) bytes
has_bytes Master bytes packets = refl
has_bytes Mpd bytes packets = refl
has_bytes (Index sequence asked) bytes packets = refl
has_bytes (Init part sequence asked) bytes packets = refl
has_bytes (Segment number sequence asked Ts) bytes packets = packets refl
has_bytes (Segment number sequence asked Fmp4) bytes packets = refl
has_bytes (Iframes sequence video) bytes packets = refl
has_bytes (Iframe number index sequence video) bytes packets = packets refl
has_bytes (Clip sequence asked) bytes packets = refl

-- ---- answers

of_leaf : (range : Option ByteRange) (leaf : Leaf) (a : Answer) → IsLeafAnswer leaf a → IsAnswer range a
of_leaf range leaf (Err why) may = may_refuse range why may
of_leaf range leaf (Ok body) law =
    subst (λ (b : Body). IsAnswer range (Ok b)) (sym law.is)
    ((has_length leaf (length body.bytes), tt), has_bytes leaf body.bytes (λ none. law.packets (ap (λ (b : Body). b.length) law.is ∙ none)))

-- of a clip or a part of it
of_clip : (range : Option ByteRange) (asked : Asked) (a : Answer) → IsClipAnswer range asked a → IsAnswer range a
of_clip range asked (Err why) may = may
of_clip None asked (Ok body) is =
    ((rw (is.kind, is.for.long) (mp4_long asked.video asked.audio (length body.bytes)), rw is.for.told tt), rw is.for.long refl)
of_clip (Some range) asked (Ok body) is =
    let n : ℕ = is.for.part.1 + 1 - is.for.part.0 in
    ((rw (is.kind, is.for.long) (mp4_long asked.video asked.audio n), rw (is.for.told, is.for.long) (refl, is.for.ordered, is.for.within, (let sum = is.for.ordered in omega (arith, sum)))), rw is.for.long is.for.bytes)

module _ (o : Setup) (range : Option ByteRange) (ordered : IfSome range IsByteRange) where
  ranged_keeps : (a : Asking) (leaf : Leaf) → IsAnswer range (ranged_answer o a range leaf)
  ranged_keeps a Master = of_leaf range Master _ (leaf_answered o a Master)
  ranged_keeps a Mpd = of_leaf range Mpd _ (leaf_answered o a Mpd)
  ranged_keeps a (Index sequence asked) = of_leaf range (Index sequence asked) _ (leaf_answered o a (Index sequence asked))
  ranged_keeps a (Init part sequence asked) = of_leaf range (Init part sequence asked) _ (leaf_answered o a (Init part sequence asked))
  ranged_keeps a (Segment number sequence asked form) = of_leaf range (Segment number sequence asked form) _ (leaf_answered o a (Segment number sequence asked form))
  ranged_keeps a (Iframes sequence video) = of_leaf range (Iframes sequence video) _ (leaf_answered o a (Iframes sequence video))
  ranged_keeps a (Iframe number index sequence video) = of_leaf range (Iframe number index sequence video) _ (leaf_answered o a (Iframe number index sequence video))
  ranged_keeps a (Clip sequence asked) = of_clip range asked _ (clip_kept o a sequence asked range ordered)

  keeps : (path : List ℕ) → IsAnswer range (answer o path range)
  unfolding answer ask_answer
  keeps path = by_read (readable path) (readable_may path)
    where
      by_asking : (ask : Ask) (r : Result Asking Refusal) → May r → IsAnswer range (r >>= λ a. ranged_answer o a range ask.leaf)
      by_asking ask (Ok a) may = ranged_keeps a ask.leaf
      by_asking ask (Err e) may = may_refuse range e may

      by_read : (r : Result Ask Refusal) → May r → IsAnswer range (r >>= ask_answer o range)
      by_read (Ok ask) may = by_asking ask (asking_of o ask) (asking_may o ask)
      by_read (Err e) may = may_refuse range e may

pub answers : (k : OriginKept) (path : List ℕ) (range : Option ByteRange) → IfSome range IsByteRange → IfSome (origin_answer k path range) (IsAnswer range)
answers k path range ordered = by_content k.content
  where
    by_content : (content : Option Files) → IfSome (option_map (λ files. answer (setup_of k files) path range) content) (IsAnswer range)
    by_content None = tt
    by_content (Some files) = keeps (setup_of k files) range ordered path
