-- A reply gives a clip, or the part of it that was asked for.
use Rattle.std.proofs.Common.{◌≡◌, ◌≢◌, ℕ, ◌+◌, ◌-◌, ◌≤◌, ◌<◌, List, length, Option, Some, None, IfSome, Result, Ok, Err, inl, inr, refl, sym, ap, ◌∙◌, subst, arith, lit<}
use Rattle.std.specs.Prelude.{is_none}
use Rattle.vod_types.specs.declared.media.Media.{Media}
use Rattle.vod_types.specs.declared.paths.Ask.{Ask}
use Rattle.vod_types.specs.declared.paths.ByteRange.{ByteRange}
use Rattle.vod_types.specs.declared.paths.Leaf.{Leaf}
use Rattle.vod_types.specs.declared.paths.Leaf.TheVariants.{Clip}
use Rattle.vod_types.specs.declared.paths.Leaf.TheVariants as leaves
use Rattle.vod_types.specs.declared.refusal.Refusal.{Refusal}
use Rattle.vod_types.specs.declared.refusal.Refusal.TheVariants as refusals
use Rattle.vod_types.specs.declared.refusal.Refusal.TheVariants.{NoMemory, StoreFailed}
use Rattle.vod_types.specs.declared.tracks.Asked.{Asked}
use Rattle.vod_types.specs.Results.{◌>>=◌}
use Rattle.vod_types.specs.Settled.{Settled}
use Rattle.vod_types.proofs.StepLemmas.{ok_or_ok}
use Rattle.list_model.specs.Ranges.{IsByteRange, taken_range}
use Rattle.list_model.specs.Reply.{Answer, whole, leaf_media, mp4_media}
use Rattle.list_model.proofs.RangeLemmas.{taken_range-bounds}
use Rattle.vod_source.specs.Causes.{Rose}
use Rattle.vod_source.specs.Stored.{Files}
use Rattle.vod_http.specs.Answered.{IsHead, IsHeadOf, IsRefused, IsReply, MayRefuse, rest_of}
use Rattle.vod_http.specs.declared.answerer.Reply.{Reply}
use Rattle.vod_http.specs.declared.answerer.Reply.TheVariants as replies
use Rattle.origin_model.specs.Answers.{ask_answer, ranged_answer}
use Rattle.origin_model.specs.Clips.{asked_part as asked_part_of}
use Rattle.origin_model.specs.Requests.{Setup, Asking, asking_of}
use Rattle.answer_laws.proofs.Mappings.{asking_may}
use Rattle.answer_laws.proofs.Steps.{May}
use Rattle.flat_lists.specs.Asked.{setup_of}
use Rattle.flat_clip.specs.Answers.{IsClipRefusal, BadRangeOf, part_view}
use Rattle.flat_clip.specs.declared.part.ClipPart.{ClipPart}
use Rattle.mp4_flat.specs.Flat.{clip_seen, clip_shown, part_told}
use Rattle.vod_origin.specs.AnswerLaw.{mp4_long}
use Rattle.vod_origin.specs.Begun.{asked_part, Begins, IsMadeReply}
use Rattle.vod_origin.specs.Bodies.{rest_in}
use Rattle.vod_origin.specs.ClipAnswers.{IsClipAnswer, clip_kept}
use Rattle.vod_origin.specs.Ranges.{clip_of}
use Rattle.vod_origin.specs.Refusals.{may_refuse}
use Rattle.vod_origin.specs.declared.cursor.Cursor.{Cursor}
use Rattle.vod_origin.specs.declared.cursor.Cursor.TheVariants.{Made, Fragment, Stream}
use Rattle.vod_origin.proofs.ReplyLemmas.{refused_as}

-- how long a clip, or a part of it, is
abbrev pub part_length : Option ByteRange → ClipPart → ℕ
part_length None p = length p.bytes.items
part_length (Some range) p = p.last + 1 - p.first

-- the part is one of the whole
pub part_bounds : (range : ByteRange) (p : ClipPart) → IsByteRange range → asked_part_of (Some range) p.length ≡ Ok (p.first, p.last) → (p.first ≤ p.last) × (p.last < p.length)
part_bounds range p ordered is = taken_range-bounds range p.length (p.first, p.last) ordered (ok_or_ok (taken_range range p.length) (refusals.BadRange p.length) (p.first, p.last) is)

-- of a range that is asked for
pub bounds_of : (range : Option ByteRange) (r : ByteRange) (p : ClipPart) → range ≡ Some r → IfSome range IsByteRange → asked_part_of range p.length ≡ Ok (p.first, p.last)
    → (p.first ≤ p.last) × (p.last < p.length)
bounds_of (Some range) r p is ordered asked = part_bounds range p ordered asked
bounds_of None r p is ordered asked = absurd cc

-- a reply with a whole clip, and with a part
pub made_whole : (range : Option ByteRange) (p : ClipPart) (media other : Media) (reply : Reply Cursor) → range ≡ None → media ≡ other
    → IsMadeReply media (length p.bytes.items) None p.bytes.items reply → IsMadeReply other (part_length range p) (part_told range (part_view p)) p.bytes.items reply
made_whole None p media other reply is same = subst (λ (m : Media). IsMadeReply m (length p.bytes.items) None p.bytes.items reply) same
made_whole (Some range) p media other reply is same = absurd cc

pub made_part : (range : Option ByteRange) (r : ByteRange) (p : ClipPart) (media other : Media) (reply : Reply Cursor) → range ≡ Some r → media ≡ other
    → IsMadeReply media (p.last + 1 - p.first) (Some (p.first, p.last, p.length)) p.bytes.items reply
    → IsMadeReply other (part_length range p) (part_told range (part_view p)) p.bytes.items reply
made_part (Some range) r p media other reply is same =
    subst (λ (m : Media). IsMadeReply m (p.last + 1 - p.first) (Some (p.first, p.last, p.length)) p.bytes.items reply) same
made_part None r p media other reply is same = absurd cc

-- its refusals
range_given : (range : Option ByteRange) (n : ℕ) → BadRangeOf range → MayRefuse range (refusals.BadRange n)
range_given None n bad = absurd bad
range_given (Some range) n bad = refl

clip_may_refuse : (range : Option ByteRange) (e : Refusal) → IsClipRefusal range e → MayRefuse range e
clip_may_refuse range e (inl may) = may_refuse range e may
clip_may_refuse range e (inr (n, is, bad)) = subst (MayRefuse range) (sym is) (range_given range n bad)

module _ (settings : Settled) (root : List ℕ) (ask : Ask) (sequence : ℕ) (asked : Asked) (range : Option ByteRange) (content : Option Files)
    (leaf : ask.leaf ≡ Clip sequence asked) (ordered : IfSome range IsByteRange) where
  clip_law : (o : Setup) → IsClipAnswer range asked (ask_answer o range ask)
  unfolding ask_answer
  clip_law o = by_asking (asking_of o ask) (asking_may o ask)
    where
      by_asking : (r : Result Asking Refusal) → May r → IsClipAnswer range asked (r >>= λ a. ranged_answer o a range ask.leaf)
      by_asking (Ok a) may = subst (λ (l : Leaf). IsClipAnswer range asked (ranged_answer o a range l)) (sym leaf) (clip_kept o a sequence asked range ordered)
      by_asking (Err e) may = may_refuse range e may

  seen_err : (a : Answer) (e : Refusal) → clip_seen a ≡ Err e → a ≡ Err e
  seen_err (Ok body) e is = absurd cc
  seen_err (Err d) e is = cc

  pub part_refused : (before now : ℕ) (e : Refusal) → IsClipRefusal range e → (e ≡ StoreFailed → Rose before now)
      → IfSome content (λ files. e ≢ NoMemory → e ≢ StoreFailed → clip_seen (ask_answer (setup_of settings root files) range ask) ≡ Err e)
      → IsRefused range (asked_part settings root range ask content) before now e
  part_refused before now e may rose told =
      refused_as range (asked_part settings root range ask content) before now e (clip_may_refuse range e may) rose
      (λ known_memory known_store. by_content content told known_memory known_store)
    where
      by_content : (content : Option Files) → IfSome content (λ files. e ≢ NoMemory → e ≢ StoreFailed → clip_seen (ask_answer (setup_of settings root files) range ask) ≡ Err e)
          → e ≢ NoMemory → e ≢ StoreFailed → IfSome (asked_part settings root range ask content) (λ a. a ≡ Err e)
      by_content None told known_memory known_store = tt
      by_content (Some files) told known_memory known_store = seen_err (ask_answer (setup_of settings root files) range ask) e (told known_memory known_store)

  -- ---- a body

  module _ (p : ClipPart) (is_asked : asked_part_of range p.length ≡ Ok (p.first, p.last))
      (told : IfSome content (λ files. clip_seen (ask_answer (setup_of settings root files) range ask) ≡ Ok (clip_shown range p))) where
    head : (range : Option ByteRange) → IfSome range IsByteRange → asked_part_of range p.length ≡ Ok (p.first, p.last)
        → IsHead range (mp4_media asked) (Some (part_length range p)) (part_told range (part_view p))
    head None ordered is = (mp4_long asked.video asked.audio (length p.bytes.items), tt)
    head (Some range) ordered is =
        let bounds = part_bounds range p ordered is in
        (mp4_long asked.video asked.audio (p.last + 1 - p.first), (refl, bounds.0, bounds.1, (let first = bounds.0 in omega (arith, first))))

    -- the body has these fields
    fields : (range : Option ByteRange) (a : Answer) → IsClipAnswer range asked a → clip_seen a ≡ Ok (clip_shown range p)
        → IsHeadOf (mp4_media asked) (Some (part_length range p)) (part_told range (part_view p)) a
    fields range (Err e) law seen = absurd cc
    fields None (Ok body) law seen =
        let shown : (body.bytes, body.part) ≡ clip_shown None p = cc in
        (law.kind, law.for.long ∙ ap (λ (s : List ℕ × Option (ℕ × ℕ × ℕ)). Some (length s.0)) shown, ap (λ (s : List ℕ × Option (ℕ × ℕ × ℕ)). s.1) shown)
    fields (Some range) (Ok body) law seen =
        let shown : (body.bytes, body.part) ≡ clip_shown (Some range) p = cc in
        let part : body.part ≡ Some (p.first, p.last, p.length) = ap (λ (s : List ℕ × Option (ℕ × ℕ × ℕ)). s.1) shown in
        let same : law.for.part ≡ (p.first, p.last, p.length) = cc (sym law.for.told ∙ part) in
        (law.kind, law.for.long ∙ ap (λ (q : ℕ × ℕ × ℕ). Some (q.1 + 1 - q.0)) same, part)

    -- and all of it is to be written
    rest_is : (a : Answer) → IsClipAnswer range asked a → clip_seen a ≡ Ok (clip_shown range p) → rest_of (Some a) ≡ Some (p.bytes.items, whole)
    rest_is (Err e) law seen = absurd cc
    rest_is (Ok body) law seen =
        let shown : (body.bytes, body.part) ≡ clip_shown range p = cc in
        rw law.end (ap (λ (s : List ℕ × Option (ℕ × ℕ × ℕ)). Some (s.0, whole)) shown)

    pub part_replied : (before now : ℕ) (reply : Reply Cursor) → IsMadeReply (leaf_media ask.leaf) (part_length range p) (part_told range (part_view p)) p.bytes.items reply
        → IsReply range (asked_part settings root range ask content) before now reply
    part_replied before now (replies.Refused why) made = absurd made
    part_replied before now (replies.Body kind n part cursor) made =
        let media : leaf_media ask.leaf ≡ mp4_media asked = ap leaf_media leaf in
        rw (made.0 ∙ media, made.1, made.2) (head range ordered is_asked, by_content content told)
      where
        by_content : (content : Option Files) → IfSome content (λ files. clip_seen (ask_answer (setup_of settings root files) range ask) ≡ Ok (clip_shown range p))
            → IfSome (asked_part settings root range ask content) (IsHeadOf (mp4_media asked) (Some (part_length range p)) (part_told range (part_view p)))
        by_content None told = tt
        by_content (Some files) told = fields range (ask_answer (setup_of settings root files) range ask) (clip_law (setup_of settings root files)) told

    pub part_begins : (reply : Reply Cursor) → IsMadeReply (leaf_media ask.leaf) (part_length range p) (part_told range (part_view p)) p.bytes.items reply
        → Begins (asked_part settings root range ask content) content reply
    part_begins (replies.Refused why) made = absurd made
    part_begins (replies.Body kind n part (Made b)) made = record {
      belongs = tt;
      under_way = made.3.waits;
      few = lit< tt;
      rest = by_content content told;
      in_packets = made.3.in_packets ∙ ap (λ (n : Option ℕ). is_none n) (sym made.1);
    }
      where
        by_content : (content : Option Files) → IfSome content (λ files. clip_seen (ask_answer (setup_of settings root files) range ask) ≡ Ok (clip_shown range p))
            → rest_in content (Made b) ≡ rest_of (asked_part settings root range ask content)
        by_content None told = refl
        by_content (Some files) told =
            rw (made.3.bytes_are, made.3.uncut, made.3.waits) (sym (rest_is (ask_answer (setup_of settings root files) range ask) (clip_law (setup_of settings root files)) told))
    part_begins (replies.Body kind n part (Fragment b)) made = absurd made.3
    part_begins (replies.Body kind n part (Stream b)) made = absurd made.3

-- it is that of a clip
pub clip_leaf : (leaf : Leaf) (sequence : ℕ) (asked : Asked) → clip_of leaf ≡ Some (sequence, asked) → leaf ≡ Clip sequence asked
clip_leaf (Clip sequence asked) s a is = let same : (sequence, asked) ≡ (s, a) = cc is in ap (λ (q : ℕ × Asked). Clip q.0 q.1) same
clip_leaf leaves.Master s a is = absurd cc
clip_leaf leaves.Mpd s a is = absurd cc
clip_leaf (leaves.Index sequence asked) s a is = absurd cc
clip_leaf (leaves.Init part sequence asked) s a is = absurd cc
clip_leaf (leaves.Segment number sequence asked form) s a is = absurd cc
clip_leaf (leaves.Iframes sequence video) s a is = absurd cc
clip_leaf (leaves.Iframe number index sequence video) s a is = absurd cc
