-- What the answers of clips keep, whole and in part; this project's own.
use Rattle.std.proofs.Common.{◌≡◌, ℕ, ◌+◌, ◌-◌, ◌≤◌, ◌<◌, List, drop, length, length-drop, length-take-le, Option, Some, None, Result, Ok, Err, IfSome, refl, ap, ◌∙◌, subst, arith}
use Rattle.std.specs.Prelude.{MatchResult, ok_or}
use Rattle.vod_types.specs.declared.paths.ByteRange.{ByteRange}
use Rattle.vod_types.specs.declared.paths.Leaf.TheVariants.{Clip}
use Rattle.vod_types.specs.declared.refusal.Refusal.{Refusal}
use Rattle.vod_types.specs.declared.refusal.Refusal.TheVariants as refusals
use Rattle.vod_types.specs.declared.tracks.Asked.{Asked}
use Rattle.vod_types.specs.Results.{◌>>=◌, ◌>>◌, unless}
use Rattle.mp4_model.proofs.ResultsLemmas.{bind_ok}
use Rattle.list_model.specs.Ranges.{IsByteRange, taken_range}
use Rattle.list_model.specs.Reply.{Answer, Body, whole, mp4_media}
use Rattle.list_model.proofs.RangeLemmas.{taken_range-bounds}
use Rattle.media_model.proofs.ClipSizes.{length-clip}
use Rattle.vod_source.specs.Stored.{Files}
use Rattle.vod_http.specs.Answered.{MayRefuse}
use Rattle.origin_model.specs.Answers.{clip_answer, lone_clip}
use Rattle.origin_model.specs.Clips.{PlannedClip, checked_clip, checked_part, clip_audio, clip_body, clip_bytes, clip_length, clip_video, one_piece, part_fault, planned_clip}
use Rattle.origin_model.specs.Loaded.{CheckedPiece, checked, checked_in, loaded}
use Rattle.origin_model.specs.Requests.{Setup, Asking, cutting, timeline_asked}
use Rattle.answer_laws.specs.Refusals.{IsPathRefusal}
use Rattle.answer_laws.specs.Laws.{IsLeafAnswer}
use Rattle.answer_laws.proofs.Answers.{whole_answered}
use Rattle.answer_laws.proofs.Segments.{sample_may}
use Rattle.answer_laws.proofs.Steps.{May, after_may, first_may, unless_may}
use Rattle.flat_clip.specs.Parts.{bytes_in}
use Rattle.flat_clip.proofs.Slices.{sizes-are}
use Rattle.mp4_clip.proofs.References.{due-references}
use Rattle.vod_origin.specs.Refusals.{may_refuse}

-- ---- bodies

-- the part is one of the whole, and what is told of it is so
pub record IsPartBody (body : Body) : Type 0 where
  pub part : ℕ × ℕ × ℕ
  pub told : body.part ≡ Some part
  pub ordered : part.0 ≤ part.1
  pub within : part.1 < part.2
  pub long : body.length ≡ Some (part.1 + 1 - part.0)
  pub bytes : length body.bytes ≡ part.1 + 1 - part.0

pub record IsWholeBody (body : Body) : Type 0 where
  pub told : body.part ≡ None
  pub long : body.length ≡ Some (length body.bytes)

abbrev pub IsBodyFor : Option ByteRange → Body → Type 0
IsBodyFor None body = IsWholeBody body
IsBodyFor (Some range) body = IsPartBody body

-- the body of a clip, or of the part that was asked for
pub record IsClipBody (range : Option ByteRange) (asked : Asked) (body : Body) : Type 0 where
  pub kind : body.kind ≡ mp4_media asked
  pub end : body.end ≡ whole
  pub for : IsBodyFor range body

abbrev pub IsClipAnswer : Option ByteRange → Asked → Answer → Type 0
IsClipAnswer range asked answer = MatchResult answer (IsClipBody range asked) (MayRefuse range)

-- ---- of a planned clip

module _ (p : PlannedClip) where
  part_may : (part : ℕ × ℕ) → May (unless (part_fault p part) >> Ok part)
  part_may part = search (after_may, unless_may, first_may, sample_may)

  -- the bytes are as many as are told
  module _ (files : Files) (sized : length (clip_bytes p files) ≡ clip_length p) where
    module _ (sequence : ℕ) (asked : Asked) where
      abbrev body_with : Option ByteRange → ℕ × ℕ → Body
      body_with range part = clip_body p files sequence asked range part

      of_part : (range : ByteRange) (part : ℕ × ℕ) → IsByteRange range → taken_range range (clip_length p) ≡ Some part → IsClipBody (Some range) asked (body_with (Some range) part)
      of_part range part ordered taken =
          let bounds = taken_range-bounds range (clip_length p) part ordered taken in
          record {
            kind = refl;
            end = refl;
            for = record {
              part = (part.0, part.1, length (clip_bytes p files));
              told = refl;
              ordered = bounds.0;
              within = omega (arith, bounds.1, sized);
              long = refl;
              bytes =
                  (let rest : List ℕ = drop part.0 (clip_bytes p files) in
                  length-take-le (part.1 + 1 - part.0) rest (omega (arith, bounds.1, sized, length-drop part.0 (clip_bytes p files))));
            };
          }

      of_range : (range : ByteRange) → IsByteRange range → IsClipAnswer (Some range) asked (checked_part p (Some range) >>= λ part. Ok (body_with (Some range) part))
      unfolding checked_part
      of_range range ordered = by_taken (taken_range range (clip_length p)) refl
        where
          by_fault : (part : ℕ × ℕ) (r : Result (Unit {0}) Refusal) → May (r >> Ok part) → taken_range range (clip_length p) ≡ Some part
              → IsClipAnswer (Some range) asked ((r >> Ok part) >>= λ part. Ok (body_with (Some range) part))
          by_fault part (Ok x) may taken = of_part range part ordered taken
          by_fault part (Err e) may taken = may_refuse (Some range) e may

          by_taken : (found : Option (ℕ × ℕ)) → taken_range range (clip_length p) ≡ found
              → IsClipAnswer (Some range) asked ((ok_or found (refusals.BadRange (clip_length p)) >>= λ part. unless (part_fault p part) >> Ok part) >>= λ part. Ok (body_with (Some range) part))
          by_taken (Some part) taken = by_fault part (unless (part_fault p part)) (part_may part) taken
          by_taken None taken = refl

      abbrev all_of : Result (ℕ × ℕ) Refusal
      all_of = Ok (0, clip_length p - 1)

      of_whole : IsClipAnswer None asked (checked_part p None >>= λ part. Ok (body_with None part))
      unfolding checked_part
      of_whole = by_fault (unless (part_fault p (0, clip_length p - 1))) (part_may (0, clip_length p - 1))
        where
          by_fault : (r : Result (Unit {0}) Refusal) → May (r >> all_of) → IsClipAnswer None asked ((r >> all_of) >>= λ part. Ok (body_with None part))
          by_fault (Ok x) may = record { kind = refl; end = refl; for = record { told = refl; long = refl } }
          by_fault (Err e) may = may_refuse None e may

-- ---- of a request

module _ (o : Setup) (a : Asking) (sequence : ℕ) (asked : Asked) where
  abbrev body_by : Option ByteRange → PlannedClip → Answer
  body_by range p = checked_part p range >>= λ part. Ok (clip_body p o.files sequence asked range part)

  clip_refused : (e : Refusal) → lone_clip o a sequence asked ≡ Err e → IsPathRefusal e
  unfolding clip_answer
  clip_refused e is = subst (λ (r : Result PlannedClip Refusal). IsLeafAnswer (Clip sequence asked) (r >>= body_by None)) is (whole_answered o a (Clip sequence asked))

  sized_by : (p : PlannedClip) → lone_clip o a sequence asked ≡ Ok p → length (clip_bytes p o.files) ≡ clip_length p
  unfolding lone_clip planned_clip checked clip_bytes
  sized_by p e =
      let c = cutting o a in
      let t = bind_ok (timeline_asked o a sequence) (λ t. planned_clip c asked t sequence) p e in
      let piece = bind_ok (one_piece sequence t.0) _ p t.2 in
      let found = bind_ok (checked c.files c.edits asked piece.0) (checked_clip sequence asked) p piece.2 in
      let movie = bind_ok (loaded c.files piece.0.name) (checked_in c.edits asked piece.0) found.0 found.1 in
      let room = due-references c.edits asked piece.0 movie.0 sequence p (ap (λ (r : Result CheckedPiece Refusal). r >>= checked_clip sequence asked) movie.2 ∙ found.2) in
      length-clip (bytes_in o.files p.piece.piece.name) (clip_video p) (clip_audio p) room
      (sizes-are 0 0 o.files p.piece.piece.name (clip_video p).rows) (sizes-are 0 0 o.files p.piece.piece.name (clip_audio p).rows)

  pub clip_kept : (range : Option ByteRange) → IfSome range IsByteRange → IsClipAnswer range asked (clip_answer o a sequence asked range)
  unfolding clip_answer
  clip_kept range ordered = by_clip (lone_clip o a sequence asked) refl range ordered
    where
      by_clip : (r : Result PlannedClip Refusal) → lone_clip o a sequence asked ≡ r → (range : Option ByteRange) → IfSome range IsByteRange → IsClipAnswer range asked (r >>= body_by range)
      by_clip (Ok p) is (Some range) ordered = of_range p o.files (sized_by p is) sequence asked range ordered
      by_clip (Ok p) is None ordered = of_whole p o.files (sized_by p is) sequence asked
      by_clip (Err e) is range ordered = may_refuse range e (clip_refused e is)
