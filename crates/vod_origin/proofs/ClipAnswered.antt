-- What a clip is answered with, by the timeline of its sequence.
use Rattle.std.proofs.Common.{◌≡◌, ℕ, Bool, Option, None, Result, Ok, Err, refl, ap, ◌∙◌}
use Rattle.vod_types.specs.declared.paths.Ask.{Ask}
use Rattle.vod_types.specs.declared.paths.ByteRange.{ByteRange}
use Rattle.vod_types.specs.declared.paths.Leaf.{Leaf}
use Rattle.vod_types.specs.declared.paths.Leaf.TheVariants.{Clip}
use Rattle.vod_types.specs.declared.refusal.Refusal.{Refusal}
use Rattle.vod_types.specs.declared.tracks.Asked.{Asked}
use Rattle.vod_types.specs.Results.{◌>>=◌}
use Rattle.vod_types.proofs.StepLemmas.{bind_ok}
use Rattle.clip_model.specs.Timeline.{Timeline}
use Rattle.segment_model.specs.Grid.{SegmentGrid}
use Rattle.vod_source.specs.Calls.{AnswersUnlessFailed}
use Rattle.vod_source.proofs.CallLemmas.{logs_all}
use Rattle.origin_model.specs.Answers.{ask_answer, clip_answer, lone_clip, ranged_answer}
use Rattle.origin_model.specs.Requests.{Setup, Asking, asking_of, cutting, honours_edits, timeline_asked}
use Rattle.flat_clip.specs.declared.part.ClipPart.{ClipPart}
use Rattle.flat_clip.specs.Answers.{due_part, part_view}
use Rattle.flat_clip.specs.Rows.{cutting_of}
use Rattle.mp4_flat.specs.Flat.{clip_seen, clip_shown}
use Rattle.mp4_flat.proofs.ClipAnswers.{clip_asked, clip_timed}
use Rattle.vod_origin.specs.Wanted.{timeline_due, timeline_in}

module _ (o : Setup) (range : Option ByteRange) (ask : Ask) (sequence : ℕ) (asked : Asked) (leaf_is : ask.leaf ≡ Clip sequence asked) where
  untimed_answer : (a : Asking) (e : Refusal) → timeline_asked o a sequence ≡ Err e → clip_answer o a sequence asked range ≡ Err e
  unfolding clip_answer lone_clip
  untimed_answer a e h = rw h refl

  -- there is no timeline
  pub clip_untimed : (e : Refusal) → timeline_due o ask sequence ≡ Err e → clip_seen (ask_answer o range ask) ≡ Err e
  unfolding ask_answer
  clip_untimed e h = ap clip_seen (by_asking (asking_of o ask) h)
    where
      by_asking : (x : Result Asking Refusal) → (x >>= timeline_in o sequence) ≡ Err e → (x >>= λ a. ranged_answer o a range ask.leaf) ≡ Err e
      by_asking (Ok a) h = ap (λ (l : Leaf). ranged_answer o a range l) leaf_is ∙ untimed_answer a e h
      by_asking (Err d) h = let same : d ≡ e = cc in ap Err same

  -- there is one, and its clip came to this
  pub clip_due : (t : Timeline) (edits : Bool) (result : Result ClipPart Refusal) → timeline_due o ask sequence ≡ Ok t → edits ≡ honours_edits o
      → ((grid : SegmentGrid) (align : Bool) → AnswersUnlessFailed part_view result (due_part (cutting_of o.files edits grid align) asked t sequence range))
      → AnswersUnlessFailed (clip_shown range) result (clip_seen (ask_answer o range ask))
  clip_due t edits result timed same came =
      let of = bind_ok (asking_of o ask) (timeline_in o sequence) t timed in
      let whole = clip_timed o of.0 sequence asked range t edits result None None of.2 same
      (record { answered = came (cutting o of.0).grid (cutting o of.0).align; logged = logs_all result _ None None refl }) in
      (clip_asked o range ask sequence asked of.0 result None None None leaf_is of.1 refl whole).answered
