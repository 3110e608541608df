-- The answer of a request that goes the fast way, by its plan.
use Rattle.std.proofs.Common.{◌≡◌, ℕ, None, Result, Ok, Err, refl, ap, ◌∙◌}
use Rattle.vod_types.specs.declared.paths.Ask.{Ask}
use Rattle.vod_types.specs.declared.refusal.Refusal.{Refusal}
use Rattle.vod_types.specs.Results.{◌>>=◌}
use Rattle.clip_model.specs.Timeline.{Timeline}
use Rattle.list_model.specs.Reply.{Answer}
use Rattle.origin_model.specs.Answers.{ask_answer, leaf_answer, lone_iframe, lone_segment, ranged_answer}
use Rattle.origin_model.specs.Plans.{Cutting}
use Rattle.origin_model.specs.Requests.{Setup, Asking, asking_of, cutting, timeline_asked}
use Rattle.origin_model.specs.Samples.{SegmentPlan}
use Rattle.vod_origin.specs.declared.wanted.Wanted.{Wanted}
use Rattle.vod_origin.specs.declared.wanted.Wanted.TheVariants.{Segment, Iframe}
use Rattle.vod_origin.specs.Wanted.{answer_with, cut_due, cut_of, leaf_of, plan_due, plan_of}

-- the answer of a leaf that wants it, whatever range is asked for
leaf_planned : (o : Setup) (sequence : ℕ) (a : Asking) (w : Wanted) → ranged_answer o a None (leaf_of sequence w)
    ≡ (timeline_asked o a sequence >>= plan_due w (cutting o a) >>= answer_with o.files sequence w)
unfolding leaf_answer lone_segment lone_iframe
leaf_planned o sequence a (Segment number asked form) = refl
leaf_planned o sequence a (Iframe number index video) = refl

abbrev pub cut_with : Setup → Asking → Timeline → Result (Timeline × Cutting) Refusal
cut_with o a t = Ok (t, cutting o a)

-- the timeline of a sequence that was cut, by what is asked for
abbrev pub cut_in : Setup → ℕ → Asking → Result (Timeline × Cutting) Refusal
cut_in o sequence a = cut_of o a sequence

module _ (o : Setup) (ask : Ask) (sequence : ℕ) (w : Wanted) (leaf_is : ask.leaf ≡ leaf_of sequence w) where
  abbrev answer_of : SegmentPlan → Answer
  answer_of = answer_with o.files sequence w

  abbrev planned : Result (Timeline × Cutting) Refusal → Answer
  planned r = r >>= plan_of w >>= answer_of

  -- of what is asked for
  by_timeline : (a : Asking) (r : Result Timeline Refusal) → (r >>= plan_due w (cutting o a) >>= answer_of) ≡ planned (r >>= cut_with o a)
  by_timeline a (Ok t) = refl
  by_timeline a (Err e) = refl

  -- it is its plan's, where there is one
  answer_is : ask_answer o None ask ≡ planned (cut_due o ask sequence)
  unfolding ask_answer
  answer_is = by_asking (asking_of o ask)
    where
      by_asking : (r : Result Asking Refusal) → (r >>= λ a. ranged_answer o a None ask.leaf) ≡ planned (r >>= λ a. cut_of o a sequence)
      by_asking (Ok a) = ap (ranged_answer o a None) leaf_is ∙ leaf_planned o sequence a w ∙ by_timeline a (timeline_asked o a sequence)
      by_asking (Err e) = refl

  -- there is no timeline
  pub untimed : (e : Refusal) → cut_due o ask sequence ≡ Err e → ask_answer o None ask ≡ Err e
  untimed e is = answer_is ∙ ap planned is

  -- there is one, and no plan in it
  pub unplanned : (t : Timeline) (c : Cutting) (e : Refusal) → cut_due o ask sequence ≡ Ok (t, c) → plan_due w c t ≡ Err e → ask_answer o None ask ≡ Err e
  unplanned t c e is due = answer_is ∙ ap planned is ∙ ap (λ (r : Result SegmentPlan Refusal). r >>= answer_of) due

  -- there is one
  pub planned_with : (t : Timeline) (c : Cutting) (plan : SegmentPlan) → cut_due o ask sequence ≡ Ok (t, c) → plan_due w c t ≡ Ok plan
      → ask_answer o None ask ≡ answer_with o.files sequence w plan
  planned_with t c plan is due = answer_is ∙ ap planned is ∙ ap (λ (r : Result SegmentPlan Refusal). r >>= answer_of) due
