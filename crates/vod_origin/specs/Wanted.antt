-- What goes the fast way, and what is due of it; this project's own.
use Rattle.std.specs.Prelude.{ℕ, Bool, true, false, List, Result, Ok}
use Rattle.vod_types.specs.declared.paths.Ask.{Ask}
use Rattle.vod_types.specs.declared.paths.Leaf.{Leaf}
use Rattle.vod_types.specs.declared.paths.Leaf.TheVariants as leaves
use Rattle.vod_types.specs.declared.refusal.Refusal.{Refusal}
use Rattle.vod_types.specs.declared.segments.Form.{Form}
use Rattle.vod_types.specs.declared.segments.Form.TheVariants.{Ts}
use Rattle.vod_types.specs.declared.tracks.Asked.{Asked}
use Rattle.vod_types.specs.Results.{◌>>=◌}
use Rattle.vod_types.specs.Tracks.{video_alone}
use Rattle.clip_model.specs.Timeline.{Timeline}
use Rattle.list_model.specs.Reply.{Answer, leaf_body}
use Rattle.vod_source.specs.Stored.{Files}
use Rattle.origin_model.specs.Bodies.{segment_body}
use Rattle.origin_model.specs.Iframes.{planned_iframe}
use Rattle.origin_model.specs.Plans.{Cutting, planned_segment, segment_looks}
use Rattle.origin_model.specs.Requests.{Setup, Asking, asking_of, cutting, timeline_asked}
use Rattle.origin_model.specs.Samples.{SegmentPlan}
use Rattle.vod_plan.specs.Looks.{names_of}
use Rattle.vod_plan.specs.Planned.{cutting_of}
use Rattle.vod_origin.specs.declared.plans.SequenceCut.{SequenceCut}
use Rattle.vod_origin.specs.declared.wanted.Wanted.{Wanted}
use Rattle.vod_origin.specs.declared.wanted.Wanted.TheVariants.{Segment, Iframe}

-- the leaf that wants it of a sequence
abbrev pub leaf_of : ℕ → Wanted → Leaf
leaf_of sequence (Segment number asked form) = leaves.Segment number sequence asked form
leaf_of sequence (Iframe number index video) = leaves.Iframe number index sequence video

-- whether a leaf is one of them
abbrev pub is_wanted : Leaf → Bool
is_wanted (leaves.Segment number sequence asked form) = true
is_wanted (leaves.Iframe number index sequence video) = true
is_wanted _ = false

-- its segment's number, its asked tracks and its form
abbrev pub number_of : Wanted → ℕ
number_of (Segment number asked form) = number
number_of (Iframe number index video) = number

abbrev pub asked_of : Wanted → Asked
asked_of (Segment number asked form) = asked
asked_of (Iframe number index video) = video_alone video

abbrev pub form_of : Wanted → Form
form_of (Segment number asked form) = form
form_of (Iframe number index video) = Ts

-- ---- what is due

-- its rows in a timeline, or their first refusal
abbrev pub plan_due : Wanted → Cutting → Timeline → Result SegmentPlan Refusal
plan_due (Segment number asked form) c t = planned_segment c asked t number form
plan_due (Iframe number index video) c t = planned_iframe c video t number index

-- the files whose movies are looked at for it
abbrev pub plan_names : Wanted → Cutting → Timeline → List (List ℕ)
plan_names w c t = names_of (segment_looks c (asked_of w) t (number_of w))

-- the timeline of a sequence, and how its parts are cut
abbrev pub cut_of : Setup → Asking → ℕ → Result (Timeline × Cutting) Refusal
cut_of o a sequence = timeline_asked o a sequence >>= λ t. Ok (t, cutting o a)

abbrev pub cut_due : Setup → Ask → ℕ → Result (Timeline × Cutting) Refusal
cut_due o ask sequence = asking_of o ask >>= λ a. cut_of o a sequence

-- the timeline alone
abbrev pub timeline_in : Setup → ℕ → Asking → Result Timeline Refusal
timeline_in o sequence a = timeline_asked o a sequence

abbrev pub timeline_due : Setup → Ask → ℕ → Result Timeline Refusal
timeline_due o ask sequence = asking_of o ask >>= timeline_in o sequence

-- the rows in a timeline that was cut, and their answer
abbrev pub plan_of : Wanted → Timeline × Cutting → Result SegmentPlan Refusal
plan_of w s = plan_due w s.1 s.0

-- the same as it is kept
abbrev pub cut_view : Files → SequenceCut → Timeline × Cutting
cut_view files s = (s.timeline, cutting_of files s.grid s.align s.edits)

-- the answer with the body of these rows
abbrev pub answer_with : Files → ℕ → Wanted → SegmentPlan → Answer
answer_with files sequence w plan =
    let body = segment_body files plan (number_of w) (form_of w) (asked_of w) in Ok (leaf_body (leaf_of sequence w) body.0 body.1)
