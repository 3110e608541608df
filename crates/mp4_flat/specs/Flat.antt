-- What the plain way answers; this project's own.
use Rattle.std.specs.Prelude.{ℕ, Bool, true, false, List, [], ◌++◌, Option, None, Some, Result}
use Rattle.std.specs.Result.{result_map_both}
use Rattle.vod_types.specs.declared.paths.Ask.{Ask}
use Rattle.vod_types.specs.declared.refusal.Refusal.{Refusal}
use Rattle.list_model.specs.Reply.{Answer, Body}
use Rattle.vod_source.specs.Stored.{Read}
use Rattle.vod_types.specs.declared.paths.Leaf.{Leaf}
use Rattle.vod_types.specs.declared.paths.ByteRange.{ByteRange}
use Rattle.vod_types.specs.declared.paths.Leaf.TheVariants.{Segment, Iframe, Clip}
use Rattle.vod_types.specs.declared.tracks.Asked.{Asked}
use Rattle.vod_types.specs.declared.segments.Form.TheVariants.{Ts}
use Rattle.origin_model.specs.Answers.{answer, ask_answer, clip_answer, every_leaf, leaf_answer}
use Rattle.origin_model.specs.Reads.{AreReads, ask_reads, clip_reads, ranged_reads, turns, turn_names}
use Rattle.origin_model.specs.Requests.{Setup, Asking}
use Rattle.flat_segments.specs.Bodies.{cut_of, flat_shown}
use Rattle.flat_segments.specs.declared.body.FlatBody.{FlatBody}
use Rattle.flat_clip.specs.Answers.{PartFacts, part_view}
use Rattle.flat_clip.specs.declared.part.ClipPart.{ClipPart}
use Rattle.vod_source.specs.Calls.{AnswersUnlessFailed, LogsReads, Came}

-- the bytes of an answer and where they end
abbrev pub bytes_and_cut : Body → List ℕ × Option (ℕ × ℕ)
bytes_and_cut body = (body.bytes, cut_of body.end)

abbrev pub flat_seen : Answer → Result (List ℕ × Option (ℕ × ℕ)) Refusal
flat_seen due = result_map_both bytes_and_cut (λ r. r) due

-- the bytes and the cut are those of the answer of the path, and these reads were made for it
pub record IsFlatAnswer (o : Setup) (path : List ℕ) (result : Result FlatBody Refusal) (log log_now : Option (List Read)) : Type 0 where
  pub answered : AnswersUnlessFailed flat_shown result (flat_seen (answer o path None))
  pub reads : List Read
  pub reads_are : AreReads every_leaf o [] true path None reads
  pub logged : LogsReads result reads log log_now

-- the answer of a request, and its reads
abbrev pub IsAskAnswer : Setup → Ask → Result FlatBody Refusal → Option (List Read) → Option (List Read) → Type 0
IsAskAnswer o ask result log log_now = Came flat_shown result (flat_seen (ask_answer o None ask)) (ask_reads o [] true [] None ask) log log_now

-- the answer of a leaf, and its reads after those for what is asked
abbrev pub leaf_reads : Setup → Asking → Leaf → List Read
leaf_reads o a leaf = (turns o.files [] (turn_names o a leaf)).reads ++ ranged_reads o a None leaf

abbrev pub IsLeafAnswer : Setup → Asking → Leaf → Result FlatBody Refusal → Option (List Read) → Option (List Read) → Type 0
IsLeafAnswer o a leaf result log log_now = Came flat_shown result (flat_seen (leaf_answer o a leaf)) (leaf_reads o a leaf) log log_now

-- ---- clips

-- where a range is asked for, the first and the last byte of the part and the length of the whole
abbrev pub part_told : Option ByteRange → PartFacts → Option (ℕ × ℕ × ℕ)
part_told None p = None
part_told (Some range) p = Some (p.first, p.last, p.length)

-- a part of a clip as it is answered
abbrev pub part_shown : Option ByteRange → PartFacts → List ℕ × Option (ℕ × ℕ × ℕ)
part_shown range p = (p.bytes, part_told range p)

abbrev pub clip_shown : Option ByteRange → ClipPart → List ℕ × Option (ℕ × ℕ × ℕ)
clip_shown range part = part_shown range (part_view part)

abbrev pub bytes_and_part : Body → List ℕ × Option (ℕ × ℕ × ℕ)
bytes_and_part body = (body.bytes, body.part)

abbrev pub clip_seen : Answer → Result (List ℕ × Option (ℕ × ℕ × ℕ)) Refusal
clip_seen due = result_map_both bytes_and_part (λ r. r) due

-- the answer of a clip, and its reads after those for what is asked
abbrev pub clip_looked : Setup → Asking → ℕ → Asked → Option ByteRange → List Read
clip_looked o a sequence asked range = (turns o.files [] (turn_names o a (Clip sequence asked))).reads ++ clip_reads o a sequence asked range

abbrev pub IsClipAnswer : Setup → Asking → ℕ → Asked → Option ByteRange → Result ClipPart Refusal → Option (List Read) → Option (List Read) → Type 0
IsClipAnswer o a sequence asked range result log log_now =
    Came (clip_shown range) result (clip_seen (clip_answer o a sequence asked range)) (clip_looked o a sequence asked range) log log_now

-- the answer of a request for a clip, and its reads
abbrev pub IsClipAsked : Setup → Option ByteRange → Ask → Result ClipPart Refusal → Option (List Read) → Option (List Read) → Type 0
IsClipAsked o range ask result log log_now =
    Came (clip_shown range) result (clip_seen (ask_answer o range ask)) (ask_reads o [] true [] range ask) log log_now

-- ---- transport streams

-- a leaf that is answered with a transport stream
abbrev pub is_stream : Leaf → Bool
is_stream (Segment number sequence asked Ts) = true
is_stream (Iframe number index sequence video) = true
is_stream _ = false
