-- What is due of a sequence whose parts are cut, and what is read for it.
use Rattle.std.proofs.Common.{◌≡◌, ◌≢◌, ℕ, Bool, List, [], map, Option, Result, Ok, Err, refl, sym, ap, ap₂, ◌∙◌, subst}
use Rattle.vod_types.specs.declared.paths.Leaf.TheVariants.{Index, Segment, Iframes, Iframe}
use Rattle.vod_types.specs.declared.refusal.Refusal.{Refusal}
use Rattle.vod_types.specs.declared.refusal.Refusal.TheVariants.{NoMemory}
use Rattle.vod_types.specs.declared.tracks.Asked.{Asked}
use Rattle.vod_types.specs.Results.{◌>>=◌}
use Rattle.clip_model.specs.declared.Piece.{Piece}
use Rattle.clip_model.specs.Timeline.{Timeline}
use Rattle.segment_model.specs.Grid.{SegmentGrid}
use Rattle.segment_model.specs.Listing.{ListedSegment}
use Rattle.vod_source.specs.Stored.{Files, Read}
use Rattle.origin_model.specs.Answers.{lone_iframe, lone_segment, sequence_iframes}
use Rattle.origin_model.specs.Lists.{listed_segments}
use Rattle.origin_model.specs.Plans.{Cutting, pieces_or_none, planned_rows, planned_segment, rows_looks, segment_looks}
use Rattle.origin_model.specs.Reads.{turn_pieces, turns}
use Rattle.origin_model.specs.Requests.{Setup, Asking, cutting, timeline_asked}
use Rattle.vod_source.specs.Calls.{AnswersUnlessFailed, LogsReads, Came}
use Rattle.flat_lists.specs.Listings.{leaf_turns}
use Rattle.vod_types.specs.Tracks.{video_alone}
use Rattle.vod_types.specs.declared.segments.Form.{Form}
use Rattle.vod_types.specs.declared.segments.IframeRow.{IframeRow}
use Rattle.origin_model.specs.Iframes.{planned_iframe, planned_iframes}
use Rattle.origin_model.specs.Samples.{SegmentPlan}
use Rattle.flat_segments.specs.Planned.{cutting_of}
use Rattle.mp4_flat.proofs.Leaves.{no_turns}
use Rattle.vod_source.proofs.CallLemmas.{logs_unmade}

-- how the parts are cut, by other words for the same
pub recut_as : (known : Files) (g h : SegmentGrid) (align other edits honoured : Bool) → g ≡ h → align ≡ other → edits ≡ honoured → cutting_of known g align edits ≡ cutting_of known h other honoured
recut_as known g h align other edits honoured e f i = ap₂ (λ (g : SegmentGrid) (a : Bool). cutting_of known g a edits) e f ∙ ap (cutting_of known h other) i

module _ (o : Setup) (a : Asking) (sequence : ℕ) {Y : Type 0} (due : Result Y Refusal) (all : List Read) (plan : Cutting → Timeline → Result Y Refusal) (looks : Cutting → Timeline → List Piece) where
  abbrev times : Result Timeline Refusal
  times = timeline_asked o a sequence

  abbrev reads_of : Result Timeline Refusal → List Read
  reads_of r = (turns o.files [] (map (λ p. p.name) (pieces_or_none (r >>= λ t. Ok (looks (cutting o a) t))))).reads

  module _ {X : Type 0} (view : X → Y) (due_is : due ≡ (times >>= plan (cutting o a))) (all_is : all ≡ reads_of times) where
    -- there is no timeline
    pub untimed : (e : Refusal) (log : Option (List Read)) → (e ≢ NoMemory → times ≡ Err e) → Came view (Err e) due all log log
    untimed e log h = record {
      answered = λ known_memory known_store. due_is ∙ ap (λ (r : Result Timeline Refusal). r >>= plan (cutting o a)) (h known_memory);
      logged = logs_unmade e all log log refl (λ known_memory known_store. all_is ∙ ap reads_of (h known_memory) ∙ no_turns o.files);
    }

    -- there is one, and what is due of it is what it came to
    pub timed : (t s : Timeline) (c : Cutting) (result : Result X Refusal) (log log_now : Option (List Read)) → times ≡ Ok t → s ≡ t → c ≡ cutting o a
        → Came view result (plan c s) (turns c.files [] (map (λ p. p.name) (looks c s))).reads log log_now → Came view result due all log log_now
    timed t s c result log log_now is same cut_as came =
        let times_are : times ≡ Ok s = is ∙ ap Ok (sym same) in
        let cut = subst (λ (c : Cutting). Came view result (plan c s) (turns c.files [] (map (λ p. p.name) (looks c s))).reads log log_now) cut_as came in
        record {
          answered = subst (AnswersUnlessFailed view result) (sym (due_is ∙ ap (λ (r : Result Timeline Refusal). r >>= plan (cutting o a)) times_are)) cut.answered;
          logged = subst (λ (reads : List Read). LogsReads result reads log log_now) (sym (all_is ∙ ap reads_of times_are)) cut.logged;
        }

-- ---- each of them

module _ (o : Setup) (a : Asking) (sequence : ℕ) where
  module _ (asked : Asked) where
    abbrev pub listed_plan : Cutting → Timeline → Result (List ListedSegment) Refusal
    listed_plan c t = planned_rows c asked t

    abbrev pub listed_looks : Cutting → Timeline → List Piece
    listed_looks c t = rows_looks c asked t

    pub listed_are : listed_segments o a sequence asked ≡ (timeline_asked o a sequence >>= listed_plan (cutting o a))
    unfolding listed_segments
    listed_are = refl

    pub listed_turns : leaf_turns o a (Index sequence asked) ≡ (turns o.files [] (map (λ p. p.name) (pieces_or_none (timeline_asked o a sequence >>= λ t. Ok (listed_looks (cutting o a) t))))).reads
    unfolding turn_pieces
    listed_turns = refl

  module _ (video : ℕ) where
    abbrev pub iframes_plan : Cutting → Timeline → Result (List IframeRow) Refusal
    iframes_plan c t = planned_iframes c video t

    abbrev pub iframes_looks : Cutting → Timeline → List Piece
    iframes_looks c t = rows_looks c (video_alone video) t

    pub iframes_are : sequence_iframes o a sequence video ≡ (timeline_asked o a sequence >>= iframes_plan (cutting o a))
    unfolding sequence_iframes
    iframes_are = refl

    pub iframes_turns : leaf_turns o a (Iframes sequence video) ≡ (turns o.files [] (map (λ p. p.name) (pieces_or_none (timeline_asked o a sequence >>= λ t. Ok (iframes_looks (cutting o a) t))))).reads
    unfolding turn_pieces
    iframes_turns = refl

  module _ (number : ℕ) (asked : Asked) (form : Form) where
    abbrev pub segment_plan : Cutting → Timeline → Result SegmentPlan Refusal
    segment_plan c t = planned_segment c asked t number form

    abbrev pub segment_looked : Cutting → Timeline → List Piece
    segment_looked c t = segment_looks c asked t number

    pub segment_planned : lone_segment o a number sequence asked form ≡ (timeline_asked o a sequence >>= segment_plan (cutting o a))
    unfolding lone_segment
    segment_planned = refl

    pub segment_turned : leaf_turns o a (Segment number sequence asked form) ≡ (turns o.files [] (map (λ p. p.name) (pieces_or_none (timeline_asked o a sequence >>= λ t. Ok (segment_looked (cutting o a) t))))).reads
    unfolding turn_pieces
    segment_turned = refl

  module _ (number index video : ℕ) where
    abbrev pub iframe_plan : Cutting → Timeline → Result SegmentPlan Refusal
    iframe_plan c t = planned_iframe c video t number index

    abbrev pub iframe_looked : Cutting → Timeline → List Piece
    iframe_looked c t = segment_looks c (video_alone video) t number

    pub iframe_planned : lone_iframe o a number index sequence video ≡ (timeline_asked o a sequence >>= iframe_plan (cutting o a))
    unfolding lone_iframe
    iframe_planned = refl

    pub iframe_turned : leaf_turns o a (Iframe number index sequence video) ≡ (turns o.files [] (map (λ p. p.name) (pieces_or_none (timeline_asked o a sequence >>= λ t. Ok (iframe_looked (cutting o a) t))))).reads
    unfolding turn_pieces
    iframe_turned = refl
