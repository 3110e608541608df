-- What a leaf and a path are answered with.
use Rattle.std.proofs.Common.{◌≡◌, ℕ, ◌%◌, List, length, take_while, None, Result, Ok, Err, refl, arith}
use Rattle.vod_types.specs.declared.paths.Ask.{Ask}
use Rattle.vod_types.specs.declared.paths.Leaf.{Leaf}
use Rattle.vod_types.specs.declared.paths.Leaf.TheVariants.{Master, Mpd, Index, Init, Segment, Iframes, Iframe, Clip}
use Rattle.vod_types.specs.declared.refusal.Refusal.{Refusal}
use Rattle.vod_types.specs.declared.segments.Form.TheVariants.{Ts, Fmp4}
use Rattle.vod_types.specs.declared.tracks.Asked.{Asked}
use Rattle.vod_types.specs.Results.{◌>>=◌}
use Rattle.vod_types.specs.Tracks.{lead_of}
use Rattle.media_model.proofs.Counts.{length-rows_bytes}
use Rattle.media_model.specs.WritingOrder.{writing_order}
use Rattle.list_model.specs.Reply.{Answer, End, leaf_body, told_length}
use Rattle.origin_model.specs.Answers.{answer, ask_answer, clip_answer, init_answer, leaf_answer, lone_clip, lone_iframe, lone_segment, ranged_answer, readable, readable_as, sequence_iframes}
use Rattle.origin_model.specs.Bodies.{is_good_row, payload_of_row, segment_body}
use Rattle.origin_model.specs.Lists.{listed_segments}
use Rattle.origin_model.specs.Requests.{Setup, Asking, cutting, honours_edits}
use Rattle.origin_model.specs.Samples.{SegmentPlan}
use Rattle.answer_laws.specs.Laws.{AnswersOfPaths, IsLeafAnswer, IsLeafBody}
use Rattle.answer_laws.proofs.Clips.{clip_may, whole_may}
use Rattle.answer_laws.proofs.Lists.{periods_may, shown_may}
use Rattle.answer_laws.proofs.Mappings.{asked_timeline_may, asking_may, init_piece_may}
use Rattle.answer_laws.proofs.Segments.{checked_may, iframes_may, listed_may, lone_iframe_may, segment_may}
use Rattle.answer_laws.proofs.Steps.{May, then_may, ok_or_may, some_may}

-- ---- bodies

-- a chain of steps that ends in the answer of a leaf
module _ (leaf : Leaf) where
  answered_by : {A : Type 0} (r : Result A Refusal) (f : A → Answer) → May r → ((x : A) → IsLeafAnswer leaf (f x)) → IsLeafAnswer leaf (r >>= f)
  answered_by (Ok x) f may rest = rest x
  answered_by (Err e) f may rest = may

  -- whole packets, where they are written
  body_by : (bytes : List ℕ) (end : End) → (told_length leaf (length bytes) ≡ None → length bytes % 188 ≡ 0) → IsLeafBody leaf (leaf_body leaf bytes end)
  body_by bytes end packets = record { is = refl; packets = packets }

-- a transport stream is whole packets
pub stream_packets : (o : Setup) (plan : SegmentPlan) (number : ℕ) (asked : Asked) → length (segment_body o.files plan number Ts asked).0 % 188 ≡ 0
unfolding segment_body
stream_packets o plan number asked = omega (arith, length-rows_bytes (lead_of asked) asked plan.hevc (payload_of_row o.files plan) (take_while (is_good_row o.files plan) (writing_order plan.rows.video plan.rows.audio)))

-- ---- leaves

module _ (o : Setup) (a : Asking) where
  rows_may : (sequence : ℕ) (asked : Asked) → May (listed_segments o a sequence asked)
  unfolding listed_segments
  rows_may sequence asked = then_may _ _ (asked_timeline_may o a sequence) (listed_may (cutting o a) asked)

  segment_rows_may : (number sequence : ℕ) (asked : Asked) (form : _) → May (lone_segment o a number sequence asked form)
  unfolding lone_segment
  segment_rows_may number sequence asked form = then_may _ _ (asked_timeline_may o a sequence) (λ t. segment_may (cutting o a) asked t number form)

  iframe_rows_may : (sequence video : ℕ) → May (sequence_iframes o a sequence video)
  unfolding sequence_iframes
  iframe_rows_may sequence video = then_may _ _ (asked_timeline_may o a sequence) (iframes_may (cutting o a) video)

  iframe_row_may : (number index sequence video : ℕ) → May (lone_iframe o a number index sequence video)
  unfolding lone_iframe
  iframe_row_may number index sequence video = then_may _ _ (asked_timeline_may o a sequence) (λ t. lone_iframe_may (cutting o a) video t number index)

  init_answered : (part sequence : ℕ) (asked : Asked) → IsLeafAnswer (Init part sequence asked) (init_answer o a part sequence asked)
  unfolding init_answer
  init_answered part sequence asked =
      let leaf = Init part sequence asked in
      answered_by leaf _ _ (asked_timeline_may o a sequence) (λ t. answered_by leaf _ _ (init_piece_may t part) (λ piece.
      answered_by leaf _ _ (checked_may o.files (honours_edits o) asked piece) (λ c. body_by leaf _ _ (λ none. absurd cc))))

  clip_rows_may : (sequence : ℕ) (asked : Asked) → May (lone_clip o a sequence asked)
  unfolding lone_clip
  clip_rows_may sequence asked = then_may _ _ (asked_timeline_may o a sequence) (λ t. clip_may (cutting o a) asked t sequence)

  clip_answered : (sequence : ℕ) (asked : Asked) → IsLeafAnswer (Clip sequence asked) (clip_answer o a sequence asked None)
  unfolding clip_answer
  clip_answered sequence asked =
      let leaf = Clip sequence asked in
      answered_by leaf _ _ (clip_rows_may sequence asked) (λ clip. answered_by leaf _ _ (whole_may clip) (λ part. body_by leaf _ _ (λ none. absurd cc)))

  pub leaf_answered : (leaf : Leaf) → IsLeafAnswer leaf (leaf_answer o a leaf)
  unfolding leaf_answer
  leaf_answered Master = answered_by Master _ _ (shown_may o a) (λ found. body_by Master _ _ (λ none. absurd cc))
  leaf_answered Mpd = answered_by Mpd _ _ (periods_may o a) (λ found. body_by Mpd _ _ (λ none. absurd cc))
  leaf_answered (Index sequence asked) = answered_by (Index sequence asked) _ _ (rows_may sequence asked) (λ rows. body_by (Index sequence asked) _ _ (λ none. absurd cc))
  leaf_answered (Init part sequence asked) = init_answered part sequence asked
  leaf_answered (Segment number sequence asked Ts) =
      answered_by (Segment number sequence asked Ts) _ _ (segment_rows_may number sequence asked Ts) (λ plan. body_by (Segment number sequence asked Ts) _ _ (λ none. stream_packets o plan number asked))
  leaf_answered (Segment number sequence asked Fmp4) =
      answered_by (Segment number sequence asked Fmp4) _ _ (segment_rows_may number sequence asked Fmp4) (λ plan. body_by (Segment number sequence asked Fmp4) _ _ (λ none. absurd cc))
  leaf_answered (Iframes sequence video) = answered_by (Iframes sequence video) _ _ (iframe_rows_may sequence video) (λ rows. body_by (Iframes sequence video) _ _ (λ none. absurd cc))
  leaf_answered (Iframe number index sequence video) =
      answered_by (Iframe number index sequence video) _ _ (iframe_row_may number index sequence video) (λ plan. body_by (Iframe number index sequence video) _ _ (λ none. stream_packets o plan number _))
  leaf_answered (Clip sequence asked) = clip_answered sequence asked

  pub whole_answered : (leaf : Leaf) → IsLeafAnswer leaf (ranged_answer o a None leaf)
  whole_answered Master = leaf_answered Master
  whole_answered Mpd = leaf_answered Mpd
  whole_answered (Index sequence asked) = leaf_answered (Index sequence asked)
  whole_answered (Init part sequence asked) = leaf_answered (Init part sequence asked)
  whole_answered (Segment number sequence asked form) = leaf_answered (Segment number sequence asked form)
  whole_answered (Iframes sequence video) = leaf_answered (Iframes sequence video)
  whole_answered (Iframe number index sequence video) = leaf_answered (Iframe number index sequence video)
  whole_answered (Clip sequence asked) = clip_answered sequence asked

-- ---- requests and paths

pub ask_answered : (o : Setup) (ask : Ask) → IsLeafAnswer ask.leaf (ask_answer o None ask)
unfolding ask_answer
ask_answered o ask = answered_by ask.leaf _ _ (asking_may o ask) (λ a. whole_answered o a ask.leaf)

pub readable_may : (path : List ℕ) → May (readable path)
unfolding readable_as
readable_may path = search (ok_or_may, some_may)

pub path_answered : AnswersOfPaths
unfolding answer
path_answered o path = by_ask (readable path) (readable_may path)
  where
    by_ask : (r : Result Ask Refusal) → May r → (leaf : Leaf) × IsLeafAnswer leaf (r >>= ask_answer o None)
    by_ask (Ok ask) may = (ask.leaf, ask_answered o ask)
    by_ask (Err e) may = (Master, may)
