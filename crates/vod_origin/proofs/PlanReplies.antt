-- The reply with the body of a plan.
use Rattle.std.proofs.Common.{◌≡◌, ℕ, ◌+◌, ◌-◌, Bool, true, false, List, [], ◌∷◌, length, take, drop, Option, Some, None, IfSome, Ok, refl, sym, ap, ◌∙◌, subst, arith, All}
use Rattle.std.specs.Prelude.{is_none}
use Rattle.std.specs.List.{AllByRecursion}
use Rattle.std.proofs.lemmas.List.{length-map}
use Rattle.std.proofs.lemmas.List.Elements.{recursion_from_All}
use Rattle.vod_types.specs.declared.media.Media.{Media}
use Rattle.vod_types.specs.declared.media.Media.TheVariants as kinds
use Rattle.vod_types.specs.declared.paths.Ask.{Ask}
use Rattle.vod_types.specs.declared.paths.Leaf.{Leaf}
use Rattle.vod_types.specs.declared.segments.Form.{Form}
use Rattle.vod_types.specs.declared.segments.Form.TheVariants.{Ts, Fmp4}
use Rattle.vod_types.specs.declared.segments.Row.{Row}
use Rattle.vod_types.specs.declared.tracks.Asked.{Asked}
use Rattle.vod_types.specs.declared.tracks.Kind.TheVariants.{Audio}
use Rattle.vod_types.specs.SegmentRows.{SegmentRows, sample_bytes}
use Rattle.vod_types.specs.Settled.{Settled}
use Rattle.vod_types.specs.Tracks.{video_alone}
use Rattle.media_model.specs.Fragment.{fragment_size, sizes}
use Rattle.media_model.specs.WritingOrder.{of_track, is_before, writing_order}
use Rattle.media_model.proofs.Counts.{writing_order-video, writing_order-audio}
use Rattle.media_model.proofs.Sizes.{length-fragment}
use Rattle.list_model.specs.Reply.{Answer, End, leaf_body, leaf_media, mp4_media, told_length}
use Rattle.vod_source.specs.Stored.{Files, bytes_of}
use Rattle.vod_source.proofs.CallLemmas.{told_all, told_with_all}
use Rattle.vod_source.proofs.RangeLemmas.{length-bytes_at}
use Rattle.vod_http.specs.Answered.{HasLength}
use Rattle.vod_http.specs.declared.answerer.Reply.{Reply}
use Rattle.vod_http.specs.declared.answerer.Reply.TheVariants.{Body, Refused}
use Rattle.origin_model.specs.Answers.{ask_answer}
use Rattle.origin_model.specs.Bodies.{segment_body}
use Rattle.flat_lists.specs.Asked.{setup_of}
use Rattle.fmp4_writer.specs.Progress as fragments
use Rattle.fmp4_writer.specs.Samples.{IsReadable}
use Rattle.fmp4_writer.specs.declared.writing.Progress.TheVariants.{Front}
use Rattle.ts_writer.specs.Conditions as streams
use Rattle.ts_writer.specs.Progress.{segment_begun}
use Rattle.vod_plan.specs.Planned.{Planned, plan_rows, plan_view}
use Rattle.vod_plan.specs.Writable.{IsWritableBy}
use Rattle.vod_origin.specs.AnswerLaw.{has_length}
use Rattle.vod_origin.specs.Begun.{asked_answer, Begins, IsFragmentReply, IsFreshStream, IsPlanReply, IsStreamReply, Replies}
use Rattle.vod_origin.specs.Bodies.{rest_with}
use Rattle.vod_origin.specs.declared.cursor.Cursor.{Cursor}
use Rattle.vod_origin.specs.declared.cursor.Cursor.TheVariants.{Fragment, Stream}
use Rattle.vod_origin.specs.declared.wanted.Wanted.{Wanted}
use Rattle.vod_origin.specs.declared.wanted.Wanted.TheVariants as wants
use Rattle.vod_origin.specs.Wanted.{answer_with, asked_of, form_of, leaf_of, number_of}
use Rattle.vod_origin.proofs.ReplyLemmas.{IsAnswered, none_begun, replied, rests}

-- ---- rows

-- the bytes of rows that lie in their files are as many as their sizes say
rows_long : (files : Files) (rows : SegmentRows) (xs : List Row) → All (IsReadable (Some files) rows) xs → AllByRecursion (λ row. length (sample_bytes (bytes_of files) rows row) ≡ row.sample.size) xs
rows_long files rows xs readable = go xs (recursion_from_All (IsReadable (Some files) rows) xs readable)
  where
    go : (xs : List Row) → AllByRecursion (IsReadable (Some files) rows) xs → AllByRecursion (λ row. length (sample_bytes (bytes_of files) rows row) ≡ row.sample.size) xs
    go [] h = tt
    go (row ∷ xs) h =
        let n : row.sample.at + row.sample.size - row.sample.at ≡ row.sample.size = omega arith in (
          ap (λ n. length (take n (drop row.sample.at (bytes_of files (rows.name row.file))))) n ∙ length-bytes_at files (rows.name row.file) row.sample.at row.sample.size h.0.within,
          go xs h.1,
        )

-- both kinds together
order_turn : (v a : Row) (video audio : List Row) → length (writing_order video (a ∷ audio)) ≡ length video + length (a ∷ audio)
    → length (writing_order (v ∷ video) audio) ≡ length (v ∷ video) + length audio
    → (b : Bool) → is_before v a ≡ b → length (writing_order (v ∷ video) (a ∷ audio)) ≡ length (v ∷ video) + length (a ∷ audio)
order_turn v a video audio without_video without_audio true is = ap length (writing_order-audio v a video audio is) ∙ omega (arith, without_audio)
order_turn v a video audio without_video without_audio false is = ap length (writing_order-video v a video audio is) ∙ omega (arith, without_video)

order_step : (v : Row) (video : List Row) → ((audio : List Row) → length (writing_order video audio) ≡ length video + length audio)
    → (audio : List Row) → length (writing_order (v ∷ video) audio) ≡ length (v ∷ video) + length audio
order_step v video others [] = omega (arith, others [])
order_step v video others (a ∷ audio) = order_turn v a video audio (others (a ∷ audio)) (order_step v video others audio) (is_before v a) refl

length-order : (video audio : List Row) → length (writing_order video audio) ≡ length video + length audio
length-order [] audio = omega (arith, length-map audio (of_track Audio))
length-order (v ∷ video) audio = order_step v video (λ audio. length-order video audio) audio

-- ---- bodies

module _ (settings : Settled) (root : List ℕ) (ask : Ask) (plan : Planned) (number : ℕ) (asked : Asked) where
  abbrev bytes : Form → Files → List ℕ
  bytes form files = (segment_body files (plan_view plan) number form asked).0

  abbrev end : Form → Files → End
  end form files = (segment_body files (plan_view plan) number form asked).1

  abbrev told_in : Option Files → Option Answer
  told_in content = asked_answer settings root ask content

  -- ---- a fragment

  abbrev fragment_begun : Cursor
  fragment_begun = Fragment (record { plan = plan; writing = Front number })

  abbrev fragment_length : ℕ
  fragment_length = fragment_size (length (plan_rows plan).video) (length (plan_rows plan).audio) plan.bytes

  fragment_rest : (files : Files) → rest_with files fragment_begun ≡ (bytes Fmp4 files, end Fmp4 files)
  unfolding segment_body
  fragment_rest files = refl

  fragment_long : (content : Option Files) → plan.bytes ≡ sizes (plan_rows plan).video + sizes (plan_rows plan).audio → fragments.AreWritable content (plan_rows plan)
      → IfSome content (λ files. fragment_length ≡ length (bytes Fmp4 files))
  unfolding segment_body
  fragment_long None total writable = tt
  fragment_long (Some files) total writable =
      let rows = plan_rows plan in
      ap (fragment_size (length rows.video) (length rows.audio)) total
      ∙ sym (length-fragment number (sample_bytes (bytes_of files) rows) rows.video rows.audio (rows_long files rows rows.video writable.samples.video) (rows_long files rows rows.audio writable.samples.audio))

  module _ (content : Option Files) (told : IfSome content (IsAnswered settings root ask (bytes Fmp4) (end Fmp4))) (media : leaf_media ask.leaf ≡ mp4_media asked) (measured : (n : ℕ) → told_length ask.leaf n ≡ Some n)
      (total : plan.bytes ≡ sizes (plan_rows plan).video + sizes (plan_rows plan).audio) (writable : fragments.AreWritable content (plan_rows plan)) where
    fragment_has : HasLength (mp4_media asked) (Some fragment_length)
    fragment_has =
        subst (λ (m : Media). HasLength m (Some fragment_length)) media
        (subst (λ (n : Option ℕ). HasLength (leaf_media ask.leaf) n) (measured fragment_length) (has_length ask.leaf fragment_length))

    pub fragment_replies : (before now : ℕ) (reply : Reply Cursor) → IsFragmentReply number asked plan reply → Replies (told_in content) before now reply
    fragment_replies before now (Refused why) is = absurd is
    fragment_replies before now (Body kind n part cursor) is =
        replied settings root ask (bytes Fmp4) (end Fmp4) content before now kind n part cursor told (is.0 ∙ sym media) (rw (is.0, is.1) fragment_has)
        (told_with_all content _ _ (fragment_long content total writable) (λ files long. is.1 ∙ ap Some long ∙ sym (measured (length (bytes Fmp4 files))))) is.2

    pub fragment_begins : (reply : Reply Cursor) → IsFragmentReply number asked plan reply → Begins (told_in content) content reply
    fragment_begins (Refused why) is = absurd is
    fragment_begins (Body kind n part cursor) is = subst (λ (c : Cursor). Begins (told_in content) content (Body kind n part c)) (sym is.3) (record {
      belongs = record { left = tt; writable = writable };
      under_way = refl;
      few = omega (arith, writable.tracks.video_rows.count, writable.tracks.audio_rows.count);
      rest = rests settings root ask (bytes Fmp4) (end Fmp4) content fragment_begun told (told_all content _ fragment_rest);
      in_packets = sym (ap is_none is.1);
    })

  -- ---- a transport stream

  abbrev stream_begun : Cursor
  stream_begun = Stream (record { plan = plan; writing = segment_begun plan.largest asked plan.hevc })

  stream_rest : (files : Files) → rest_with files stream_begun ≡ (bytes Ts files, end Ts files)
  unfolding segment_body
  stream_rest files = refl

  module _ (content : Option Files) (told : IfSome content (IsAnswered settings root ask (bytes Ts) (end Ts))) (media : leaf_media ask.leaf ≡ kinds.Ts) (unmeasured : (n : ℕ) → told_length ask.leaf n ≡ None)
      (writable : streams.AreWritable content (plan_rows plan) (segment_begun plan.largest asked plan.hevc)) where
    pub stream_replies : (before now : ℕ) (head_only : Bool) (reply : Reply Cursor) → IsStreamReply head_only asked plan reply → Replies (told_in content) before now reply
    stream_replies before now head_only (Refused why) is = λ range. rw is tt
    stream_replies before now head_only (Body kind n part cursor) is =
        replied settings root ask (bytes Ts) (end Ts) content before now kind n part cursor told (is.0 ∙ sym media) (rw (is.0, is.1) refl)
        (told_all content _ (λ files. is.1 ∙ sym (unmeasured (length (bytes Ts files))))) is.2

    begins_with : (kind : Media) (n : Option ℕ) (part : Option (ℕ × ℕ × ℕ)) (cursor : Cursor) → n ≡ None → IsFreshStream asked plan cursor → Begins (told_in content) content (Body kind n part cursor)
    begins_with kind n part cursor none fresh = subst (λ (c : Cursor). Begins (told_in content) content (Body kind n part c)) (sym fresh.cursor_is) (record {
      belongs = record { left = tt; writable = writable; more = tt; starts = refl };
      under_way = refl;
      few = omega (arith, fresh.few, length-order (plan_rows plan).video (plan_rows plan).audio);
      rest = rests settings root ask (bytes Ts) (end Ts) content stream_begun told (told_all content _ stream_rest);
      in_packets = sym (ap is_none none);
    })

    pub stream_begins : (head_only : Bool) (reply : Reply Cursor) → IsStreamReply head_only asked plan reply → head_only ≡ false → Begins (told_in content) content reply
    stream_begins head_only (Refused why) is whole = none_begun (told_in content) content why
    stream_begins head_only (Body kind n part cursor) is whole = begins_with kind n part cursor is.1 (is.3 whole)

-- ---- what is wanted

module _ (settings : Settled) (root : List ℕ) (ask : Ask) (sequence : ℕ) (plan : Planned) (content : Option Files) where
  answered : (w : Wanted) → ask.leaf ≡ leaf_of sequence w → IfSome content (λ files. ask_answer (setup_of settings root files) None ask ≡ answer_with files sequence w (plan_view plan))
      → IfSome content (IsAnswered settings root ask (bytes settings root ask plan (number_of w) (asked_of w) (form_of w)) (end settings root ask plan (number_of w) (asked_of w) (form_of w)))
  answered w leaf_is told =
      told_with_all content _ _ told
      (λ files is. is ∙ ap (λ (l : Leaf). Ok (leaf_body l (bytes settings root ask plan (number_of w) (asked_of w) (form_of w) files) (end settings root ask plan (number_of w) (asked_of w) (form_of w) files))) (sym leaf_is))

  pub plan_replies : (w : Wanted) → ask.leaf ≡ leaf_of sequence w → IfSome content (λ files. ask_answer (setup_of settings root files) None ask ≡ answer_with files sequence w (plan_view plan))
      → plan.bytes ≡ sizes (plan_rows plan).video + sizes (plan_rows plan).audio → IsWritableBy (form_of w) (asked_of w) content plan
      → (before now : ℕ) (head_only : Bool) (reply : Reply Cursor) → IsPlanReply head_only (number_of w) (asked_of w) (form_of w) plan reply
      → Replies (asked_answer settings root ask content) before now reply
  plan_replies (wants.Segment number asked Ts) leaf_is told total writable before now head_only reply is =
      stream_replies settings root ask plan number asked content (answered (wants.Segment number asked Ts) leaf_is told) (ap leaf_media leaf_is) (λ n. ap (λ l. told_length l n) leaf_is) writable before now head_only reply is
  plan_replies (wants.Segment number asked Fmp4) leaf_is told total writable before now head_only reply is =
      fragment_replies settings root ask plan number asked content (answered (wants.Segment number asked Fmp4) leaf_is told) (ap leaf_media leaf_is) (λ n. ap (λ l. told_length l n) leaf_is) total writable before now reply is
  plan_replies (wants.Iframe number index video) leaf_is told total writable before now head_only reply is =
      stream_replies settings root ask plan number (video_alone video) content (answered (wants.Iframe number index video) leaf_is told) (ap leaf_media leaf_is) (λ n. ap (λ l. told_length l n) leaf_is) writable before now head_only reply is

  pub plan_begins : (w : Wanted) → ask.leaf ≡ leaf_of sequence w → IfSome content (λ files. ask_answer (setup_of settings root files) None ask ≡ answer_with files sequence w (plan_view plan))
      → plan.bytes ≡ sizes (plan_rows plan).video + sizes (plan_rows plan).audio → IsWritableBy (form_of w) (asked_of w) content plan
      → (head_only : Bool) (reply : Reply Cursor) → IsPlanReply head_only (number_of w) (asked_of w) (form_of w) plan reply → head_only ≡ false
      → Begins (asked_answer settings root ask content) content reply
  plan_begins (wants.Segment number asked Ts) leaf_is told total writable head_only reply is whole =
      stream_begins settings root ask plan number asked content (answered (wants.Segment number asked Ts) leaf_is told) (ap leaf_media leaf_is) (λ n. ap (λ l. told_length l n) leaf_is) writable head_only reply is whole
  plan_begins (wants.Segment number asked Fmp4) leaf_is told total writable head_only reply is whole =
      fragment_begins settings root ask plan number asked content (answered (wants.Segment number asked Fmp4) leaf_is told) (ap leaf_media leaf_is) (λ n. ap (λ l. told_length l n) leaf_is) total writable reply is
  plan_begins (wants.Iframe number index video) leaf_is told total writable head_only reply is whole =
      stream_begins settings root ask plan number (video_alone video) content (answered (wants.Iframe number index video) leaf_is told) (ap leaf_media leaf_is) (λ n. ap (λ l. told_length l n) leaf_is) writable head_only reply is whole
