-- What a leaf is answered with, and its reads.
use Rattle.std.proofs.Common.{◌≡◌, ◌≢◌, ℕ, Bool, List, [], ◌∷◌, ◌++◌, map, Option, None, Result, Ok, Err, refl, sym, ap, ap₂, ◌∙◌, subst, append-nil}
use Rattle.std.specs.Result.{result_map_both, result_unwrap_or}
use Rattle.vod_types.specs.declared.paths.Leaf.{Leaf}
use Rattle.vod_types.specs.declared.paths.Leaf.TheVariants.{Master, Mpd, Index, Init, Segment, Iframes, Iframe}
use Rattle.vod_types.specs.declared.refusal.Refusal.{Refusal}
use Rattle.vod_types.specs.declared.refusal.Refusal.TheVariants.{NoMemory, StoreFailed}
use Rattle.vod_types.specs.declared.segments.Form.{Form}
use Rattle.vod_types.specs.declared.segments.SegmentRow.{SegmentRow}
use Rattle.vod_types.specs.declared.tracks.Asked.{Asked}
use Rattle.vod_types.specs.Results.{◌>>=◌, Answers}
use Rattle.clip_model.specs.declared.Piece.{Piece}
use Rattle.vod_types.specs.Tracks.{video_alone}
use Rattle.vod_types.specs.declared.segments.IframeRow.{IframeRow}
use Rattle.vod_types.specs.declared.segments.Form.TheVariants.{Ts}
use Rattle.flat_lists.specs.Listings.{leaf_turns, master_due, description_due}
use Rattle.list_model.specs.Manifest.{manifest}
use Rattle.list_model.specs.Iframes.{iframe_playlist}
use Rattle.clip_model.specs.Timeline.{Timeline}
use Rattle.segment_model.specs.Listing.{ListedSegment}
use Rattle.list_model.specs.Playlist.{media_playlist}
use Rattle.list_model.specs.Reply.{whole, Answer, leaf_body}
use Rattle.vod_source.specs.Stored.{Files, Read}
use Rattle.vod_source.specs.Told.{told_with}
use Rattle.origin_model.specs.Answers.{init_answer, leaf_answer, lone_iframe, lone_segment, sequence_iframes}
use Rattle.origin_model.specs.Bodies.{init_body, segment_body}
use Rattle.origin_model.specs.Lists.{listed_segments, master_text, periods, shown_sequences}
use Rattle.origin_model.specs.Loaded.{CheckedPiece, checked}
use Rattle.origin_model.specs.Plans.{pieces_or_none}
use Rattle.origin_model.specs.Reads.{ranged_reads, sample_reads, turn_names, turn_pieces, turns}
use Rattle.origin_model.specs.Samples.{SegmentPlan}
use Rattle.origin_model.specs.Requests.{Setup, Asking, honours_edits, grid_in_use, init_piece, timeline_asked}
use Rattle.mp4_flat.specs.Inits.{init_names, part_init}
use Rattle.vod_source.specs.Calls.{AnswersUnlessFailed, LogsReads, Came}
use Rattle.mp4_flat.specs.Flat.{IsLeafAnswer, flat_seen, leaf_reads}
use Rattle.segment_model.specs.Listing.{listed_view}
use Rattle.vod_types.specs.declared.segments.Listed.{Listed}
use Rattle.flat_segments.specs.Bodies.{body_reads, bytes_with_cut, flat_shown}
use Rattle.flat_segments.specs.Segments.{flat_plan}
use Rattle.flat_segments.specs.declared.body.FlatBody.{FlatBody}
use Rattle.flat_segments.specs.declared.rows.FlatRows.{FlatRows}
use Rattle.vod_source.proofs.CallLemmas.{came-read, logs_ended, logs_then, logs_unmade, LogsErr}

-- ---- calls, one after another

module _ {X : Type 0} where
  -- a call that ends the request: nothing else is due unless it was cut short
  pub ended : {Y : Type 0} (view : X → Y) (e : Refusal) (due : Result Y Refusal) (first rest all : List Read) (log log_now : Option (List Read)) → (e ≢ NoMemory → e ≢ StoreFailed → due ≡ Err e) → LogsErr e first log log_now
      → all ≡ first ++ rest → (e ≢ NoMemory → e ≢ StoreFailed → rest ≡ []) → Came {X = X} view (Err e) due all log log_now
  ended view e due first rest all log log_now answered logged is none = record {
    answered = answered;
    logged = subst (λ (all : List Read). LogsErr e all log log_now) (sym is) (logs_ended e first rest log log_now logged none);
  }

-- ---- reads

-- no name has no reads
pub no_turns : (files : Files) → (turns files [] []).reads ≡ []
unfolding turns
no_turns files = refl

-- ---- a text that is written whole

module _ (o : Setup) (a : Asking) (leaf : Leaf) {Y : Type 0} (due : Result Y Refusal) (text : Y → List ℕ) where
  abbrev body_of_text : Y → Answer
  body_of_text y = Ok (leaf_body leaf (text y) whole)

  module _ (answer_is : leaf_answer o a leaf ≡ (due >>= body_of_text)) (sampled : ranged_reads o a None leaf ≡ []) where
    text_reads : leaf_reads o a leaf ≡ leaf_turns o a leaf
    text_reads = ap (λ (xs : List Read). leaf_turns o a leaf ++ xs) sampled ∙ append-nil (leaf_turns o a leaf)

    -- what it says was refused
    pub text_refused : {X : Type 0} (view : X → Y) (e : Refusal) (log log_now : Option (List Read)) → Came {X = X} view (Err e) due (leaf_turns o a leaf) log log_now → IsLeafAnswer o a leaf (Err e) log log_now
    text_refused view e log log_now came = record {
      answered = λ known_memory known_store. ap flat_seen (answer_is ∙ ap (λ (r : Result Y Refusal). r >>= body_of_text) (came.answered known_memory known_store));
      logged = subst (λ (reads : List Read). LogsErr e reads log log_now) (sym text_reads) came.logged;
    }

    -- it was written, or memory ran out
    pub text_written : {X : Type 0} (view : X → Y) (x : X) (result : Result FlatBody Refusal) (log log_now : Option (List Read)) → Came view (Ok x) due (leaf_turns o a leaf) log log_now
        → Answers flat_shown result (Ok (text (view x), None)) → IsLeafAnswer o a leaf result log log_now
    text_written view x result log log_now came written =
        let shown = ap flat_seen (answer_is ∙ ap (λ (r : Result Y Refusal). r >>= body_of_text) came.answered) in
        came-read flat_shown (flat_seen (leaf_answer o a leaf)) (leaf_reads o a leaf) log log_now result
        (subst (Answers flat_shown result) (sym shown) written) (came.logged ∙ ap (told_with log) (sym text_reads))

-- ---- a segment of rows

module _ (o : Setup) (a : Asking) (leaf : Leaf) (due : Result SegmentPlan Refusal) (number : ℕ) (asked : Asked) (form : Form) where
  abbrev body_of_rows : SegmentPlan → Answer
  body_of_rows plan = Ok (leaf_body leaf (segment_body o.files plan number form asked).0 (segment_body o.files plan number form asked).1)

  abbrev samples_due : SegmentPlan → Result (List Read) Refusal
  samples_due plan = Ok (body_reads o.files plan form)

  module _ (answer_is : leaf_answer o a leaf ≡ (due >>= body_of_rows)) (sampled : ranged_reads o a None leaf ≡ result_unwrap_or (due >>= samples_due) []) where
    -- the rows were refused
    pub rows_refused : (e : Refusal) (log log_now : Option (List Read)) → Came {X = FlatRows} flat_plan (Err e) due (leaf_turns o a leaf) log log_now → IsLeafAnswer o a leaf (Err e) log log_now
    rows_refused e log log_now came =
        ended flat_shown e (flat_seen (leaf_answer o a leaf)) (leaf_turns o a leaf) (ranged_reads o a None leaf) (leaf_reads o a leaf) log log_now
        (λ known_memory known_store. ap flat_seen (answer_is ∙ ap (λ (r : Result SegmentPlan Refusal). r >>= body_of_rows) (came.answered known_memory known_store)))
        came.logged refl
        (λ known_memory known_store. sampled ∙ ap (λ (r : Result SegmentPlan Refusal). result_unwrap_or (r >>= samples_due) []) (came.answered known_memory known_store))

    -- the body was written, or it was cut short
    pub rows_written : (rows : FlatRows) (result : Result FlatBody Refusal) (log log_rows log_now : Option (List Read)) → Came flat_plan (Ok rows) due (leaf_turns o a leaf) log log_rows
        → Came flat_shown result (Ok (bytes_with_cut (segment_body o.files (flat_plan rows) number form asked))) (body_reads o.files (flat_plan rows) form) log_rows log_now → IsLeafAnswer o a leaf result log log_now
    rows_written rows result log log_rows log_now planned came =
        let seen = ap flat_seen (answer_is ∙ ap (λ (r : Result SegmentPlan Refusal). r >>= body_of_rows) planned.answered) in
        let samples = sampled ∙ ap (λ (r : Result SegmentPlan Refusal). result_unwrap_or (r >>= samples_due) []) planned.answered in
        let all : leaf_reads o a leaf ≡ leaf_turns o a leaf ++ body_reads o.files (flat_plan rows) form = ap (λ (ys : List Read). leaf_turns o a leaf ++ ys) samples in
        record {
          answered = subst (AnswersUnlessFailed flat_shown result) (sym seen) came.answered;
          logged = subst (λ (reads : List Read). LogsReads result reads log log_now) (sym all)
              (logs_then result (leaf_turns o a leaf) (body_reads o.files (flat_plan rows) form) log log_rows log_now planned.logged came.logged);
        }

-- ---- the leaves with a text

then_text : {A : Type 0} (found : Result A Refusal) (text : A → List ℕ) (body : List ℕ → Answer) → (found >>= λ x. body (text x)) ≡ ((found >>= λ x. Ok (text x)) >>= body)
then_text (Ok x) text body = refl
then_text (Err e) text body = refl

module _ (o : Setup) (a : Asking) where
  pub master_is : leaf_answer o a Master ≡ (master_due o a >>= body_of_text o a Master (master_due o a) (λ text. text))
  unfolding leaf_answer
  master_is = then_text (shown_sequences o a) (master_text o a) (body_of_text o a Master (master_due o a) (λ text. text))

  pub master_sampled : sample_reads o a Master ≡ []
  unfolding sample_reads
  master_sampled = refl

  pub description_is : leaf_answer o a Mpd ≡ (description_due o a >>= body_of_text o a Mpd (description_due o a) (λ text. text))
  unfolding leaf_answer
  description_is = then_text (periods o a) (manifest (grid_in_use o a).step) (body_of_text o a Mpd (description_due o a) (λ text. text))

  pub description_sampled : sample_reads o a Mpd ≡ []
  unfolding sample_reads
  description_sampled = refl

  -- ---- media playlists and I-frame playlists

  module _ (sequence : ℕ) (asked : Asked) where
    abbrev pub index_text : List ListedSegment → List ℕ
    index_text rows = media_playlist (map (λ l. l.0) rows) sequence asked o.settings.hls_fmp4

    pub index_is : leaf_answer o a (Index sequence asked) ≡ (listed_segments o a sequence asked >>= body_of_text o a (Index sequence asked) (listed_segments o a sequence asked) index_text)
    unfolding leaf_answer
    index_is = refl

    pub index_sampled : sample_reads o a (Index sequence asked) ≡ []
    unfolding sample_reads
    index_sampled = refl

  module _ (sequence video : ℕ) where
    abbrev pub iframes_text : List IframeRow → List ℕ
    iframes_text rows = iframe_playlist rows sequence video

    pub iframes_are : leaf_answer o a (Iframes sequence video) ≡ (sequence_iframes o a sequence video >>= body_of_text o a (Iframes sequence video) (sequence_iframes o a sequence video) iframes_text)
    unfolding leaf_answer
    iframes_are = refl

    pub iframes_sampled : sample_reads o a (Iframes sequence video) ≡ []
    unfolding sample_reads
    iframes_sampled = refl

  -- ---- segments and I-frames

  module _ (number sequence : ℕ) (asked : Asked) (form : Form) where
    abbrev pub segment_due : Result SegmentPlan Refusal
    segment_due = lone_segment o a number sequence asked form

    pub segment_is : leaf_answer o a (Segment number sequence asked form) ≡ (segment_due >>= body_of_rows o a (Segment number sequence asked form) segment_due number asked form)
    unfolding leaf_answer
    segment_is = refl

    pub segment_sampled : sample_reads o a (Segment number sequence asked form) ≡ result_unwrap_or (segment_due >>= samples_due o a (Segment number sequence asked form) segment_due number asked form) []
    unfolding sample_reads
    segment_sampled = refl

  module _ (number index sequence video : ℕ) where
    abbrev pub iframe_due : Result SegmentPlan Refusal
    iframe_due = lone_iframe o a number index sequence video

    pub iframe_is : leaf_answer o a (Iframe number index sequence video) ≡ (iframe_due >>= body_of_rows o a (Iframe number index sequence video) iframe_due number (video_alone video) Ts)
    unfolding leaf_answer
    iframe_is = refl

    pub iframe_sampled : sample_reads o a (Iframe number index sequence video) ≡ result_unwrap_or (iframe_due >>= samples_due o a (Iframe number index sequence video) iframe_due number (video_alone video) Ts) []
    unfolding sample_reads
    iframe_sampled = refl

-- ---- an init segment

module _ (o : Setup) (a : Asking) (sequence : ℕ) where
  abbrev pub times : Result Timeline Refusal
  times = timeline_asked o a sequence

  module _ (part : ℕ) (asked : Asked) where
    abbrev init_leaf : Leaf
    init_leaf = Init part sequence asked

    abbrev body_of_init : CheckedPiece → Answer
    body_of_init c = Ok (leaf_body init_leaf (init_body c) whole)

    abbrev answer_in : Timeline → Answer
    answer_in t = init_piece t part >>= λ piece. checked o.files (honours_edits o) asked piece >>= body_of_init

    init_due : leaf_answer o a init_leaf ≡ (times >>= answer_in)
    unfolding leaf_answer init_answer
    init_due = refl

    abbrev init_pieces : Timeline → Result (List Piece) Refusal
    init_pieces t = init_piece t part >>= λ piece. Ok (piece ∷ [])

    init_turned : (turns o.files [] (turn_names o a init_leaf)).reads ≡ (turns o.files [] (map (λ p. p.name) (pieces_or_none (times >>= init_pieces)))).reads
    unfolding turn_pieces
    init_turned = refl

    init_sampled : sample_reads o a init_leaf ≡ []
    unfolding sample_reads
    init_sampled = refl

    init_reads : leaf_reads o a init_leaf ≡ (turns o.files [] (map (λ p. p.name) (pieces_or_none (times >>= init_pieces)))).reads
    init_reads = ap₂ (λ (xs ys : List Read). xs ++ ys) init_turned init_sampled ∙ append-nil (turns o.files [] (map (λ p. p.name) (pieces_or_none (times >>= init_pieces)))).reads

    -- there is no timeline
    pub init_untimed : (e : Refusal) (log : Option (List Read)) → (e ≢ NoMemory → times ≡ Err e) → IsLeafAnswer o a init_leaf (Err e) log log
    init_untimed e log h = record {
      answered = λ known_memory known_store. ap flat_seen (init_due ∙ ap (λ (r : Result Timeline Refusal). r >>= answer_in) (h known_memory));
      logged = logs_unmade e (leaf_reads o a init_leaf) log log refl
          (λ known_memory known_store. init_reads ∙ ap (λ (r : Result Timeline Refusal). (turns o.files [] (map (λ p. p.name) (pieces_or_none (r >>= init_pieces)))).reads) (h known_memory) ∙ no_turns o.files);
    }

    module _ (t : Timeline) (timed : times ≡ Ok t) where
      seen_init : flat_seen (leaf_answer o a init_leaf) ≡ result_map_both (λ bytes. (bytes, None)) (λ r. r) (part_init o.files (honours_edits o) asked t part)
      seen_init = ap flat_seen (init_due ∙ ap (λ (r : Result Timeline Refusal). r >>= answer_in) timed) ∙ by_piece (init_piece t part)
        where
          by_checked : (r : Result CheckedPiece Refusal) → flat_seen (r >>= body_of_init) ≡ result_map_both (λ bytes. (bytes, None)) (λ r. r) (r >>= λ c. Ok (init_body c))
          by_checked (Ok c) = refl
          by_checked (Err e) = refl

          by_piece : (r : Result Piece Refusal) → flat_seen (r >>= λ piece. checked o.files (honours_edits o) asked piece >>= body_of_init)
              ≡ result_map_both (λ bytes. (bytes, None)) (λ r. r) (r >>= λ piece. checked o.files (honours_edits o) asked piece >>= λ c. Ok (init_body c))
          by_piece (Ok piece) = by_checked (checked o.files (honours_edits o) asked piece)
          by_piece (Err e) = refl

      timed_reads : leaf_reads o a init_leaf ≡ (turns o.files [] (init_names t part)).reads
      timed_reads = init_reads ∙ ap (λ (r : Result Timeline Refusal). (turns o.files [] (map (λ p. p.name) (pieces_or_none (r >>= init_pieces)))).reads) timed

      pub init_ok : {X : Type 0} (view : X → List ℕ) (x : X) (body : FlatBody) (edits : Bool) (log log_now : Option (List Read)) → flat_shown body ≡ (view x, None) → edits ≡ honours_edits o
          → Came view (Ok x) (part_init o.files edits asked t part) (turns o.files [] (init_names t part)).reads log log_now → IsLeafAnswer o a init_leaf (Ok body) log log_now
      init_ok view x body edits log log_now is same came = record {
        answered = seen_init ∙ ap (result_map_both (λ bytes. (bytes, None)) (λ r. r)) (ap (λ (e : Bool). part_init o.files e asked t part) (sym same) ∙ came.answered) ∙ ap Ok (sym is);
        logged = came.logged ∙ ap (told_with log) (sym timed_reads);
      }

      pub init_err : {X : Type 0} (view : X → List ℕ) (e : Refusal) (edits : Bool) (log log_now : Option (List Read)) → edits ≡ honours_edits o
          → Came {X = X} view (Err e) (part_init o.files edits asked t part) (turns o.files [] (init_names t part)).reads log log_now → IsLeafAnswer o a init_leaf (Err e) log log_now
      init_err view e edits log log_now same came = record {
        answered = λ known_memory known_store. seen_init ∙ ap (result_map_both (λ bytes. (bytes, None)) (λ r. r)) (ap (λ (e : Bool). part_init o.files e asked t part) (sym same) ∙ came.answered known_memory known_store);
        logged = subst (λ (reads : List Read). LogsErr e reads log log_now) (sym timed_reads) came.logged;
      }

-- the rows of listed segments are those that a list has
pub listed-rows : (ls : List Listed) → map (λ l. l.row) ls ≡ map (λ l. l.0) (map listed_view ls)
listed-rows [] = refl
listed-rows (l ∷ ls) = ap (λ (rows : List SegmentRow). l.row ∷ rows) (listed-rows ls)

-- a playlist of them, with no cut
pub playlist_shown : (ls : List Listed) (text : List ℕ) (sequence : ℕ) (asked : Asked) (fmp4 is_fmp4 : Bool) → text ≡ media_playlist (map (λ l. l.row) ls) sequence asked fmp4 → fmp4 ≡ is_fmp4
    → ◌≡◌ {A = Result (List ℕ × Option (ℕ × ℕ)) Refusal} (Ok (media_playlist (map (λ l. l.0) (map listed_view ls)) sequence asked is_fmp4, None)) (Ok (text, None))
playlist_shown ls text sequence asked fmp4 is_fmp4 written same =
    sym (ap (λ (t : List ℕ). Ok (t, None)) (written ∙ ap₂ (λ (rows : List SegmentRow) (f : Bool). media_playlist rows sequence asked f) (listed-rows ls) same))

-- and an I-frame playlist
pub iframes_shown : (rows : List IframeRow) (text : List ℕ) (sequence video : ℕ) → text ≡ iframe_playlist rows sequence video
    → ◌≡◌ {A = Result (List ℕ × Option (ℕ × ℕ)) Refusal} (Ok (iframe_playlist rows sequence video, None)) (Ok (text, None))
iframes_shown rows text sequence video written = sym (ap (λ (t : List ℕ). Ok (t, None)) written)
