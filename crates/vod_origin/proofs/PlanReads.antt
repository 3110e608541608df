-- What is read for a segment or a single I-frame: its turns, and its samples by its plan.
use Rattle.std.proofs.Common.{◌≡◌, ℕ, Bool, true, false, List, [], ◌∷◌, ◌++◌, map, flat_map, Option, Some, Result, Ok, Err, refl, sym, ap, ap₂, ◌∙◌, subst, ◌≢◌}
use Rattle.std.specs.Prelude.{not, IfSome}
use Rattle.std.specs.Result.{result_unwrap_or}
use Rattle.std.proofs.lemmas.List.Concat.{flat_map-append}
use Rattle.vod_types.specs.declared.media.Media.{Media}
use Rattle.vod_types.specs.declared.paths.Ask.{Ask}
use Rattle.vod_types.specs.declared.paths.ByteRange.{ByteRange}
use Rattle.vod_types.specs.declared.paths.Leaf.{Leaf}
use Rattle.vod_types.specs.declared.refusal.Refusal.{Refusal}
use Rattle.vod_types.specs.declared.refusal.Refusal.TheVariants.{NoMemory, StoreFailed}
use Rattle.vod_types.specs.declared.segments.Form.{Form}
use Rattle.vod_types.specs.declared.segments.Form.TheVariants.{Ts, Fmp4}
use Rattle.vod_types.specs.declared.segments.Row.{Row}
use Rattle.vod_types.specs.declared.tracks.Asked.{Asked}
use Rattle.vod_types.specs.declared.tracks.Kind.{Kind}
use Rattle.vod_types.specs.declared.tracks.Kind.TheVariants.{Video, Audio}
use Rattle.vod_types.specs.SegmentRows.{SegmentRows}
use Rattle.vod_types.specs.Results.{◌>>=◌}
use Rattle.clip_model.specs.Timeline.{Timeline}
use Rattle.list_model.specs.Path.{is_local}
use Rattle.media_model.specs.WritingOrder.{of_track}
use Rattle.vod_source.specs.Calls.{Came}
use Rattle.vod_source.specs.Stored.{Files, Read}
use Rattle.vod_source.specs.Told.{told_with}
use Rattle.vod_source.proofs.CallLemmas.{LogsErr, told_with_both}
use Rattle.vod_http.specs.declared.answerer.Reply.{Reply}
use Rattle.vod_http.specs.declared.answerer.Reply.TheVariants.{Body, Refused}
use Rattle.origin_model.specs.Answers.{lone_iframe, lone_segment}
use Rattle.origin_model.specs.Bodies.{rows_read}
use Rattle.origin_model.specs.Plans.{Cutting, pieces_or_none, segment_looks}
use Rattle.origin_model.specs.Reads.{Cache, mapping_reads_by, ranged_reads, sample_reads, turn_names, turn_pieces, turns}
use Rattle.origin_model.specs.Requests.{Setup, Asking, cutting, timeline_asked}
use Rattle.origin_model.specs.Samples.{SegmentPlan}
use Rattle.flat_segments.specs.Bodies.{body_reads, sample_ranges}
use Rattle.fmp4_writer.specs.Samples as fragment_rows
use Rattle.fmp4_writer.specs.declared.writing.Progress.TheVariants.{Front}
use Rattle.ts_writer.specs.Progress.{segment_begun}
use Rattle.vod_plan.specs.Looks.{names_of}
use Rattle.vod_plan.specs.Planned.{Planned, plan_rows, plan_view}
use Rattle.vod_plan.specs.Turned.{AreTurns, LeavesCache}
use Rattle.vod_origin.specs.Begun.{IsPlanReply}
use Rattle.vod_origin.specs.declared.cursor.Cursor.{Cursor}
use Rattle.vod_origin.specs.declared.cursor.Cursor.TheVariants.{Fragment, Stream}
use Rattle.vod_origin.specs.declared.wanted.Wanted.{Wanted}
use Rattle.vod_origin.specs.declared.wanted.Wanted.TheVariants as wants
use Rattle.vod_origin.specs.Reads.{ReadsForAsk, reads_left, reads_samples, reads_to_come}
use Rattle.vod_origin.specs.Wanted.{asked_of, cut_due, form_of, leaf_of, number_of, plan_due, plan_names, plan_of}
use Rattle.vod_origin.proofs.SoughtReads.{LooksSo, names_by, reads_begun, reads_refused, reads_unfound, reads_unmade, samples_by, samples_read}
use Rattle.vod_origin.proofs.WantedLemmas.{cut_in, cut_with}

-- ---- what is looked at

module _ (files : Files) (w : Wanted) where
  -- the reads of the samples of a plan
  abbrev pub plan_reads : SegmentPlan → List Read
  plan_reads plan = body_reads files plan (form_of w)

  abbrev reads_due : SegmentPlan → Result (List Read) Refusal
  reads_due plan = Ok (plan_reads plan)

  abbrev pub due_reads : Result SegmentPlan Refusal → List Read
  due_reads r = result_unwrap_or (r >>= reads_due) []

  abbrev pub names_in : Timeline × Cutting → List (List ℕ)
  names_in s = plan_names w s.1 s.0

  abbrev pub samples_in : Timeline × Cutting → List Read
  samples_in s = due_reads (plan_of w s)

module _ (o : Setup) (w : Wanted) (sequence : ℕ) where
  turned : (a : Asking) → turn_names o a (leaf_of sequence w) ≡ names_by (names_in o.files w) (timeline_asked o a sequence >>= cut_with o a)
  unfolding turn_pieces
  turned a = by_wanted w
    where
      by_timeline : (r : Result Timeline Refusal) (number : ℕ) (asked : Asked)
          → map (λ piece. piece.name) (pieces_or_none (r >>= λ t. Ok (segment_looks (cutting o a) asked t number)))
          ≡ names_by (λ (s : Timeline × Cutting). names_of (segment_looks s.1 asked s.0 number)) (r >>= cut_with o a)
      by_timeline (Ok t) number asked = refl
      by_timeline (Err e) number asked = refl

      by_wanted : (w : Wanted) → turn_names o a (leaf_of sequence w) ≡ names_by (names_in o.files w) (timeline_asked o a sequence >>= cut_with o a)
      by_wanted (wants.Segment number asked form) = by_timeline (timeline_asked o a sequence) number asked
      by_wanted (wants.Iframe number index video) = by_timeline (timeline_asked o a sequence) number (asked_of (wants.Iframe number index video))

  sampled : (r : Option ByteRange) (a : Asking) → ranged_reads o a r (leaf_of sequence w) ≡ samples_by (samples_in o.files w) (timeline_asked o a sequence >>= cut_with o a)
  unfolding sample_reads lone_segment lone_iframe
  sampled r a = by_wanted w
    where
      by_timeline : (found : Result Timeline Refusal) (w : Wanted) → due_reads o.files w (found >>= plan_due w (cutting o a)) ≡ samples_by (samples_in o.files w) (found >>= cut_with o a)
      by_timeline (Ok t) w = refl
      by_timeline (Err e) w = refl

      by_wanted : (w : Wanted) → ranged_reads o a r (leaf_of sequence w) ≡ samples_by (samples_in o.files w) (timeline_asked o a sequence >>= cut_with o a)
      by_wanted (wants.Segment number asked form) = by_timeline (timeline_asked o a sequence) (wants.Segment number asked form)
      by_wanted (wants.Iframe number index video) = by_timeline (timeline_asked o a sequence) (wants.Iframe number index video)

  heads_wanted : (w : Wanted) (head_only : Bool) → reads_samples head_only (leaf_of sequence w) ≡ not head_only
  heads_wanted (wants.Segment number asked form) head_only = refl
  heads_wanted (wants.Iframe number index video) head_only = refl

  pub wanted_looks : LooksSo (names_in o.files w) (samples_in o.files w) o (cut_in o sequence) (leaf_of sequence w)
  wanted_looks = record { heads = heads_wanted w; turns = turned; samples = sampled }

-- ---- samples

module _ (files : Files) (w : Wanted) (plan : Planned) where
  fragment_left : (number : ℕ) → reads_left files (Fragment (record { plan = plan; writing = Front number })) ≡ body_reads files (plan_view plan) Fmp4
  unfolding rows_read
  fragment_left number =
      let rows = plan_rows plan in
      flat_map-append (fragment_rows.row_reads rows) rows.video rows.audio
      ∙ ap₂ (λ (xs ys : List Read). xs ++ ys) (sym (of_kind rows Video rows.video)) (sym (of_kind rows Audio rows.audio))
      ∙ sym (flat_map-append (sample_ranges rows) (map (of_track Video) rows.video) (map (of_track Audio) rows.audio))
    where
      of_kind : (rows : SegmentRows) (kind : Kind) (xs : List Row) → flat_map (sample_ranges rows) (map (of_track kind) xs) ≡ flat_map (fragment_rows.row_reads rows) xs
      of_kind rows kind [] = refl
      of_kind rows kind (x ∷ xs) = ap (λ (ys : List Read). fragment_rows.row_reads rows x ++ ys) (of_kind rows kind xs)

  stream_left : (asked : Asked) → reads_left files (Stream (record { plan = plan; writing = segment_begun plan.largest asked plan.hevc })) ≡ body_reads files (plan_view plan) Ts
  unfolding rows_read
  stream_left asked = refl

-- ---- replies

module _ (o : Setup) (range : Option ByteRange) (ask : Ask) (sequence : ℕ) (w : Wanted) (leaf_is : ask.leaf ≡ leaf_of sequence w) where
  looked : LooksSo (names_in o.files w) (samples_in o.files w) o (cut_in o sequence) ask.leaf
  looked = subst (λ (leaf : Leaf). LooksSo (names_in o.files w) (samples_in o.files w) o (cut_in o sequence) leaf) (sym leaf_is) (wanted_looks o w sequence)

  pub plan_untimed : (head_only : Bool) (cache : Cache) (log log_now : Option (List Read)) (e : Refusal) → (e ≢ NoMemory → e ≢ StoreFailed → cut_due o ask sequence ≡ Err e)
      → LogsErr e (mapping_reads_by o (is_local ask.place) ask.target) log log_now → ReadsForAsk o head_only range ask (Refused e) cache cache log log_now
  plan_untimed = reads_unfound (names_in o.files w) (samples_in o.files w) o range ask (cut_in o sequence) looked

  module _ (s : Timeline × Cutting) (timed : cut_due o ask sequence ≡ Ok s) (head_only : Bool) (cache cache_now : Cache) (log log_cut log_now : Option (List Read))
      (cut : log_cut ≡ told_with log (mapping_reads_by o (is_local ask.place) ask.target)) where
    pub plan_refused : {X : Type 0} (e : Refusal) → (e ≢ NoMemory → e ≢ StoreFailed → plan_of w s ≡ Err e)
        → AreTurns {X = X} o.files (names_in o.files w s) (Err e) cache cache_now log_cut log_now → ReadsForAsk o head_only range ask (Refused e) cache cache_now log log_now
    plan_refused {X} e due =
        reads_refused (names_in o.files w) (samples_in o.files w) o range ask (cut_in o sequence) looked s timed head_only cache cache_now log log_cut log_now cut {X = X} e
        (λ known_memory known_store. ap (due_reads o.files w) (due known_memory known_store))

    module _ {X : Type 0} (x : X) (plan : Planned) (due : plan_of w s ≡ Ok (plan_view plan)) (turned : AreTurns o.files (names_in o.files w s) (Ok x) cache cache_now log_cut log_now) where
      abbrev For : Reply Cursor → Type 0
      For reply = ReadsForAsk o head_only range ask reply cache cache_now log log_now

      begun : (kind : Media) (n : Option ℕ) (part : Option (ℕ × ℕ × ℕ)) (cursor : Cursor) → reads_to_come o.files head_only cursor ≡ samples_read head_only (plan_reads o.files w (plan_view plan))
          → For (Body kind n part cursor)
      begun kind n part cursor left =
          reads_begun (names_in o.files w) (samples_in o.files w) o range ask (cut_in o sequence) looked s timed head_only cache cache_now log log_cut log_now cut x turned kind n part cursor
          (left ∙ ap (λ (r : Result SegmentPlan Refusal). samples_read head_only (due_reads o.files w r)) (sym due))

      memory : (e : Refusal) → e ≡ NoMemory → For (Refused e)
      memory = reads_unmade (names_in o.files w) (samples_in o.files w) o range ask (cut_in o sequence) looked s timed head_only cache cache_now log log_cut log_now cut x turned

      to_come : (cursor : Cursor) (form : Form) → form_of w ≡ form → (head_only ≡ false → reads_left o.files cursor ≡ body_reads o.files (plan_view plan) form)
          → reads_to_come o.files head_only cursor ≡ samples_read head_only (plan_reads o.files w (plan_view plan))
      to_come cursor form is left = by_head head_only left
        where
          by_head : (b : Bool) → (b ≡ false → reads_left o.files cursor ≡ body_reads o.files (plan_view plan) form)
              → reads_to_come o.files b cursor ≡ samples_read b (plan_reads o.files w (plan_view plan))
          by_head true left = refl
          by_head false left = left refl ∙ ap (λ (f : Form). body_reads o.files (plan_view plan) f) (sym is)

      by_form : (form : Form) → form_of w ≡ form → (reply : Reply Cursor) → IsPlanReply head_only (number_of w) (asked_of w) form plan reply → For reply
      by_form Ts is (Refused why) reply = memory why reply
      by_form Ts is (Body kind n part cursor) reply =
          begun kind n part cursor (to_come cursor Ts is (λ whole. ap (reads_left o.files) (reply.3 whole).cursor_is ∙ stream_left o.files w plan (asked_of w)))
      by_form Fmp4 is (Refused why) reply = absurd reply
      by_form Fmp4 is (Body kind n part cursor) reply =
          begun kind n part cursor (to_come cursor Fmp4 is (λ whole. ap (reads_left o.files) reply.3 ∙ fragment_left o.files w plan (number_of w)))

      pub plan_begun : (reply : Reply Cursor) → IsPlanReply head_only (number_of w) (asked_of w) (form_of w) plan reply → For reply
      plan_begun = by_form (form_of w) refl

-- ---- turns

-- those of an I-frame, whose video track is told
pub turns_told : {X : Type 0} {Y : Type 0} (view : X → Y) (content : Option Files) (asked : Asked) (video : ℕ) (result : Result X Refusal) (names : Files → List (List ℕ)) (due : Files → ℕ → Result Y Refusal)
    (held held_now : Cache) (log log_now : Option (List Read)) → asked.video ≡ Some video
    → IfSome content (λ files. IfSome asked.video (λ video. Came view result (due files video) (turns files held (names files)).reads log log_now))
    → IfSome content (λ files. LeavesCache files (names files) result held held_now) → IfSome content (λ files. AreTurns files (names files) result held held_now log log_now)
turns_told {X} {Y} view content asked video result names due held held_now log log_now is told left =
    told_with_both content _ _ _ told left
    (λ files came leaves.
    let came_so : IfSome (Some video) (λ video. Came view result (due files video) (turns files held (names files)).reads log log_now) =
    subst (λ (v : Option ℕ). IfSome v (λ video. Came view result (due files video) (turns files held (names files)).reads log log_now)) is came in
    record { logged = came_so.logged; cache = leaves })
