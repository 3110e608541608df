-- The plan of a segment by what is kept of its files.
use Rattle.std.proofs.Common.{◌≡◌, ℕ, ◌+◌, ◌<◌, ◌≤◌, max, Bool, true, false, not, List, [], ◌∷◌, ◌++◌, length, map, take, drop, fold, All, Option, Some, None, Result, Ok, Err, refl, sym, ap, ap₂, subst, ◌∙◌, arith}
use Rattle.std.specs.Prelude.{slice_get, find, filter_map, option_map, option_and_then, cond, nat_le, if◌then◌else◌}
use Rattle.std.specs.List.{prefix_len, AllByRecursion}
use Rattle.std.specs.Option.{option_map_or}
use Rattle.std.specs.Rc.{rc_value}
use Rattle.std.proofs.lemmas.Bool.{lt-ltb, le-ltb, le-leb}
use Rattle.std.proofs.lemmas.List.{length-map, take-append-drop}
use Rattle.std.proofs.lemmas.Option.{slice_get-map}
use Rattle.std.proofs.lemmas.List.Sums.{sum_by-append, sum_by-cons, sum_by-take-drop}
use mathlib.Core.Path.{fun_ext}
use Rattle.vod_types.specs.declared.tracks.Asked.{Asked}
use Rattle.vod_types.specs.declared.tracks.Kind.{Kind}
use Rattle.vod_types.specs.declared.tracks.Kind.TheVariants.{Video, Audio}
use Rattle.vod_types.specs.declared.segments.Form.{Form}
use Rattle.vod_types.specs.declared.segments.Form.TheVariants.{Ts, Fmp4}
use Rattle.vod_types.specs.declared.segments.Row.{Row}
use Rattle.vod_types.specs.declared.refusal.Refusal.{Refusal}
use Rattle.vod_types.specs.declared.refusal.Refusal.TheVariants.{MixedCodecs, SegmentTooLarge}
use Rattle.vod_types.specs.Results.{◌>>◌, unless}
use Rattle.vod_types.specs.SegmentRows.{SegmentRows}
use Rattle.vod_types.specs.Tracks.{lead_of}
use Rattle.mp4_model.specs.Entries.{entry_type}
use Rattle.mp4_model.specs.GoodTracks.{GoodTrack}
use Rattle.segment_model.specs.Rows.{TimedRow, written_row}
use Rattle.segment_model.specs.Timeline.{TrackRows, rows_of, written_rows}
use Rattle.media_model.specs.Fragment.{sizes}
use Rattle.media_model.specs.WritingOrder.{TrackRow, of_track, is_before, writing_order}
use Rattle.origin_model.specs.Loaded.{CheckedPiece}
use Rattle.origin_model.specs.Samples.{SegmentPlan, name_at, size_at, config_at, checked_track, sample_fault, segment_rows, segment_plan, mixed_codecs, front_fault, in_order, sizes_of, checked_rows}
use Rattle.origin_model.specs.Samples as model
use Rattle.origin_model.proofs.TestedLists.{all_of}
use Rattle.media_model.proofs.Stream.{AllByRecursion-append}
use Rattle.vod_plan.specs.declared.spans.PlanPiece.{PlanPiece}
use Rattle.vod_plan.specs.Passes.{ordered_rows}
use Rattle.vod_plan.specs.Planned.{Planned, plan_rows, plan_view}
use Rattle.vod_plan.specs.Ranges.{PlannedPiece, RowRange, planned_config, planned_name, planned_of, range_of}
use Rattle.vod_plan.specs.RowFaults.{FileFacts, file_of, facts_of, config_of, name_in, size_in, config_in, row_fault, first_fault, ordered, has_hevc, mixed_in, mixed_with, front_in, lead_first, bytes_fault, begins_in, rows_in, plan_in, planned_in, largest_in, largest_of, EndsLow}
use Rattle.vod_plan.specs.Selected.{rows_planned, ArePiecesOf, IsPieceOf, IsTrackOf}
use Rattle.vod_plan.specs.Spans.{piece_view, rows_before, IsPlanPiece}
use Rattle.vod_plan.specs.Walks.{FitsFile}
use Rattle.vod_plan.specs.Looks.{samples_through}
use Rattle.vod_plan.proofs.RangeLemmas.{planned-count}

-- ---- what is kept of the files of pieces

piece_facts : (c : CheckedPiece) (p : PlanPiece) → IsPieceOf c p → file_of c ≡ facts_of p
piece_facts c p is =
    let with : List ℕ → ℕ → List ℕ → List ℕ → List ℕ → FileFacts = λ name size video_type video audio. record { name = name; size = size; video_type = video_type; video = video; audio = audio } in
    let value : (f : GoodTrack → List ℕ) (o : Option GoodTrack) (r : Option RowRange) → IsTrackOf o r → option_map_or f o [] ≡ option_map_or (λ (x : RowRange). f x.track) r [] = of_track_is in
    ap (λ (n : List ℕ). with n c.file_size (model.video_type c) (option_map_or (λ t. t.config) c.video []) (option_map_or (λ t. t.config) c.audio [])) (sym is.name)
    ∙ ap (λ (n : ℕ). with (rc_value p.meta).name n (model.video_type c) (option_map_or (λ t. t.config) c.video []) (option_map_or (λ t. t.config) c.audio [])) (sym is.size)
    ∙ ap (λ (n : List ℕ). with (rc_value p.meta).name (rc_value p.meta).movie.place.file_size n (option_map_or (λ t. t.config) c.video []) (option_map_or (λ t. t.config) c.audio [])) (value (λ t. entry_type t.entry) c.video (piece_view p).video is.video)
    ∙ ap₂ (λ (a b : List ℕ). with (rc_value p.meta).name (rc_value p.meta).movie.place.file_size (facts_of p).video_type a b) (value (λ t. t.config) c.video (piece_view p).video is.video) (value (λ t. t.config) c.audio (piece_view p).audio is.audio)
  where
    of_track_is : (f : GoodTrack → List ℕ) (o : Option GoodTrack) (r : Option RowRange) → IsTrackOf o r → option_map_or f o [] ≡ option_map_or (λ (x : RowRange). f x.track) r []
    of_track_is f None None is = refl
    of_track_is f None (Some r) is = absurd is
    of_track_is f (Some t) None is = absurd is
    of_track_is f (Some t) (Some r) is = ap f (sym is)

pub files_are : (cs : List CheckedPiece) (pieces : List PlanPiece) → ArePiecesOf cs pieces → map file_of cs ≡ map facts_of pieces
files_are [] [] are = refl
files_are [] (p ∷ ps) are = absurd are
files_are (c ∷ cs) [] are = absurd are
files_are (c ∷ cs) (p ∷ ps) are = ap₂ (λ (f : FileFacts) (fs : List FileFacts). f ∷ fs) (piece_facts c p are.0) (files_are cs ps are.1)

module _ (pieces : List CheckedPiece) where
  name_at-is : (file : ℕ) → name_at pieces file ≡ name_in (map file_of pieces) file
  name_at-is file = rw (slice_get-map file_of pieces file) (by (slice_get pieces file))
    where
      by : (o : Option CheckedPiece) → option_map_or (λ c. c.piece.name) o [] ≡ option_map_or (λ f. f.name) (option_map file_of o) []
      by None = refl
      by (Some c) = refl

  size_at-is : (file : ℕ) → size_at pieces file ≡ size_in (map file_of pieces) file
  size_at-is file = rw (slice_get-map file_of pieces file) (by (slice_get pieces file))
    where
      by : (o : Option CheckedPiece) → option_map_or (λ c. c.file_size) o 0 ≡ option_map_or (λ f. f.size) (option_map file_of o) 0
      by None = refl
      by (Some c) = refl

  config_at-is : (file : ℕ) (kind : Kind) → config_at pieces file kind ≡ config_in (map file_of pieces) file kind
  config_at-is file kind = rw (slice_get-map file_of pieces file) (by kind (slice_get pieces file))
    where
      by : (kind : Kind) (o : Option CheckedPiece) → option_map_or (λ t. t.config) (option_and_then (checked_track kind) o) [] ≡ option_map_or (config_of kind) (option_map file_of o) []
      by kind None = refl
      by Video (Some c) = refl
      by Audio (Some c) = refl

  -- the rows of both kinds, by what is kept
  rows_in-is : (video audio : List Row) → ◌≡◌ {A = SegmentRows} (record { video = video; audio = audio; name = name_at pieces; config = config_at pieces }) (rows_in (map file_of pieces) video audio)
  rows_in-is video audio =
      ap (λ (name : ℕ → List ℕ). record { video = video; audio = audio; name = name; config = config_at pieces }) (fun_ext name_at-is)
      ∙ ap (λ (config : ℕ → Kind → List ℕ). record { video = video; audio = audio; name = name_in (map file_of pieces); config = config }) (fun_ext (λ file. fun_ext (config_at-is file)))

  begins-is : model.begins_with_hevc pieces ≡ begins_in (map file_of pieces)
  begins-is = by pieces
    where
      by : (cs : List CheckedPiece) → model.begins_with_hevc cs ≡ begins_in (map file_of cs)
      by [] = refl
      by (c ∷ cs) = refl

  plan-is : (form : Form) (asked : Asked) (rows : TrackRows) → segment_plan form asked pieces rows ≡ plan_in (map file_of pieces) (written_rows form asked Video rows) (written_rows form asked Audio rows)
  unfolding segment_plan segment_rows
  plan-is form asked rows = ap₂ (λ (hevc : Bool) (rows : SegmentRows). record { hevc = hevc; rows = rows }) begins-is (rows_in-is (written_rows form asked Video rows) (written_rows form asked Audio rows))

  -- a row's first fault
  sample_fault-is : (form : Form) (r : TrackRow) → sample_fault form pieces r ≡ row_fault form (map file_of pieces) r
  unfolding sample_fault row_fault
  sample_fault-is form r = rw (sym (name_at-is r.row.file), sym (size_at-is r.row.file)) refl

  faults-is : (form : Form) (rows : List TrackRow) → filter_map (sample_fault form pieces) rows ≡ filter_map (row_fault form (map file_of pieces)) rows
  faults-is form [] = refl
  faults-is form (r ∷ rows) = rw (sample_fault-is form r, faults-is form rows) refl

  first-is : (form : Form) (rows : List TrackRow) → slice_get (filter_map (sample_fault form pieces) rows) 0 ≡ first_fault form (map file_of pieces) rows
  unfolding first_fault
  first-is form rows = ap (λ (faults : List Refusal). slice_get faults 0) (faults-is form rows)

-- ---- what is refused before the rows

abbrev piece_mix : CheckedPiece → Option CheckedPiece → Option Refusal
piece_mix first o = option_map (λ c. MixedCodecs c.piece.name (model.video_type first) (model.video_type c)) o

abbrev file_mix : FileFacts → Option FileFacts → Option Refusal
file_mix first o = option_map (λ f. MixedCodecs f.name first.video_type f.video_type) o

mixed_with-is : (first : CheckedPiece) (cs : List CheckedPiece) → model.mixed_with first cs ≡ mixed_with (file_of first) (map file_of cs)
mixed_with-is first [] = refl
mixed_with-is first (c ∷ cs) = by (if model.has_hevc first then not (model.has_hevc c) else model.has_hevc c) (mixed_with-is first cs)
  where
    by : (b : Bool) → model.mixed_with first cs ≡ mixed_with (file_of first) (map file_of cs)
        → piece_mix first (cond b (Some c) (find (λ c. if model.has_hevc first then not (model.has_hevc c) else model.has_hevc c) cs))
        ≡ file_mix (file_of first) (cond b (Some (file_of c)) (find (λ f. if has_hevc (file_of first) then not (has_hevc f) else has_hevc f) (map file_of cs)))
    by true rest = refl
    by false rest = rest

mixed-is : (form : Form) (cs : List CheckedPiece) → mixed_codecs form cs ≡ mixed_in form (map file_of cs)
unfolding mixed_codecs
mixed-is Ts [] = refl
mixed-is Ts (c ∷ cs) = mixed_with-is c cs
mixed-is Fmp4 cs = refl

pub front-is : (number : ℕ) (form : Form) (cs : List CheckedPiece) (rows : TrackRows) → front_fault number form cs rows ≡ front_in number form (map file_of cs) (length rows.lead) (length rows.other)
unfolding front_fault front_in
front-is number form cs rows = rw (mixed-is form cs) refl

-- ---- the bytes of all samples

abbrev size_of_row : TrackRow → ℕ
size_of_row r = r.row.sample.size

sizes_of_track : (kind : Kind) (rows : List Row) → sizes_of (map (of_track kind) rows) ≡ sizes rows
sizes_of_track kind [] = refl
sizes_of_track kind (row ∷ rows) =
    sum_by-cons (λ (r : TrackRow). r.row.sample.size) (of_track kind row) (map (of_track kind) rows)
    ∙ ap (λ n. row.sample.size + n) (sizes_of_track kind rows) ∙ sym (sum_by-cons (λ (r : Row). r.sample.size) row rows)

swapped : (first v video rest audio : ℕ) → first + rest ≡ audio → first + (v + (video + rest)) ≡ (v + video) + audio
swapped first v video rest audio e = omega (arith, e)

merged_sizes : (video audio : List Row) → sizes_of (writing_order video audio) ≡ sizes video + sizes audio
merged_sizes [] audio = sizes_of_track Audio audio ∙ (let none : sizes audio ≡ 0 + sizes audio = omega arith in none)
merged_sizes (v ∷ video) audio =
    let n = prefix_len (is_before v) audio in
    let rest = drop n audio in
    sum_by-append size_of_row (map (of_track Audio) (take n audio)) (of_track Video v ∷ writing_order video rest)
    ∙ ap₂ (λ (a b : ℕ). a + b) (sizes_of_track Audio (take n audio)) (sum_by-cons size_of_row (of_track Video v) (writing_order video rest) ∙ ap (λ (m : ℕ). v.sample.size + m) (merged_sizes video rest))
    ∙ swapped (sizes (take n audio)) v.sample.size (sizes video) (sizes rest) (sizes audio) (sum_by-take-drop (λ (r : Row). r.sample.size) audio n)
    ∙ ap (λ (m : ℕ). m + sizes audio) (sym (sum_by-cons (λ (r : Row). r.sample.size) v video))

pub all_sizes : (form : Form) (video audio : List Row) → sizes_of (ordered form video audio) ≡ sizes video + sizes audio
all_sizes Ts video audio = merged_sizes video audio
all_sizes Fmp4 video audio =
    sum_by-append size_of_row (map (of_track Video) video) (map (of_track Audio) audio)
    ∙ ap₂ (λ (a b : ℕ). a + b) (sizes_of_track Video video) (sizes_of_track Audio audio)

order-is : (form : Form) (rows : SegmentRows) → in_order form rows ≡ ordered form rows.video rows.audio
order-is Ts rows = refl
order-is Fmp4 rows = refl

-- ---- the plan

abbrev in_steps : Option Refusal → Option Refusal → ℕ → SegmentPlan → Result SegmentPlan Refusal
in_steps front fault bytes plan = unless front >> (unless fault >> (unless (bytes_fault bytes) >> Ok plan))

-- what is due for the rows, by what is kept of the files
due-is : (number : ℕ) (form : Form) (asked : Asked) (pieces : List CheckedPiece) (facts : List FileFacts) (rows : TrackRows) → map file_of pieces ≡ facts
    → checked_rows number form asked pieces rows ≡ planned_in number form facts rows (written_rows form asked Video rows) (written_rows form asked Audio rows)
unfolding checked_rows
due-is number form asked pieces facts rows kept =
    let plan = segment_plan form asked pieces rows in
    let video = written_rows form asked Video rows in
    let audio = written_rows form asked Audio rows in
    let made = plan_in (map file_of pieces) video audio in
    ap (λ (plan : SegmentPlan). in_steps (front_fault number form pieces rows) (slice_get (filter_map (sample_fault form pieces) (in_order form plan.rows)) 0) (sizes_of (in_order form plan.rows)) plan) (plan-is pieces form asked rows)
    ∙ ap (λ (rows_now : List TrackRow). in_steps (front_fault number form pieces rows) (slice_get (filter_map (sample_fault form pieces) rows_now) 0) (sizes_of rows_now) made) (order-is form made.rows)
    ∙ ap₂ (λ (front fault : Option Refusal). in_steps front fault (sizes_of (ordered form video audio)) made) (front-is number form pieces rows) (first-is pieces form (ordered form video audio))
    ∙ ap (λ (bytes : ℕ). in_steps (front_in number form (map file_of pieces) (length rows.lead) (length rows.other)) (first_fault form (map file_of pieces) (ordered form video audio)) bytes made) (all_sizes form video audio)
    ∙ ap (λ (facts : List FileFacts). planned_in number form facts rows video audio) kept

-- the rows of a kind, whichever leads
planned_are : (leads kind : Kind) (views : List PlannedPiece) → rows_of leads kind (rows_planned leads views) ≡ planned_of kind views
planned_are Video Video views = refl
planned_are Video Audio views = refl
planned_are Audio Video views = refl
planned_are Audio Audio views = refl

-- how many rows lead, and how many others there are
pub lead_count : (leads : Kind) (views : List PlannedPiece) (video audio : ℕ) → video ≡ length (planned_of Video views) → audio ≡ length (planned_of Audio views) → (lead_first leads video audio).0 ≡ length (rows_planned leads views).lead
lead_count Video views video audio e f = e
lead_count Audio views video audio e f = f

pub other_count : (leads : Kind) (views : List PlannedPiece) (video audio : ℕ) → video ≡ length (planned_of Video views) → audio ≡ length (planned_of Audio views) → (lead_first leads video audio).1 ≡ length (rows_planned leads views).other
other_count Video views video audio e f = f
other_count Audio views video audio e f = e

module _ (number : ℕ) (form : Form) (asked : Asked) (pieces : List PlanPiece) (lead other : ℕ) (led : lead ≡ length (rows_planned (lead_of asked) (map piece_view pieces)).lead) (others : other ≡ length (rows_planned (lead_of asked) (map piece_view pieces)).other)
    (cs : List CheckedPiece) (are : ArePiecesOf cs pieces) where
  abbrev views : List PlannedPiece
  views = map piece_view pieces

  abbrev facts : List FileFacts
  facts = map facts_of pieces

  abbrev video_rows : List Row
  video_rows = map (written_row form) (planned_of Video views)

  abbrev audio_rows : List Row
  audio_rows = map (written_row form) (planned_of Audio views)

  abbrev due : Result SegmentPlan Refusal
  due = checked_rows number form asked cs (rows_planned (lead_of asked) views)

  abbrev after : Option Refusal → ℕ → Result SegmentPlan Refusal
  after fault bytes = unless fault >> (unless (bytes_fault bytes) >> Ok (plan_in facts video_rows audio_rows))

  due-steps : due ≡ (unless (front_in number form facts lead other) >> after (first_fault form facts (ordered_rows form views)) (sizes_of (ordered_rows form views)))
  due-steps =
      let rows : TrackRows = rows_planned (lead_of asked) views in
      let fault : Option Refusal = first_fault form facts (ordered_rows form views) in
      due-is number form asked cs facts rows (files_are cs pieces are)
      ∙ ap₂ (λ (v a : List TimedRow). planned_in number form facts rows (map (written_row form) v) (map (written_row form) a)) (planned_are (lead_of asked) Video views) (planned_are (lead_of asked) Audio views)
      ∙ ap₂ (λ (n m : ℕ). unless (front_in number form facts n m) >> after fault (sizes video_rows + sizes audio_rows)) (sym led) (sym others)
      ∙ ap (λ (bytes : ℕ). unless (front_in number form facts lead other) >> after fault bytes) (sym (all_sizes form video_rows audio_rows))

  pub due-front : (e : Refusal) → unless (front_in number form facts lead other) ≡ Err e → due ≡ Err e
  due-front e found = due-steps ∙ ap (λ (r : Result (Unit {0}) Refusal). r >> after (first_fault form facts (ordered_rows form views)) (sizes_of (ordered_rows form views))) found

  module _ (x : Unit {0}) (front : unless (front_in number form facts lead other) ≡ Ok x) where
    after_front : due ≡ after (first_fault form facts (ordered_rows form views)) (sizes_of (ordered_rows form views))
    after_front = due-steps ∙ ap (λ (r : Result (Unit {0}) Refusal). r >> after (first_fault form facts (ordered_rows form views)) (sizes_of (ordered_rows form views))) front

    pub due-row : (e : Refusal) → first_fault form facts (ordered_rows form views) ≡ Some e → due ≡ Err e
    due-row e found = after_front ∙ ap (λ (o : Option Refusal). after o (sizes_of (ordered_rows form views))) found

    module _ (sound : first_fault form facts (ordered_rows form views) ≡ None) (bytes : ℕ) (counted : bytes ≡ sizes_of (ordered_rows form views)) where
      after_rows : due ≡ (unless (bytes_fault bytes) >> Ok (plan_in facts video_rows audio_rows))
      after_rows = after_front ∙ ap (λ (o : Option Refusal). after o (sizes_of (ordered_rows form views))) sound ∙ ap (λ (n : ℕ). after None n) (sym counted)

      pub due-bytes : 2130706432 < bytes → due ≡ Err (SegmentTooLarge bytes)
      due-bytes more = after_rows ∙ rw (lt-ltb 2130706432 bytes more) refl

      pub due-plan : bytes ≤ 2130706432 → due ≡ Ok (plan_in facts video_rows audio_rows)
      due-plan few = after_rows ∙ rw (le-ltb 2130706432 bytes few) refl

-- ---- the plan as the writers see it

module _ (pieces : List PlanPiece) where
  named : (file : ℕ) → name_in (map facts_of pieces) file ≡ planned_name (map piece_view pieces) file
  named file = rw (slice_get-map facts_of pieces file, slice_get-map piece_view pieces file) (by (slice_get pieces file))
    where
      by : (o : Option PlanPiece) → option_map_or (λ f. f.name) (option_map facts_of o) [] ≡ option_map_or (λ p. p.name) (option_map piece_view o) []
      by None = refl
      by (Some p) = refl

  configured : (file : ℕ) (kind : Kind) → config_in (map facts_of pieces) file kind ≡ planned_config (map piece_view pieces) file kind
  configured file kind = rw (slice_get-map facts_of pieces file, slice_get-map piece_view pieces file) (by kind (slice_get pieces file))
    where
      by : (kind : Kind) (o : Option PlanPiece) → option_map_or (config_of kind) (option_map facts_of o) [] ≡ option_map_or (λ r. r.track.config) (option_and_then (range_of kind) (option_map piece_view o)) []
      by kind None = refl
      by Video (Some p) = refl
      by Audio (Some p) = refl

  pub plan-shown : (p : Planned) → p.pieces ≡ map piece_view pieces → p.hevc ≡ begins_in (map facts_of pieces)
      → plan_in (map facts_of pieces) (map (written_row p.form) (planned_of Video (map piece_view pieces))) (map (written_row p.form) (planned_of Audio (map piece_view pieces))) ≡ plan_view p
  unfolding plan_rows
  plan-shown p e hevc =
      let with : Bool → List Row → List Row → (ℕ → List ℕ) → (ℕ → Kind → List ℕ) → SegmentPlan = λ h v a n c. record { hevc = h; rows = record { video = v; audio = a; name = n; config = c } } in
      let views : List PlannedPiece = map piece_view pieces in
      let video : List PlannedPiece → List Row = λ ps. map (written_row p.form) (planned_of Video ps) in
      let audio : List PlannedPiece → List Row = λ ps. map (written_row p.form) (planned_of Audio ps) in
      ap (λ (n : ℕ → List ℕ). with (begins_in (map facts_of pieces)) (video views) (audio views) n (config_in (map facts_of pieces))) (fun_ext named)
      ∙ ap (λ (c : ℕ → Kind → List ℕ). with (begins_in (map facts_of pieces)) (video views) (audio views) (planned_name views) c) (fun_ext (λ file. fun_ext (configured file)))
      ∙ ap (λ (h : Bool). with h (video views) (audio views) (planned_name views) (planned_config views)) (sym hevc)
      ∙ ap (λ (ps : List PlannedPiece). with p.hevc (video ps) (audio ps) (planned_name ps) (planned_config ps)) (sym e)

-- ---- the greatest size

module _ {X : Type 0} (f : X → ℕ) where
  abbrev greatest : List X → ℕ
  greatest xs = fold max 0 (map f xs)

  fold_max : (n : ℕ) (xs : List X) → fold max n (map f xs) ≡ max n (greatest xs)
  fold_max n [] = omega arith
  fold_max n (x ∷ xs) = let a = fold_max (max n (f x)) xs in let b = fold_max (max 0 (f x)) xs in omega (arith, a, b)

  greatest-cons : (x : X) (xs : List X) → greatest (x ∷ xs) ≡ max (f x) (greatest xs)
  greatest-cons x xs = let a = fold_max (max 0 (f x)) xs in omega (arith, a)

  greatest-append : (xs ys : List X) → greatest (xs ++ ys) ≡ max (greatest xs) (greatest ys)
  greatest-append [] ys = omega arith
  greatest-append (x ∷ xs) ys = let a = greatest-cons x (xs ++ ys) in let b = greatest-cons x xs in let c = greatest-append xs ys in omega (arith, a, b, c)

abbrev row_size : Row → ℕ
row_size row = row.sample.size

largest_of_track : (kind : Kind) (rows : List Row) → largest_in (map (of_track kind) rows) ≡ largest_of rows
largest_of_track kind [] = refl
largest_of_track kind (row ∷ rows) =
    let a = greatest-cons size_of_row (of_track kind row) (map (of_track kind) rows) in
    let b = greatest-cons row_size row rows in
    let c = largest_of_track kind rows in
    omega (arith, a, b, c)

merged_largest : (video audio : List Row) → largest_in (writing_order video audio) ≡ max (largest_of video) (largest_of audio)
merged_largest [] audio = let a = largest_of_track Audio audio in omega (arith, a)
merged_largest (v ∷ video) audio =
    let n = prefix_len (is_before v) audio in
    let rest : List Row = drop n audio in
    let parts : largest_of audio ≡ max (largest_of (take n audio)) (largest_of rest) = ap largest_of (sym (take-append-drop n audio)) ∙ greatest-append row_size (take n audio) rest in
    let a = greatest-append size_of_row (map (of_track Audio) (take n audio)) (of_track Video v ∷ writing_order video rest) in
    let b = greatest-cons size_of_row (of_track Video v) (writing_order video rest) in
    let c = largest_of_track Audio (take n audio) in
    let d = merged_largest video rest in
    let e = greatest-cons row_size v video in
    omega (arith, parts, a, b, c, d, e)

pub all_largest : (form : Form) (video audio : List Row) → largest_in (ordered form video audio) ≡ largest_of (video ++ audio)
all_largest Ts video audio = merged_largest video audio ∙ sym (greatest-append row_size video audio)
all_largest Fmp4 video audio =
    greatest-append size_of_row (map (of_track Video) video) (map (of_track Audio) audio)
    ∙ ap₂ (λ (a b : ℕ). max a b) (largest_of_track Video video) (largest_of_track Audio audio)
    ∙ sym (greatest-append row_size video audio)

-- ---- what holds of all rows in writing order holds of those of each kind

module _ {X : Type 0} (P : X → Type 0) where
  split : (xs ys : List X) → AllByRecursion P (xs ++ ys) → AllByRecursion P xs × AllByRecursion P ys
  split [] ys all = (tt, all)
  split (x ∷ xs) ys all = let rest = split xs ys all.1 in ((all.0, rest.0), rest.1)

module _ (P : Row → Type 0) where
  abbrev Q : TrackRow → Type 0
  Q r = P r.row

  of_kind : (kind : Kind) (rows : List Row) → AllByRecursion Q (map (of_track kind) rows) → AllByRecursion P rows
  of_kind kind [] all = tt
  of_kind kind (row ∷ rows) all = (all.0, of_kind kind rows all.1)

  merged_all : (video audio : List Row) → AllByRecursion Q (writing_order video audio) → AllByRecursion P video × AllByRecursion P audio
  merged_all [] audio all = (tt, of_kind Audio audio all)
  merged_all (v ∷ video) audio all =
      let n = prefix_len (is_before v) audio in
      let rest : List Row = drop n audio in
      let parts = split Q (map (of_track Audio) (take n audio)) (of_track Video v ∷ writing_order video rest) all in
      let first = of_kind Audio (take n audio) parts.0 in
      let later = merged_all video rest parts.1.1 in
      ((parts.1.0, later.0), subst (AllByRecursion P) (take-append-drop n audio) (AllByRecursion-append P (take n audio) rest first later.1))

  each_ordered : (form : Form) (video audio : List Row) → AllByRecursion Q (ordered form video audio) → AllByRecursion P video × AllByRecursion P audio
  each_ordered Ts video audio all = merged_all video audio all
  each_ordered Fmp4 video audio all = let both = split Q (map (of_track Video) video) (map (of_track Audio) audio) all in (of_kind Video video both.0, of_kind Audio audio both.1)

abbrev pub AreLow : List TrackRow → Type 0
AreLow rows = AllByRecursion (λ (r : TrackRow). EndsLow r.row) rows

fitting : (form : Form) (rows : List TimedRow) → AllByRecursion EndsLow (map (written_row form) rows) → AllByRecursion FitsFile rows
unfolding written_row
fitting form [] all = tt
fitting form (r ∷ rows) all = let low = all.0 in (omega (arith, low), fitting form rows all.1)

pub all_fit : (form : Form) (views : List PlannedPiece) → AreLow (ordered_rows form views) → All FitsFile (planned_of Video views) × All FitsFile (planned_of Audio views)
all_fit form views all =
    let both = each_ordered EndsLow form (map (written_row form) (planned_of Video views)) (map (written_row form) (planned_of Audio views)) all in
    (all_of FitsFile (planned_of Video views) (fitting form (planned_of Video views) both.0), all_of FitsFile (planned_of Audio views) (fitting form (planned_of Audio views) both.1))

-- ---- what a plan says of its rows

module _ (p : Planned) (views : List PlannedPiece) (of : p.pieces ≡ views) where
  abbrev rows_shown : Kind → List PlannedPiece → List Row
  rows_shown kind ps = map (written_row p.form) (planned_of kind ps)

  pub plan_largest : largest_in (ordered_rows p.form views) ≡ largest_of ((plan_rows p).video ++ (plan_rows p).audio)
  unfolding plan_rows
  plan_largest = all_largest p.form (rows_shown Video views) (rows_shown Audio views) ∙ ap (λ (ps : List PlannedPiece). largest_of (rows_shown Video ps ++ rows_shown Audio ps)) (sym of)

  pub plan_bytes : sizes_of (ordered_rows p.form views) ≡ sizes (plan_rows p).video + sizes (plan_rows p).audio
  unfolding plan_rows
  plan_bytes = all_sizes p.form (rows_shown Video views) (rows_shown Audio views) ∙ ap (λ (ps : List PlannedPiece). sizes (rows_shown Video ps) + sizes (rows_shown Audio ps)) (sym of)

  pub video_ends : AreLow (ordered_rows p.form views) → All EndsLow (plan_rows p).video
  unfolding plan_rows
  video_ends all =
      let both = each_ordered EndsLow p.form (rows_shown Video views) (rows_shown Audio views) all in
      subst (λ (ps : List PlannedPiece). All EndsLow (rows_shown Video ps)) (sym of) (all_of EndsLow (rows_shown Video views) both.0)

  pub audio_ends : AreLow (ordered_rows p.form views) → All EndsLow (plan_rows p).audio
  unfolding plan_rows
  audio_ends all =
      let both = each_ordered EndsLow p.form (rows_shown Video views) (rows_shown Audio views) all in
      subst (λ (ps : List PlannedPiece). All EndsLow (rows_shown Audio ps)) (sym of) (all_of EndsLow (rows_shown Audio views) both.1)

-- ---- how many rows there are

pub counted_rows : (kind : Kind) (now items : List PlanPiece) (n : ℕ) → now ≡ items → All IsPlanPiece items → n ≡ rows_before kind (map piece_view now) (length now) → n ≡ length (planned_of kind (map piece_view items))
counted_rows kind now items n same all e =
    e ∙ ap (λ (ps : List PlanPiece). rows_before kind (map piece_view ps) (length ps)) same
    ∙ ap (rows_before kind (map piece_view items)) (sym (length-map items piece_view)) ∙ sym (planned-count kind items all)

module _ (asked : Asked) (items : List PlanPiece) (video audio : ℕ) (counts : ℕ × ℕ) (v : video ≡ length (planned_of Video (map piece_view items))) (a : audio ≡ length (planned_of Audio (map piece_view items)))
    (is : counts ≡ lead_first (lead_of asked) video audio) where
  pub led : counts.0 ≡ length (rows_planned (lead_of asked) (map piece_view items)).lead
  led = ap (λ (p : ℕ × ℕ). p.0) is ∙ lead_count (lead_of asked) (map piece_view items) video audio v a

  pub others : counts.1 ≡ length (rows_planned (lead_of asked) (map piece_view items)).other
  others = ap (λ (p : ℕ × ℕ). p.1) is ∙ other_count (lead_of asked) (map piece_view items) video audio v a

  pub through : counts.0 ≤ 200000 → counts.1 ≤ 200000 → samples_through (rows_planned (lead_of asked) (map piece_view items)) ≡ video + audio
  through few few_other =
      let rows : TrackRows = rows_planned (lead_of asked) (map piece_view items) in
      let both : counts.0 + counts.1 ≡ video + audio = ap (λ (p : ℕ × ℕ). p.0 + p.1) is ∙ both_kinds (lead_of asked) in
      let one : length rows.lead ≤ 200000 = subst (λ n. n ≤ 200000) led few in
      let two : length rows.other ≤ 200000 = subst (λ n. n ≤ 200000) others few_other in
      all_through (length rows.lead) (length rows.other) one two ∙ ap₂ (λ (n m : ℕ). n + m) (sym led) (sym others) ∙ both
    where
      both_kinds : (leads : Kind) → (lead_first leads video audio).0 + (lead_first leads video audio).1 ≡ video + audio
      both_kinds Video = refl
      both_kinds Audio = omega arith

      all_through : (n m : ℕ) → n ≤ 200000 → m ≤ 200000 → (if nat_le n 200000 then (if nat_le m 200000 then n + m else 0) else 0) ≡ n + m
      all_through n m few few_other = rw (le-leb n 200000 few, le-leb m 200000 few_other) refl

-- what is refused of pieces before their samples are gone through
pub front_of : (number : ℕ) (form : Form) (asked : Asked) (ps : List PlanPiece) (lead other : ℕ) (led : lead ≡ length (rows_planned (lead_of asked) (map piece_view ps)).lead) (others : other ≡ length (rows_planned (lead_of asked) (map piece_view ps)).other)
    (cs : List CheckedPiece) (are : ArePiecesOf cs ps) → front_fault number form cs (rows_planned (lead_of asked) (map piece_view ps)) ≡ front_in number form (map facts_of ps) lead other
front_of number form asked ps lead other led others cs are =
    let rows : TrackRows = rows_planned (lead_of asked) (map piece_view ps) in
    front-is number form cs rows
    ∙ ap (λ (facts : List FileFacts). front_in number form facts (length rows.lead) (length rows.other)) (files_are cs ps are)
    ∙ ap₂ (λ (n m : ℕ). front_in number form (map facts_of ps) n m) (sym led) (sym others)
