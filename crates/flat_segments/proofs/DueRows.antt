-- The plan of a segment by what is kept of its files.
use Rattle.std.proofs.Common.{◌≡◌, ℕ, ◌+◌, ◌<◌, ◌≤◌, Bool, true, false, not, List, [], ◌∷◌, map, take, drop, Option, Some, None, Result, Ok, Err, refl, sym, ap, ap₂, ◌∙◌, arith}
use Rattle.std.specs.Prelude.{slice_get, find, filter_map, option_map, option_and_then, if◌then◌else◌, cond}
use Rattle.std.specs.List.{prefix_len}
use Rattle.std.specs.Option.{option_or, option_map_or}
use Rattle.std.proofs.lemmas.Bool.{lt-ltb, le-ltb}
use Rattle.std.proofs.lemmas.Option.{slice_get-map}
use Rattle.std.proofs.lemmas.List.Sums.{sum_by-append, sum_by-cons, sum_by-take-drop}
use Rattle.std.proofs.lemmas.Simd.{map-map}
use mathlib.Core.Path.{fun_ext}
use Rattle.vod_types.specs.declared.tracks.Asked.{Asked}
use Rattle.vod_types.specs.declared.tracks.Kind.{Kind}
use Rattle.vod_types.specs.declared.tracks.Kind.TheVariants.{Video, Audio}
use Rattle.vod_types.specs.declared.segments.Form.{Form}
use Rattle.vod_types.specs.declared.segments.Form.TheVariants.{Ts, Fmp4}
use Rattle.vod_types.specs.declared.segments.Row.{Row}
use Rattle.vod_types.specs.declared.refusal.Refusal.{Refusal}
use Rattle.vod_types.specs.declared.refusal.Refusal.TheVariants.{MixedCodecs, SegmentTooLarge}
use Rattle.vod_types.specs.Results.{◌>>◌, unless}
use Rattle.vod_types.specs.SegmentRows.{SegmentRows}
use Rattle.vod_types.specs.Tracks.{lead_of}
use Rattle.segment_model.specs.Rows.{TimedRow, written_row}
use Rattle.segment_model.specs.Timeline.{TrackRows, rows_of, written_rows}
use Rattle.media_model.specs.Fragment.{sizes}
use Rattle.media_model.specs.WritingOrder.{TrackRow, of_track, is_before, writing_order}
use Rattle.origin_model.specs.Loaded.{CheckedPiece}
use Rattle.origin_model.specs.Samples.{SegmentPlan, name_at, size_at, config_at, checked_track, sample_fault, segment_rows, segment_plan, mixed_codecs, front_fault, in_order, sizes_of, checked_rows}
use Rattle.origin_model.specs.Samples as model
use Rattle.flat_samples.specs.declared.samples.TimedSample.{TimedSample}
use Rattle.flat_samples.specs.Rows.{timed_view}
use Rattle.flat_segments.specs.RowFaults.{name_in, size_in, config_in, row_fault, first_fault, shown, ordered, ordered_fault, has_hevc, mixed_in, mixed_with, many_fault, none_fault, front_in, bytes_fault, begins_in, rows_in, plan_in, planned_in}
use Rattle.flat_segments.specs.Segments.{FileFacts, file_of, config_of}

-- ---- what is kept of the files of pieces

module _ (pieces : List CheckedPiece) where
  name_at-is : (file : ℕ) → name_at pieces file ≡ name_in (map file_of pieces) file
  name_at-is file = rw (slice_get-map file_of pieces file) (by (slice_get pieces file))
    where
      by : (o : Option CheckedPiece) → option_map_or (λ c. c.piece.name) o [] ≡ option_map_or (λ f. f.name) (option_map file_of o) []
      by None = refl
      by (Some c) = refl

  pub size_at-is : (file : ℕ) → size_at pieces file ≡ size_in (map file_of pieces) file
  size_at-is file = rw (slice_get-map file_of pieces file) (by (slice_get pieces file))
    where
      by : (o : Option CheckedPiece) → option_map_or (λ c. c.file_size) o 0 ≡ option_map_or (λ f. f.size) (option_map file_of o) 0
      by None = refl
      by (Some c) = refl

  config_at-is : (file : ℕ) (kind : Kind) → config_at pieces file kind ≡ config_in (map file_of pieces) file kind
  config_at-is file kind = rw (slice_get-map file_of pieces file) (by kind (slice_get pieces file))
    where
      by : (kind : Kind) (o : Option CheckedPiece) → option_map_or (λ t. t.config) (option_and_then (checked_track kind) o) [] ≡ option_map_or (config_of kind) (option_map file_of o) []
      by kind None = refl
      by Video (Some c) = refl
      by Audio (Some c) = refl

  -- the rows of both kinds, by what is kept
  rows_in-is : (video audio : List Row) → ◌≡◌ {A = SegmentRows} (record { video = video; audio = audio; name = name_at pieces; config = config_at pieces }) (rows_in (map file_of pieces) video audio)
  rows_in-is video audio =
      ap (λ (name : ℕ → List ℕ). record { video = video; audio = audio; name = name; config = config_at pieces }) (fun_ext name_at-is)
      ∙ ap (λ (config : ℕ → Kind → List ℕ). record { video = video; audio = audio; name = name_in (map file_of pieces); config = config }) (fun_ext (λ file. fun_ext (config_at-is file)))

  begins-is : model.begins_with_hevc pieces ≡ begins_in (map file_of pieces)
  begins-is = by pieces
    where
      by : (cs : List CheckedPiece) → model.begins_with_hevc cs ≡ begins_in (map file_of cs)
      by [] = refl
      by (c ∷ cs) = refl

  plan-is : (form : Form) (asked : Asked) (rows : TrackRows) → segment_plan form asked pieces rows ≡ plan_in (map file_of pieces) (written_rows form asked Video rows) (written_rows form asked Audio rows)
  unfolding segment_plan segment_rows
  plan-is form asked rows = ap₂ (λ (hevc : Bool) (rows : SegmentRows). record { hevc = hevc; rows = rows }) begins-is (rows_in-is (written_rows form asked Video rows) (written_rows form asked Audio rows))

  -- a row's first fault
  sample_fault-is : (form : Form) (r : TrackRow) → sample_fault form pieces r ≡ row_fault form (map file_of pieces) r
  unfolding sample_fault row_fault
  sample_fault-is form r = rw (sym (name_at-is r.row.file), sym (size_at-is r.row.file)) refl

  faults-is : (form : Form) (rows : List TrackRow) → filter_map (sample_fault form pieces) rows ≡ filter_map (row_fault form (map file_of pieces)) rows
  faults-is form [] = refl
  faults-is form (r ∷ rows) = rw (sample_fault-is form r, faults-is form rows) refl

  first-is : (form : Form) (rows : List TrackRow) → slice_get (filter_map (sample_fault form pieces) rows) 0 ≡ first_fault form (map file_of pieces) rows
  unfolding first_fault
  first-is form rows = ap (λ (faults : List Refusal). slice_get faults 0) (faults-is form rows)

-- ---- what is refused before the rows

abbrev piece_mix : CheckedPiece → Option CheckedPiece → Option Refusal
piece_mix first o = option_map (λ c. MixedCodecs c.piece.name (model.video_type first) (model.video_type c)) o

abbrev file_mix : FileFacts → Option FileFacts → Option Refusal
file_mix first o = option_map (λ f. MixedCodecs f.name first.video_type f.video_type) o

mixed_with-is : (first : CheckedPiece) (cs : List CheckedPiece) → model.mixed_with first cs ≡ mixed_with (file_of first) (map file_of cs)
mixed_with-is first [] = refl
mixed_with-is first (c ∷ cs) = by (if model.has_hevc first then not (model.has_hevc c) else model.has_hevc c) (mixed_with-is first cs)
  where
    by : (b : Bool) → model.mixed_with first cs ≡ mixed_with (file_of first) (map file_of cs)
        → piece_mix first (cond b (Some c) (find (λ c. if model.has_hevc first then not (model.has_hevc c) else model.has_hevc c) cs))
        ≡ file_mix (file_of first) (cond b (Some (file_of c)) (find (λ f. if has_hevc (file_of first) then not (has_hevc f) else has_hevc f) (map file_of cs)))
    by true rest = refl
    by false rest = rest

mixed-is : (form : Form) (cs : List CheckedPiece) → mixed_codecs form cs ≡ mixed_in form (map file_of cs)
unfolding mixed_codecs
mixed-is Ts [] = refl
mixed-is Ts (c ∷ cs) = mixed_with-is c cs
mixed-is Fmp4 cs = refl

pub front-is : (number : ℕ) (form : Form) (cs : List CheckedPiece) (rows : TrackRows) → front_fault number form cs rows ≡ front_in number form (map file_of cs) rows
unfolding front_fault front_in
front-is number form cs rows = ap (λ (mixed : Option Refusal). option_or (none_fault number rows) (option_or mixed (many_fault rows))) (mixed-is form cs)

-- ---- the bytes of all samples

sizes_of_track : (kind : Kind) (rows : List Row) → sizes_of (map (of_track kind) rows) ≡ sizes rows
sizes_of_track kind [] = refl
sizes_of_track kind (row ∷ rows) =
    sum_by-cons (λ (r : TrackRow). r.row.sample.size) (of_track kind row) (map (of_track kind) rows)
    ∙ ap (λ n. row.sample.size + n) (sizes_of_track kind rows) ∙ sym (sum_by-cons (λ (r : Row). r.sample.size) row rows)

abbrev size_of_row : TrackRow → ℕ
size_of_row r = r.row.sample.size

swapped : (first v video rest audio : ℕ) → first + rest ≡ audio → first + (v + (video + rest)) ≡ (v + video) + audio
swapped first v video rest audio e = omega (arith, e)

merged_sizes : (video audio : List Row) → sizes_of (writing_order video audio) ≡ sizes video + sizes audio
merged_sizes [] audio = sizes_of_track Audio audio ∙ (let none : sizes audio ≡ 0 + sizes audio = omega arith in none)
merged_sizes (v ∷ video) audio =
    let n = prefix_len (is_before v) audio in
    let rest = drop n audio in
    sum_by-append size_of_row (map (of_track Audio) (take n audio)) (of_track Video v ∷ writing_order video rest)
    ∙ ap₂ (λ (a b : ℕ). a + b) (sizes_of_track Audio (take n audio)) (sum_by-cons size_of_row (of_track Video v) (writing_order video rest) ∙ ap (λ (m : ℕ). v.sample.size + m) (merged_sizes video rest))
    ∙ swapped (sizes (take n audio)) v.sample.size (sizes video) (sizes rest) (sizes audio) (sum_by-take-drop (λ (r : Row). r.sample.size) audio n)
    ∙ ap (λ (m : ℕ). m + sizes audio) (sym (sum_by-cons (λ (r : Row). r.sample.size) v video))

all_sizes : (form : Form) (video audio : List Row) → sizes_of (ordered form video audio) ≡ sizes video + sizes audio
all_sizes Ts video audio = merged_sizes video audio
all_sizes Fmp4 video audio =
    sum_by-append size_of_row (map (of_track Video) video) (map (of_track Audio) audio)
    ∙ ap₂ (λ (a b : ℕ). a + b) (sizes_of_track Video video) (sizes_of_track Audio audio)

order-is : (form : Form) (rows : SegmentRows) → in_order form rows ≡ ordered form rows.video rows.audio
order-is Ts rows = refl
order-is Fmp4 rows = refl

-- ---- the plan

abbrev in_steps : Option Refusal → Option Refusal → ℕ → SegmentPlan → Result SegmentPlan Refusal
in_steps front fault bytes plan = unless front >> (unless fault >> (unless (bytes_fault bytes) >> Ok plan))

-- what is due for the rows, by what is kept of the files
due-is : (number : ℕ) (form : Form) (asked : Asked) (pieces : List CheckedPiece) (facts : List FileFacts) (rows : TrackRows) → map file_of pieces ≡ facts
    → checked_rows number form asked pieces rows ≡ planned_in number form facts rows (written_rows form asked Video rows) (written_rows form asked Audio rows)
unfolding checked_rows
due-is number form asked pieces facts rows kept =
    let plan = segment_plan form asked pieces rows in
    let video = written_rows form asked Video rows in
    let audio = written_rows form asked Audio rows in
    let made = plan_in (map file_of pieces) video audio in
    ap (λ (plan : SegmentPlan). in_steps (front_fault number form pieces rows) (slice_get (filter_map (sample_fault form pieces) (in_order form plan.rows)) 0) (sizes_of (in_order form plan.rows)) plan) (plan-is pieces form asked rows)
    ∙ ap (λ (rows_now : List TrackRow). in_steps (front_fault number form pieces rows) (slice_get (filter_map (sample_fault form pieces) rows_now) 0) (sizes_of rows_now) made) (order-is form made.rows)
    ∙ ap₂ (λ (front fault : Option Refusal). in_steps front fault (sizes_of (ordered form video audio)) made) (front-is number form pieces rows) (first-is pieces form (ordered form video audio))
    ∙ ap (λ (bytes : ℕ). in_steps (front_in number form (map file_of pieces) rows) (first_fault form (map file_of pieces) (ordered form video audio)) bytes made) (all_sizes form video audio)
    ∙ ap (λ (facts : List FileFacts). planned_in number form facts rows video audio) kept

-- samples as they are shown
shown_all : (form : Form) (samples : List TimedSample) (rows : List TimedRow) → map timed_view samples ≡ rows → map (shown form) samples ≡ map (written_row form) rows
shown_all form samples rows are = sym (map-map (written_row form) timed_view samples) ∙ ap (map (written_row form)) are

module _ (number : ℕ) (form : Form) (asked : Asked) (pieces : List CheckedPiece) (facts : List FileFacts) (rows : TrackRows) (kept : map file_of pieces ≡ facts) where
  abbrev due : Result SegmentPlan Refusal
  due = checked_rows number form asked pieces rows

  pub due-front : (e : Refusal) → unless (front_in number form facts rows) ≡ Err e → due ≡ Err e
  due-front e found =
      due-is number form asked pieces facts rows kept
      ∙ ap (λ (r : Result (Unit {0}) Refusal). r >> (unless (first_fault form facts (ordered form (written_rows form asked Video rows) (written_rows form asked Audio rows)))
      >> (unless (bytes_fault (sizes (written_rows form asked Video rows) + sizes (written_rows form asked Audio rows))) >> Ok (plan_in facts (written_rows form asked Video rows) (written_rows form asked Audio rows))))) found

  module _ (x : Unit {0}) (front : unless (front_in number form facts rows) ≡ Ok x) (video_samples audio_samples : List TimedSample)
      (video_of : map timed_view video_samples ≡ rows_of (lead_of asked) Video rows) (audio_of : map timed_view audio_samples ≡ rows_of (lead_of asked) Audio rows) where
    abbrev then_rows : Option Refusal → ℕ → List Row → List Row → Result SegmentPlan Refusal
    then_rows fault bytes video audio = unless fault >> (unless (bytes_fault bytes) >> Ok (plan_in facts video audio))

    after_front : (video audio : List Row) → video ≡ map (shown form) video_samples → audio ≡ map (shown form) audio_samples → due ≡ then_rows (ordered_fault form facts video_samples audio_samples) (sizes video + sizes audio) video audio
    after_front video audio video_are audio_are =
        due-is number form asked pieces facts rows kept
        ∙ ap₂ (λ (video audio : List Row). planned_in number form facts rows video audio) (sym (shown_all form video_samples (rows_of (lead_of asked) Video rows) video_of)) (sym (shown_all form audio_samples (rows_of (lead_of asked) Audio rows) audio_of))
        ∙ ap₂ (λ (shown_video shown_audio : List Row). unless (front_in number form facts rows) >> then_rows (ordered_fault form facts video_samples audio_samples) (sizes shown_video + sizes shown_audio) shown_video shown_audio) (sym video_are) (sym audio_are)
        ∙ ap (λ (r : Result (Unit {0}) Refusal). r >> then_rows (ordered_fault form facts video_samples audio_samples) (sizes video + sizes audio) video audio) front

    pub due-row : (e : Refusal) → ordered_fault form facts video_samples audio_samples ≡ Some e → due ≡ Err e
    due-row e found =
        let video = map (shown form) video_samples in
        let audio = map (shown form) audio_samples in
        after_front video audio refl refl ∙ ap (λ (o : Option Refusal). then_rows o (sizes video + sizes audio) video audio) found

    module _ (video audio : List Row) (video_are : video ≡ map (shown form) video_samples) (audio_are : audio ≡ map (shown form) audio_samples) (sound : ordered_fault form facts video_samples audio_samples ≡ None)
        (bytes : ℕ) (counted : bytes ≡ sizes video + sizes audio) where
      after_rows : due ≡ (unless (bytes_fault bytes) >> Ok (plan_in facts video audio))
      after_rows =
          after_front video audio video_are audio_are ∙ ap (λ (o : Option Refusal). then_rows o (sizes video + sizes audio) video audio) sound
          ∙ ap (λ (n : ℕ). unless (bytes_fault n) >> Ok (plan_in facts video audio)) (sym counted)

      pub due-bytes : 2130706432 < bytes → due ≡ Err (SegmentTooLarge bytes)
      due-bytes more = after_rows ∙ rw (lt-ltb 2130706432 bytes more) refl

      pub due-rows : bytes ≤ 2130706432 → due ≡ Ok (plan_in facts video audio)
      due-rows few = after_rows ∙ rw (le-ltb 2130706432 bytes few) refl
