-- An I-frame of a cell as the only row, and what is wanted of a cell.
use Rattle.std.proofs.Common.{◌≡◌, ℕ, zero, suc, ◌+◌, ◌≤◌, Bool, true, false, cond, List, [], ◌∷◌, length, map, filter, filter_map, nat_lt, slice_get, take, drop, All, pos, ◌≤ℤ◌, Option, Some, None, option_map, Result, Ok, Err, refl, sym, ap, ◌∙◌, subst, arith}
use Rattle.std.specs.Bool.{then_some}
use Rattle.std.specs.Option.{option_or}
use Rattle.std.proofs.lemmas.Bool.{le-ltb}
use Rattle.std.proofs.lemmas.Int.{ints}
use Rattle.std.proofs.lemmas.List.Elements.{All-cons, All-nil, All-filter}
use Rattle.std.proofs.lemmas.List.{length-map}
use Rattle.std.proofs.lemmas.List.Sums.{sum_by-cons}
use Rattle.std.proofs.lemmas.Option.{slice_get_within, get_or_from_slice_get, slice_get-map}
use Rattle.vod_types.specs.declared.refusal.Refusal.{Refusal}
use Rattle.vod_types.specs.declared.refusal.Refusal.TheVariants as refusals
use Rattle.vod_types.specs.declared.refusal.Refusal.TheVariants.{SegmentTooLarge}
use Rattle.vod_types.specs.declared.segments.Form.{Form}
use Rattle.vod_types.specs.declared.segments.Form.TheVariants.{Ts}
use Rattle.vod_types.specs.declared.tracks.Asked.{Asked}
use Rattle.vod_types.specs.declared.tracks.Kind.{Kind}
use Rattle.vod_types.specs.declared.tracks.Kind.TheVariants.{Video, Audio}
use Rattle.vod_types.specs.Lists.{nth_from_one}
use Rattle.vod_types.specs.Results.{◌>>◌, unless}
use Rattle.vod_types.specs.Tracks.{lead_by, lead_of, video_alone}
use Rattle.clip_model.specs.declared.Part.{Part}
use Rattle.clip_model.specs.IsTimeline.{IsTimeline}
use Rattle.clip_model.specs.Timeline.{Timeline}
use Rattle.segment_model.specs.Grid.{PartGrid}
use Rattle.segment_model.specs.Iframes.{sync_rows}
use Rattle.segment_model.specs.Lone.{lone_cell}
use Rattle.segment_model.specs.Rows.{TimedRow, written_row}
use Rattle.segment_model.specs.Timeline.{TrackRows, rows_of, timeline}
use Rattle.segment_model.proofs.LeadIns.{places_from}
use Rattle.segment_model.proofs.Ranges.{cell_rises}
use Rattle.segment_model.proofs.Timelines.{timeline_is}
use Rattle.media_model.specs.WritingOrder.{TrackRow, of_track, writing_order}
use Rattle.vod_source.specs.Calls.{Came}
use Rattle.vod_source.specs.Stored.{Read}
use Rattle.vod_source.proofs.CallLemmas.{NotFailed}
use Rattle.origin_model.specs.Iframes.{alone, checked_iframe, planned_iframe}
use Rattle.origin_model.specs.Loaded.{CheckedPiece}
use Rattle.origin_model.specs.Plans.{Cutting, planned_segment}
use Rattle.origin_model.specs.Samples.{SegmentPlan, checked_rows, front_fault, greatest_size, in_order, mixed_codecs, sample_fault, segment_plan, segment_rows, sizes_of}
use Rattle.origin_model.specs.Sources.{part_pieces, source_piece}
use Rattle.origin_model.specs.Writable.{IsSoundPiece, IsWritable, IsStreamPlan}
use Rattle.origin_model.proofs.PlannedRows.{IsPlanned, ArePlanned, cell-planned, timeline-planned}
use Rattle.origin_model.proofs.SoundRows.{none_of, sound_row}
use Rattle.origin_model.proofs.StreamPlans.{stream_plan}
use Rattle.origin_model.proofs.WritablePlans.{pieces_from_zero, plan_is_writable}
use Rattle.flat_samples.specs.declared.samples.TimedSample.{TimedSample}
use Rattle.flat_samples.specs.Rows.{timed_view}
use Rattle.flat_segments.specs.Planned.{form_of, lone_row, planned_wanted, wanted_rows}
use Rattle.flat_segments.specs.Segments.{flat_plan}
use Rattle.flat_segments.specs.declared.rows.FlatRows.{FlatRows}
use Rattle.flat_segments.specs.declared.segment.Wanted.{Wanted}
use Rattle.flat_segments.specs.declared.segment.Wanted.TheVariants.{Iframe, Whole}
use Rattle.flat_segments.proofs.Failures.{iframe_not_failed, rows_not_failed}
use Rattle.flat_segments.proofs.RowFaults.{first_of_cons}

-- ---- what is wanted isn't refused for a failure of the store

pub wanted_not_failed : (number : ℕ) (wanted : Wanted) (asked : Asked) (pieces : List CheckedPiece) (rows : TrackRows) → NotFailed (wanted_rows number wanted asked pieces rows)
wanted_not_failed number (Whole form) asked pieces rows = rows_not_failed number form asked pieces rows
wanted_not_failed number (Iframe index) asked pieces rows = iframe_not_failed number index asked pieces rows

-- ---- the only row

pub unless_none : (o : Option Refusal) (x : Unit {0}) → unless o ≡ Ok x → o ≡ None
unless_none None x e = refl
unless_none (Some r) x e = absurd cc

pub unless_some : (o : Option Refusal) (r : Refusal) → unless o ≡ Err r → o ≡ Some r
unless_some None r e = absurd cc
unless_some (Some s) r e = cc

module _ (asked : Asked) (pieces : List CheckedPiece) (row : TimedRow) where
  abbrev only : TrackRow
  only = of_track (lead_of asked) (written_row Ts row)

  abbrev fault : Option Refusal
  fault = slice_get (filter_map (sample_fault Ts pieces) (in_order Ts (alone asked pieces row).rows)) 0

  abbrev bytes : ℕ
  bytes = sizes_of (in_order Ts (alone asked pieces row).rows)

  abbrev large : Option Refusal
  large = then_some (nat_lt 2130706432 bytes) (SegmentTooLarge bytes)

  only_by : (lead : Kind) → writing_order (map (written_row Ts) (rows_of lead Video (lone_row row))) (map (written_row Ts) (rows_of lead Audio (lone_row row))) ≡ of_track lead (written_row Ts row) ∷ []
  only_by Video = refl
  only_by Audio = refl

  only_one : in_order Ts (alone asked pieces row).rows ≡ only ∷ []
  unfolding segment_plan segment_rows
  only_one = only_by (lead_of asked)

  first_none : (o : Option Refusal) → option_or o (let none : Option Refusal = None in none) ≡ None → o ≡ None
  first_none None e = refl
  first_none (Some r) e = absurd cc

  sound_only : fault ≡ None → sample_fault Ts pieces only ≡ None
  sound_only none = first_none (sample_fault Ts pieces only) (sym (first_of_cons (sample_fault Ts pieces only) []) ∙ ap (λ (rows : List TrackRow). slice_get (filter_map (sample_fault Ts pieces) rows) 0) (sym only_one) ∙ none)

  low_size : (kind : Kind) → greatest_size Ts kind ≤ 16777216
  low_size Video = omega arith
  low_size Audio = omega arith

  small : fault ≡ None → large ≡ None
  small none =
      let size = (sound_row Ts pieces only (sound_only none)).0.size in
      let sum : bytes ≡ only.row.sample.size + 0 = ap sizes_of only_one ∙ sum_by-cons (λ (r : TrackRow). r.row.sample.size) only [] in
      let few : bytes ≤ 2130706432 = omega (arith, sum, size, low_size (lead_of asked)) in
      ap (λ b. then_some b (SegmentTooLarge bytes)) (le-ltb 2130706432 bytes few)

  -- its bytes are never too many
  same_plan : (o : Option Refusal) → fault ≡ o → (unless o >> (unless large >> Ok (alone asked pieces row))) ≡ (unless o >> Ok (alone asked pieces row))
  same_plan None e = ap (λ (o : Option Refusal). unless o >> Ok (alone asked pieces row)) (small e)
  same_plan (Some r) e = refl

  module _ (number : ℕ) (rows : TrackRows) (front : front_fault number Ts pieces rows ≡ None) where
    one_codec : mixed_codecs Ts pieces ≡ None
    unfolding front_fault
    one_codec = (none_of _ (mixed_codecs Ts pieces) _ front).0

    only_front : front_fault number Ts pieces (lone_row row) ≡ None
    unfolding front_fault
    only_front = ap (λ (o : Option Refusal). option_or o (let none : Option Refusal = None in none)) one_codec

    checked_only : checked_rows number Ts asked pieces (lone_row row) ≡ (unless fault >> Ok (alone asked pieces row))
    unfolding checked_rows
    checked_only = ap (λ (o : Option Refusal). unless o >> (unless fault >> (unless large >> Ok (alone asked pieces row)))) only_front ∙ same_plan fault refl

    -- the I-frame of an index is checked as the only row
    pub iframe_is : (index : ℕ) → nth_from_one (sync_rows rows.lead) index ≡ Some row → checked_iframe number index asked pieces rows ≡ checked_rows number Ts asked pieces (lone_row row)
    unfolding checked_iframe
    iframe_is index at = rw (front, at) (sym checked_only)

module _ (asked : Asked) (pieces : List CheckedPiece) (number index : ℕ) (rows : TrackRows) where
  pub iframe_none : front_fault number Ts pieces rows ≡ None → nth_from_one (sync_rows rows.lead) index ≡ None → checked_iframe number index asked pieces rows ≡ Err (refusals.NoIframe index (length (sync_rows rows.lead)))
  unfolding checked_iframe
  iframe_none front none = rw (front, none) refl

  pub iframe_front : (e : Refusal) → front_fault number Ts pieces rows ≡ Some e → checked_iframe number index asked pieces rows ≡ Err e
  unfolding checked_iframe
  iframe_front e front = rw front refl

  -- what was answered stands among the rows
  found_among : (plan : SegmentPlan) → checked_iframe number index asked pieces rows ≡ Ok plan → (front_fault number Ts pieces rows ≡ None) × ((row : TimedRow) × (nth_from_one (sync_rows rows.lead) index ≡ Some row))
  found_among plan e = by (front_fault number Ts pieces rows) (nth_from_one (sync_rows rows.lead) index) refl refl
    where
      by : (front : Option Refusal) (found : Option TimedRow) → front_fault number Ts pieces rows ≡ front → nth_from_one (sync_rows rows.lead) index ≡ found
          → (front_fault number Ts pieces rows ≡ None) × ((row : TimedRow) × (nth_from_one (sync_rows rows.lead) index ≡ Some row))
      by (Some r) found f at = absurd (let no : Err r ≡ Ok plan = sym (iframe_front r f) ∙ e in cc)
      by None None f at = absurd (let no : Err (refusals.NoIframe index (length (sync_rows rows.lead))) ≡ Ok plan = sym (iframe_none f at) ∙ e in cc)
      by None (Some row) f at = (f, (row, at))

-- ---- the sync samples

sync_is : (samples : List TimedSample) → sync_rows (map timed_view samples) ≡ map timed_view (filter (λ s. s.sync) samples)
sync_is [] = refl
sync_is (s ∷ samples) = by s.sync (sync_is samples)
  where
    by : (b : Bool) → sync_rows (map timed_view samples) ≡ map timed_view (filter (λ s. s.sync) samples)
        → cond b (timed_view s ∷ sync_rows (map timed_view samples)) (sync_rows (map timed_view samples)) ≡ map timed_view (cond b (s ∷ filter (λ s. s.sync) samples) (filter (λ s. s.sync) samples))
    by true e = ap (λ (rows : List TimedRow). timed_view s ∷ rows) e
    by false e = e

nth_view : (samples : List TimedSample) (index : ℕ) → nth_from_one (map timed_view samples) index ≡ option_map timed_view (nth_from_one samples index)
nth_view samples zero = refl
nth_view samples (suc i) = slice_get-map timed_view samples i

module _ (samples sync : List TimedSample) (are : sync ≡ filter (λ s. s.sync) samples) where
  sync_view : sync_rows (map timed_view samples) ≡ map timed_view sync
  sync_view = sync_is samples ∙ ap (map timed_view) (sym are)

  few_left : (ss : List TimedSample) → length (filter (λ s. s.sync) ss) ≤ length ss
  few_left [] = omega arith
  few_left (s ∷ ss) = by s.sync (few_left ss)
    where
      by : (b : Bool) → length (filter (λ s. s.sync) ss) ≤ length ss → length (cond b (s ∷ filter (λ s. s.sync) ss) (filter (λ s. s.sync) ss)) ≤ suc (length ss)
      by true le = omega (arith, le)
      by false le = omega (arith, le)

  pub sync_few : length sync ≤ length samples
  sync_few = subst (λ (ss : List TimedSample). length ss ≤ length samples) (sym are) (few_left samples)

  pub sync_count : length (sync_rows (map timed_view samples)) ≡ length sync
  sync_count = ap (λ (rows : List TimedRow). length rows) sync_view ∙ length-map sync timed_view

  pub sync_nth : (index : ℕ) (found : Option TimedSample) → found ≡ nth_from_one sync index → nth_from_one (sync_rows (map timed_view samples)) index ≡ option_map timed_view found
  sync_nth index found e = ap (λ (rows : List TimedRow). nth_from_one rows index) sync_view ∙ nth_view sync index ∙ ap (option_map timed_view) (sym e)

-- ---- the plans

pub planned_whole : (c : Cutting) (asked : Asked) (t : Timeline) (number : ℕ) (form : Form) → planned_wanted c asked t number (Whole form) ≡ planned_segment c asked t number form
unfolding planned_wanted planned_segment
planned_whole c asked t number form = refl

pub same_due : (r : Result FlatRows Refusal) (due other : Result SegmentPlan Refusal) (reads : List Read) (log log_now : Option (List Read)) → due ≡ other → Came flat_plan r due reads log log_now → Came flat_plan r other reads log log_now
same_due r due other reads log log_now e came = subst (λ (due : Result SegmentPlan Refusal). Came flat_plan r due reads log log_now) e came

pub planned_alone : (c : Cutting) (video : ℕ) (t : Timeline) (number index : ℕ) → planned_wanted c (video_alone video) t number (Iframe index) ≡ planned_iframe c video t number index
unfolding planned_wanted planned_iframe
planned_alone c video t number index = refl

-- ---- it can be written

-- an element of an index from 1
pub nth_all : {X : Type 0} (P : X → Type 0) (xs : List X) (i : ℕ) (x : X) → nth_from_one xs i ≡ Some x → All P xs → P x
nth_all P xs zero x at all = absurd cc
nth_all P xs (suc i) x at all = subst P (get_or_from_slice_get xs i x x at) (all i x (slice_get_within xs i x at))

module _ (asked : Asked) (pieces : List CheckedPiece) (rows : TrackRows) (row : TimedRow) (index : ℕ) (at : nth_from_one (sync_rows rows.lead) index ≡ Some row) where
  of_lead : (P : TimedRow → Type 0) → All P rows.lead → P row
  of_lead P all = nth_all P (sync_rows rows.lead) index row at (All-filter (λ r. r.sync) P rows.lead all)

  none_left : rows.lead ≡ [] → lone_row row ≡ lone_row row → row ∷ [] ≡ []
  none_left none e = absurd (let no = ap (λ lead. nth_from_one (sync_rows lead) index) (sym none) ∙ at in nothing index no)
    where
      nothing : (i : ℕ) → nth_from_one (let none : List TimedRow = [] in none) i ≡ Some row → ⊥
      nothing zero e = cc
      nothing (suc i) e = cc

  only_planned : ArePlanned asked.video asked.audio pieces rows → ArePlanned asked.video asked.audio pieces (lone_row row)
  only_planned h = record {
    lead = All-cons (IsPlanned (lead_by asked.video) pieces) row [] (of_lead (IsPlanned (lead_by asked.video) pieces) h.lead) (All-nil (IsPlanned (lead_by asked.video) pieces));
    other = All-nil (IsPlanned Audio pieces);
    beside_video = λ e. refl;
    asked = λ e. refl;
    some = λ e f. none_left (h.some e f) refl;
  }

module _ (t : Timeline) (part : Part) (n m : ℕ) (cs : List CheckedPiece) (h : IsTimeline t.pieces t.parts) (are : map (λ c. c.piece) cs ≡ take m (drop n (part_pieces t part))) where
  iframe_is_writable : (number index : ℕ) (asked : Asked) (g : PartGrid) (k : ℕ) (plan : SegmentPlan) → All (IsSoundPiece asked) cs
      → checked_iframe number index asked cs (lone_cell g (timeline (map source_piece cs)) k) ≡ Ok plan → IsStreamPlan asked cs plan
  iframe_is_writable number index asked g k plan sound e =
      let all = timeline (map source_piece cs) in
      let cell = lone_cell g all k in
      let found = found_among asked cs number index cell plan e in
      let row = found.1.0 in
      let at = found.1.1 in
      let rises = cell_rises g (pos 0) all k (timeline_is 0 (pos 0) (map source_piece cs) (pieces_from_zero t part n m cs h are)) in
      let low : pos 0 ≤ℤ pos 0 = omega (arith, ints) in
      let from = of_lead asked cs cell row index at (λ r. pos 0 ≤ℤ r.place) (places_from (pos 0) (pos 0) cell.lead low rises.0) in
      let planned = cell-planned asked.video asked.audio cs g all k (timeline-planned asked.video asked.audio cs 0 cs (λ j. ap (slice_get cs) (let same : 0 + j ≡ j = omega arith in same)) sound) in
      stream_plan number asked cs (lone_row row) plan (only_planned asked cs cell row index at planned) (from, tt) tt (sym (iframe_is asked cs row number cell found.0 index at) ∙ e)

  pub wanted_writable : (number : ℕ) (wanted : Wanted) (asked : Asked) (g : PartGrid) (k : ℕ) (plan : SegmentPlan) → All (IsSoundPiece asked) cs
      → wanted_rows number wanted asked cs (lone_cell g (timeline (map source_piece cs)) k) ≡ Ok plan → IsWritable (form_of wanted) asked cs plan
  wanted_writable number (Whole form) asked g k plan sound e = plan_is_writable t part n m cs h are number form asked g k plan sound e
  wanted_writable number (Iframe index) asked g k plan sound e = iframe_is_writable number index asked g k plan sound e
