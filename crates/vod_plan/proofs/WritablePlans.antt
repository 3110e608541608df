-- What is wanted of a cell can be written.
use Rattle.std.proofs.Common.{◌≡◌, ℕ, zero, suc, ◌+◌, List, [], ◌∷◌, map, filter_map, nat_lt, slice_get, take, drop, All, pos, ◌≤ℤ◌, Option, Some, None, Ok, Err, refl, sym, ap, ◌∙◌, subst, arith}
use Rattle.std.specs.Bool.{then_some}
use Rattle.std.proofs.lemmas.Int.{ints}
use Rattle.std.proofs.lemmas.List.Elements.{All-cons, All-nil, All-filter}
use Rattle.std.proofs.lemmas.Option.{slice_get_within, get_or_from_slice_get}
use Rattle.vod_types.specs.declared.refusal.Refusal.{Refusal}
use Rattle.vod_types.specs.declared.refusal.Refusal.TheVariants as refusals
use Rattle.vod_types.specs.declared.segments.Form.{Form}
use Rattle.vod_types.specs.declared.segments.Form.TheVariants.{Ts}
use Rattle.vod_types.specs.declared.tracks.Asked.{Asked}
use Rattle.vod_types.specs.declared.tracks.Kind.TheVariants.{Audio}
use Rattle.vod_types.specs.Lists.{nth_from_one}
use Rattle.vod_types.specs.Results.{◌>>◌, unless}
use Rattle.vod_types.specs.Tracks.{lead_by}
use Rattle.mp4_model.proofs.ResultsLemmas.{unless_ok}
use Rattle.clip_model.specs.declared.Part.{Part}
use Rattle.clip_model.specs.IsTimeline.{IsTimeline}
use Rattle.clip_model.specs.Timeline.{Timeline}
use Rattle.segment_model.specs.Grid.{PartGrid}
use Rattle.segment_model.specs.Iframes.{sync_rows}
use Rattle.segment_model.specs.Lone.{lone_cell}
use Rattle.segment_model.specs.Rows.{TimedRow}
use Rattle.segment_model.specs.Timeline.{TrackRows, timeline}
use Rattle.segment_model.proofs.LeadIns.{places_from}
use Rattle.segment_model.proofs.Ranges.{cell_rises}
use Rattle.segment_model.proofs.Timelines.{timeline_is}
use Rattle.origin_model.specs.Iframes.{checked_iframe}
use Rattle.origin_model.specs.Loaded.{CheckedPiece}
use Rattle.origin_model.specs.Samples.{SegmentPlan, checked_rows, front_fault, in_order, name_at, sample_fault, segment_plan, segment_rows, sizes_of}
use Rattle.origin_model.specs.Sources.{part_pieces, source_piece}
use Rattle.origin_model.specs.Writable.{IsSoundPiece, IsWritable, IsStreamPlan}
use Rattle.origin_model.proofs.PlannedRows.{IsPlanned, ArePlanned, cell-planned, timeline-planned}
use Rattle.origin_model.proofs.StreamPlans.{stream_plan}
use Rattle.origin_model.proofs.WritablePlans.{pieces_from_zero, plan_is_writable}
use Rattle.answer_laws.proofs.Segments.{iframe_may, rows_may}
use Rattle.answer_laws.proofs.Steps.{May}
use Rattle.vod_plan.specs.Wanted.{form_of, lone_row, wanted_rows}
use Rattle.vod_plan.specs.declared.lone.Wanted.{Wanted}
use Rattle.vod_plan.specs.declared.lone.Wanted.TheVariants.{Iframe, Whole}
use Rattle.vod_plan.proofs.LoneIframes.{iframe_front, iframe_is, iframe_none}

-- ---- the names of their files

rows_named : (number : ℕ) (form : Form) (asked : Asked) (cs : List CheckedPiece) (rows : TrackRows) (plan : SegmentPlan) → checked_rows number form asked cs rows ≡ Ok plan → plan.rows.name ≡ name_at cs
unfolding checked_rows segment_plan segment_rows
rows_named number form asked cs rows plan e =
    let made = segment_plan form asked cs rows in
    let ordered = in_order form made.rows in
    let large = then_some (nat_lt 2130706432 (sizes_of ordered)) (refusals.SegmentTooLarge (sizes_of ordered)) in
    let fault = slice_get (filter_map (sample_fault form cs) ordered) 0 in
    let front = unless_ok (front_fault number form cs rows) (unless fault >> (unless large >> Ok made)) plan e in
    let each = unless_ok fault (unless large >> Ok made) plan front.1 in
    let last = unless_ok large (Ok made) plan each.1 in
    let same : made ≡ plan = cc last.1 in
    ap (λ (plan : SegmentPlan). plan.rows.name) (sym same)

-- ---- the row of an I-frame

-- an element of an index from 1
nth_all : {X : Type 0} (P : X → Type 0) (xs : List X) (i : ℕ) (x : X) → nth_from_one xs i ≡ Some x → All P xs → P x
nth_all P xs zero x at all = absurd cc
nth_all P xs (suc i) x at all = subst P (get_or_from_slice_get xs i x x at) (all i x (slice_get_within xs i x at))

module _ (asked : Asked) (cs : List CheckedPiece) (number index : ℕ) (rows : TrackRows) where
  -- what was answered stands among the rows
  found_among : (plan : SegmentPlan) → checked_iframe number index asked cs rows ≡ Ok plan → (front_fault number Ts cs rows ≡ None) × ((row : TimedRow) × (nth_from_one (sync_rows rows.lead) index ≡ Some row))
  found_among plan e = by (front_fault number Ts cs rows) (nth_from_one (sync_rows rows.lead) index) refl refl
    where
      by : (front : Option Refusal) (found : Option TimedRow) → front_fault number Ts cs rows ≡ front → nth_from_one (sync_rows rows.lead) index ≡ found
          → (front_fault number Ts cs rows ≡ None) × ((row : TimedRow) × (nth_from_one (sync_rows rows.lead) index ≡ Some row))
      by (Some r) found f at = absurd (let no : Err r ≡ Ok plan = sym (iframe_front asked cs number index rows r f) ∙ e in cc)
      by None None f at = absurd (let no = sym (iframe_none asked cs number index rows f at) ∙ e in cc)
      by None (Some row) f at = (f, (row, at))

module _ (asked : Asked) (cs : List CheckedPiece) (rows : TrackRows) (row : TimedRow) (index : ℕ) (at : nth_from_one (sync_rows rows.lead) index ≡ Some row) where
  of_lead : (P : TimedRow → Type 0) → All P rows.lead → P row
  of_lead P all = nth_all P (sync_rows rows.lead) index row at (All-filter (λ r. r.sync) P rows.lead all)

  none_left : rows.lead ≡ [] → row ∷ [] ≡ []
  none_left none = absurd (let no = ap (λ lead. nth_from_one (sync_rows lead) index) (sym none) ∙ at in nothing index no)
    where
      nothing : (i : ℕ) → nth_from_one (let none : List TimedRow = [] in none) i ≡ Some row → ⊥
      nothing zero e = cc
      nothing (suc i) e = cc

  only_planned : ArePlanned asked.video asked.audio cs rows → ArePlanned asked.video asked.audio cs (lone_row row)
  only_planned h = record {
    lead = All-cons (IsPlanned (lead_by asked.video) cs) row [] (of_lead (IsPlanned (lead_by asked.video) cs) h.lead) (All-nil (IsPlanned (lead_by asked.video) cs));
    other = All-nil (IsPlanned Audio cs);
    beside_video = λ e. refl;
    asked = λ e. refl;
    some = λ e f. none_left (h.some e f);
  }

-- ---- over some of the pieces of a part

module _ (t : Timeline) (part : Part) (n m : ℕ) (cs : List CheckedPiece) (h : IsTimeline t.pieces t.parts) (are : map (λ c. c.piece) cs ≡ take m (drop n (part_pieces t part))) where
  iframe_is_writable : (number index : ℕ) (asked : Asked) (g : PartGrid) (k : ℕ) (plan : SegmentPlan) → All (IsSoundPiece asked) cs
      → checked_iframe number index asked cs (lone_cell g (timeline (map source_piece cs)) k) ≡ Ok plan → IsStreamPlan asked cs plan
  iframe_is_writable number index asked g k plan sound e =
      let all = timeline (map source_piece cs) in
      let cell = lone_cell g all k in
      let found = found_among asked cs number index cell plan e in
      let row = found.1.0 in
      let at = found.1.1 in
      let rises = cell_rises g (pos 0) all k (timeline_is 0 (pos 0) (map source_piece cs) (pieces_from_zero t part n m cs h are)) in
      let low : pos 0 ≤ℤ pos 0 = omega (arith, ints) in
      let from = of_lead asked cs cell row index at (λ r. pos 0 ≤ℤ r.place) (places_from (pos 0) (pos 0) cell.lead low rises.0) in
      let planned = cell-planned asked.video asked.audio cs g all k (timeline-planned asked.video asked.audio cs 0 cs (λ j. ap (slice_get cs) (let same : 0 + j ≡ j = omega arith in same)) sound) in
      stream_plan number asked cs (lone_row row) plan (only_planned asked cs cell row index at planned) (from, tt) tt (sym (iframe_is asked cs row number cell found.0 index at) ∙ e)

  pub wanted_writable : (number : ℕ) (wanted : Wanted) (asked : Asked) (g : PartGrid) (k : ℕ) (plan : SegmentPlan) → All (IsSoundPiece asked) cs
      → wanted_rows number wanted asked cs (lone_cell g (timeline (map source_piece cs)) k) ≡ Ok plan → IsWritable (form_of wanted) asked cs plan
  wanted_writable number (Whole form) asked g k plan sound e = plan_is_writable t part n m cs h are number form asked g k plan sound e
  wanted_writable number (Iframe index) asked g k plan sound e = iframe_is_writable number index asked g k plan sound e

pub wanted_named : (number : ℕ) (wanted : Wanted) (asked : Asked) (cs : List CheckedPiece) (rows : TrackRows) (plan : SegmentPlan) → wanted_rows number wanted asked cs rows ≡ Ok plan → plan.rows.name ≡ name_at cs
wanted_named number (Whole form) asked cs rows plan e = rows_named number form asked cs rows plan e
wanted_named number (Iframe index) asked cs rows plan e =
    let found = found_among asked cs number index rows plan e in
    rows_named number Ts asked cs (lone_row found.1.0) plan (sym (iframe_is asked cs found.1.0 number rows found.0 index found.1.1) ∙ e)

-- ---- why it is refused

pub wanted_may : (number : ℕ) (wanted : Wanted) (asked : Asked) (cs : List CheckedPiece) (rows : TrackRows) → May (wanted_rows number wanted asked cs rows)
wanted_may number (Whole form) asked cs rows = rows_may number form asked cs rows
wanted_may number (Iframe index) asked cs rows = iframe_may number index asked cs rows
