-- An I-frame of a cell as the only row.
use Rattle.std.proofs.Common.{◌≡◌, ℕ, ◌+◌, ◌≤◌, List, [], ◌∷◌, length, map, filter_map, nat_lt, slice_get, All, Option, Some, None, Result, Ok, Err, refl, sym, ap, ap₂, subst, ◌∙◌, arith}
use Rattle.std.specs.Bool.{then_some}
use Rattle.std.specs.Option.{option_or}
use Rattle.std.proofs.lemmas.Bool.{le-ltb}
use Rattle.std.proofs.lemmas.List.Sums.{sum_by-cons}
use Rattle.vod_types.specs.declared.refusal.Refusal.{Refusal}
use Rattle.vod_types.specs.declared.refusal.Refusal.TheVariants as refusals
use Rattle.vod_types.specs.declared.refusal.Refusal.TheVariants.{SegmentTooLarge}
use Rattle.vod_types.specs.declared.segments.Form.TheVariants.{Ts}
use Rattle.vod_types.specs.declared.tracks.Asked.{Asked}
use Rattle.vod_types.specs.declared.tracks.Kind.{Kind}
use Rattle.vod_types.specs.declared.tracks.Kind.TheVariants.{Video, Audio}
use Rattle.vod_types.specs.Lists.{nth_from_one}
use Rattle.vod_types.specs.Results.{◌>>◌, unless, Answers}
use Rattle.vod_types.specs.Tracks.{lead_of}
use Rattle.segment_model.specs.Iframes.{sync_rows}
use Rattle.segment_model.specs.Rows.{TimedRow, written_row}
use Rattle.segment_model.specs.Timeline.{TrackRows, rows_of}
use Rattle.media_model.specs.WritingOrder.{TrackRow, of_track, writing_order}
use Rattle.origin_model.specs.Iframes.{alone, checked_iframe}
use Rattle.origin_model.specs.Loaded.{CheckedPiece}
use Rattle.origin_model.specs.Samples.{SegmentPlan, checked_rows, front_fault, greatest_size, in_order, mixed_codecs, sample_fault, segment_plan, segment_rows, sizes_of}
use Rattle.origin_model.proofs.SoundRows.{none_of, sound_row}
use Rattle.vod_plan.specs.declared.spans.PlanPiece.{PlanPiece}
use Rattle.vod_plan.specs.Narrowed.{IsSound}
use Rattle.vod_plan.specs.Planned.{Planned, plan_view}
use Rattle.vod_plan.specs.Ranges.{PlannedPiece, planned_of}
use Rattle.vod_plan.specs.Selected.{rows_planned, ArePiecesOf, AreSamePieces}
use Rattle.vod_plan.specs.Spans.{piece_view, IsPlanPiece}
use Rattle.vod_plan.specs.Wanted.{lone_row, IsNthSync}
use Rattle.vod_plan.proofs.CellLemmas.{planned_lead}
use Rattle.vod_plan.proofs.PieceLemmas.{same_pieces_of}
use Rattle.vod_plan.proofs.RowFaults.{first_of_cons}
use Rattle.vod_plan.proofs.SyncLemmas.{syncs-few}

pub unless_none : (o : Option Refusal) (x : Unit {0}) → unless o ≡ Ok x → o ≡ None
unless_none None x e = refl
unless_none (Some r) x e = absurd cc

pub unless_some : (o : Option Refusal) (r : Refusal) → unless o ≡ Err r → o ≡ Some r
unless_some None r e = absurd cc
unless_some (Some s) r e = cc

module _ (asked : Asked) (pieces : List CheckedPiece) (row : TimedRow) where
  abbrev only : TrackRow
  only = of_track (lead_of asked) (written_row Ts row)

  abbrev fault : Option Refusal
  fault = slice_get (filter_map (sample_fault Ts pieces) (in_order Ts (alone asked pieces row).rows)) 0

  abbrev bytes : ℕ
  bytes = sizes_of (in_order Ts (alone asked pieces row).rows)

  abbrev large : Option Refusal
  large = then_some (nat_lt 2130706432 bytes) (SegmentTooLarge bytes)

  only_by : (lead : Kind) → writing_order (map (written_row Ts) (rows_of lead Video (lone_row row))) (map (written_row Ts) (rows_of lead Audio (lone_row row))) ≡ of_track lead (written_row Ts row) ∷ []
  only_by Video = refl
  only_by Audio = refl

  only_one : in_order Ts (alone asked pieces row).rows ≡ only ∷ []
  unfolding segment_plan segment_rows
  only_one = only_by (lead_of asked)

  first_none : (o : Option Refusal) → option_or o (let none : Option Refusal = None in none) ≡ None → o ≡ None
  first_none None e = refl
  first_none (Some r) e = absurd cc

  sound_only : fault ≡ None → sample_fault Ts pieces only ≡ None
  sound_only none = first_none (sample_fault Ts pieces only) (sym (first_of_cons (sample_fault Ts pieces only) []) ∙ ap (λ (rows : List TrackRow). slice_get (filter_map (sample_fault Ts pieces) rows) 0) (sym only_one) ∙ none)

  low_size : (kind : Kind) → greatest_size Ts kind ≤ 16777216
  low_size Video = omega arith
  low_size Audio = omega arith

  small : fault ≡ None → large ≡ None
  small none =
      let size = (sound_row Ts pieces only (sound_only none)).0.size in
      let sum : bytes ≡ only.row.sample.size + 0 = ap sizes_of only_one ∙ sum_by-cons (λ (r : TrackRow). r.row.sample.size) only [] in
      let few : bytes ≤ 2130706432 = omega (arith, sum, size, low_size (lead_of asked)) in
      ap (λ b. then_some b (SegmentTooLarge bytes)) (le-ltb 2130706432 bytes few)

  -- its bytes are never too many
  same_plan : (o : Option Refusal) → fault ≡ o → (unless o >> (unless large >> Ok (alone asked pieces row))) ≡ (unless o >> Ok (alone asked pieces row))
  same_plan None e = ap (λ (o : Option Refusal). unless o >> Ok (alone asked pieces row)) (small e)
  same_plan (Some r) e = refl

  module _ (number : ℕ) (rows : TrackRows) (front : front_fault number Ts pieces rows ≡ None) where
    one_codec : mixed_codecs Ts pieces ≡ None
    unfolding front_fault
    one_codec = (none_of _ (mixed_codecs Ts pieces) _ front).0

    only_front : front_fault number Ts pieces (lone_row row) ≡ None
    unfolding front_fault
    only_front = ap (λ (o : Option Refusal). option_or o (let none : Option Refusal = None in none)) one_codec

    checked_only : checked_rows number Ts asked pieces (lone_row row) ≡ (unless fault >> Ok (alone asked pieces row))
    unfolding checked_rows
    checked_only = ap (λ (o : Option Refusal). unless o >> (unless fault >> (unless large >> Ok (alone asked pieces row)))) only_front ∙ same_plan fault refl

    -- the I-frame of an index is checked as the only row
    pub iframe_is : (index : ℕ) → nth_from_one (sync_rows rows.lead) index ≡ Some row → checked_iframe number index asked pieces rows ≡ checked_rows number Ts asked pieces (lone_row row)
    unfolding checked_iframe
    iframe_is index at = rw (front, at) (sym checked_only)

module _ (asked : Asked) (pieces : List CheckedPiece) (number index : ℕ) (rows : TrackRows) where
  pub iframe_none : front_fault number Ts pieces rows ≡ None → nth_from_one (sync_rows rows.lead) index ≡ None → checked_iframe number index asked pieces rows ≡ Err (refusals.NoIframe index (length (sync_rows rows.lead)))
  unfolding checked_iframe
  iframe_none front none = rw (front, none) refl

  pub iframe_front : (e : Refusal) → front_fault number Ts pieces rows ≡ Some e → checked_iframe number index asked pieces rows ≡ Err e
  unfolding checked_iframe
  iframe_front e front = rw front refl

-- ---- the sync rows of pieces

pub syncs_low : (leads : Kind) (old : List PlannedPiece) (have : ℕ) → length (rows_planned leads old).lead ≤ 200000 → have ≡ length (sync_rows (planned_of leads old)) → have ≤ 200000
syncs_low leads old have few count =
    let led = ap (λ (rows : List TimedRow). length rows) (planned_lead leads old) in
    omega (arith, few, count, led, syncs-few (planned_of leads old))

pub sound_pieces : (ps : List PlanPiece) → All IsSound ps → All IsPlanPiece ps
sound_pieces ps all = λ i p lt. (all i p lt).piece

-- ---- over pieces

module _ (number index : ℕ) (asked : Asked) (cs : List CheckedPiece) (ps : List PlanPiece) (are : ArePiecesOf cs ps) where
  abbrev rows_of_all : List PlanPiece → TrackRows
  rows_of_all qs = rows_planned (lead_of asked) (map piece_view qs)

  abbrev Front : List PlanPiece → Result (Unit {0}) Refusal → Type 0
  Front now r = ArePiecesOf cs now → unless (front_fault number Ts cs (rows_of_all now)) ≡ r

  front_here : (now : List PlanPiece) (r : Result (Unit {0}) Refusal) → now ≡ ps → Front now r → unless (front_fault number Ts cs (rows_of_all ps)) ≡ r
  front_here now r same front = subst (λ (qs : List PlanPiece). Front qs r) same front are

  pub alone_refused : (now : List PlanPiece) (e : Refusal) → now ≡ ps → Front now (Err e) → checked_iframe number index asked cs (rows_of_all ps) ≡ Err e
  alone_refused now e same front = iframe_front asked cs number index (rows_of_all ps) e (unless_some _ e (front_here now (Err e) same front))

  module _ (now shown : List PlanPiece) (leads : Kind) (x : Unit {0}) (same : now ≡ ps) (seen : shown ≡ ps) (led : leads ≡ lead_of asked) (front : Front now (Ok x)) where
    no_front : front_fault number Ts cs (rows_of_all ps) ≡ None
    no_front = unless_none _ x (front_here now (Ok x) same front)

    lead_rows : (rows_planned leads (map piece_view shown)).lead ≡ (rows_of_all ps).lead
    lead_rows = ap₂ (λ (kind : Kind) (qs : List PlanPiece). (rows_planned kind (map piece_view qs)).lead) led seen

    pub alone_unfound : (e : Refusal) → nth_from_one (sync_rows (rows_planned leads (map piece_view shown)).lead) index ≡ None → e ≡ refusals.NoIframe index (length (sync_rows (rows_planned leads (map piece_view shown)).lead))
        → checked_iframe number index asked cs (rows_of_all ps) ≡ Err e
    alone_unfound e none is =
        iframe_none asked cs number index (rows_of_all ps) no_front (ap (λ (rows : List TimedRow). nth_from_one (sync_rows rows) index) (sym lead_rows) ∙ none)
        ∙ ap (λ (n : ℕ). Err (refusals.NoIframe index n)) (ap (λ (rows : List TimedRow). length (sync_rows rows)) (sym lead_rows)) ∙ ap (λ (e : Refusal). Err e) (sym is)

    pub alone_found : (new : List PlanPiece) (r : Result Planned Refusal) → IsNthSync (rows_planned leads (map piece_view shown)).lead index (rows_planned leads (map piece_view new)) → AreSamePieces shown new
        → (ArePiecesOf cs new → Answers plan_view r (checked_rows number Ts asked cs (rows_of_all new))) → Answers plan_view r (checked_iframe number index asked cs (rows_of_all ps))
    alone_found new r found kept answers =
        let row = found.0 in
        let at : nth_from_one (sync_rows (rows_of_all ps).lead) index ≡ Some row = ap (λ (rows : List TimedRow). nth_from_one (sync_rows rows) index) (sym lead_rows) ∙ found.1 in
        let only : rows_of_all new ≡ lone_row row = ap (λ (kind : Kind). rows_planned kind (map piece_view new)) (sym led) ∙ found.2 in
        subst (λ (due : Result SegmentPlan Refusal). Answers plan_view r due)
        (ap (λ (rows : TrackRows). checked_rows number Ts asked cs rows) only ∙ sym (iframe_is asked cs row number (rows_of_all ps) no_front index at))
        (answers (same_pieces_of cs ps new are (subst (λ (qs : List PlanPiece). AreSamePieces qs new) seen kept)))
