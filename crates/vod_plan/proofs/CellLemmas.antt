-- The rows of a cell, by the places and times of its first row and of the next cell's.
use Rattle.std.proofs.Common.{◌≡◌, ℕ, zero, suc, ◌+◌, ◌-◌, ◌<◌, ◌≤◌, Bool, cond, not, ◌&&◌, List, [], ◌∷◌, ◌++◌, length, map, get_or, take, drop, ℤ, pos, Option, Some, None, refl, sym, ap, ap₂, ◌∙◌, arith, append_assoc, append-nil}
use Rattle.std.specs.Prelude.{option_map, slice_get, slice_range}
use Rattle.std.specs.List.{position_or_len}
use Rattle.std.specs.Option.{option_map_or}
use Rattle.std.proofs.lemmas.Bool.{lt-ltb, le-ltb}
use Rattle.std.proofs.lemmas.List.{length-map, nil_from_length}
use Rattle.std.proofs.lemmas.List.Elements.{filter_agree}
use Rattle.std.proofs.lemmas.List.Sums.{fold-append}
use Rattle.vod_types.specs.declared.tracks.Kind.{Kind}
use Rattle.vod_types.specs.declared.tracks.Kind.TheVariants.{Video, Audio}
use Rattle.segment_model.specs.Grid.{PartGrid, cell_time, may_begin}
use Rattle.segment_model.specs.Lone.{first_row, is_from, lone_cell}
use Rattle.segment_model.specs.Rows.{TimedRow, end_of}
use Rattle.segment_model.specs.Timeline.{TrackRows, lead_end}
use Rattle.segment_model.proofs.TrackRowsLemmas.{same_rows}
use Rattle.vod_plan.specs.declared.spans.PlanPiece.{PlanPiece}
use Rattle.vod_plan.specs.Narrowed.{between_times, is_after, other_kind}
use Rattle.vod_plan.specs.Ranges.{PlannedPiece, RowRange, planned_of, range_of, range_rows}
use Rattle.vod_plan.specs.Selected.{begins_by, rows_planned}
use Rattle.vod_plan.specs.Spans.{piece_view, rows_in, IsPlanPiece}
use Rattle.vod_plan.proofs.PlaceLemmas.{rest}
use Rattle.vod_plan.proofs.RangeLemmas.{part, part_length, planned_from}
use Rattle.vod_plan.proofs.SoundLemmas.{good_view, view_item}

-- the rows of all pieces, where a kind leads
pub planned_rows : (leads : Kind) (ps : List PlannedPiece) → rows_planned leads ps ≡ record { lead = planned_of leads ps; other = planned_of (other_kind leads) ps }
planned_rows Video ps = refl
planned_rows Audio ps = refl

pub planned_lead : (leads : Kind) (ps : List PlannedPiece) → (rows_planned leads ps).lead ≡ planned_of leads ps
planned_lead leads ps = ap (λ (rows : TrackRows). rows.lead) (planned_rows leads ps)

other_twice : (leads : Kind) → other_kind (other_kind leads) ≡ leads
other_twice Video = refl
other_twice Audio = refl

-- ---- a cell

abbrev place_at : List TimedRow → ℕ → Option ℤ
place_at rows i = option_map (λ r. r.place) (slice_get rows i)

after_is : (o : Option TimedRow) (time : ℤ) → is_after (option_map (λ r. r.place) o) time ≡ is_from o time
after_is None time = refl
after_is (Some r) time = refl

cell_rows : (g : PartGrid) (rows : TrackRows) (k first next : ℕ) (from to : Option ℤ) → first ≡ first_row g rows.lead k → next ≡ first_row g rows.lead (suc k)
    → from ≡ place_at rows.lead first → to ≡ place_at rows.lead next → record { lead = slice_range rows.lead first next; other = between_times from to rows.other } ≡ lone_cell g rows k
unfolding lone_cell
cell_rows g rows k first next from to a b e f =
    let after : (o : Option ℤ) (i j : ℕ) (time : ℤ) → o ≡ place_at rows.lead i → i ≡ j → is_after o time ≡ is_from (slice_get rows.lead j) time
    = λ o i j time is at. ap (λ (t : Option ℤ). is_after t time) (is ∙ ap (place_at rows.lead) at) ∙ after_is (slice_get rows.lead j) time in
    same_rows (record { lead = slice_range rows.lead first next; other = between_times from to rows.other }) (lone_cell g rows k)
    (ap₂ (slice_range rows.lead) a b)
    (filter_agree _ _ (λ r. ap₂ (λ (x y : Bool). x && not y) (after from first (first_row g rows.lead k) r.place e a) (after to next (first_row g rows.lead (suc k)) r.place f b)) rows.other)

-- the first row of a cell, by a search
pub first_is : (g : PartGrid) (k : ℕ) (rows : List TimedRow) (time : ℤ) (n : ℕ) → k < g.cells → time ≡ cell_time g k → n ≡ position_or_len (begins_by g.align time) rows → n ≡ first_row g rows k
unfolding first_row
first_is g k rows time n lt at found =
    found ∙ ap (λ (t : ℤ). position_or_len (begins_by g.align t) rows) at
    ∙ sym (ap (λ (b : Bool). cond b (position_or_len (may_begin g k) rows) (length rows)) (lt-ltb k g.cells lt))

-- behind the last cell it is the part's end
pub end_is : (g : PartGrid) (k : ℕ) (rows : List TimedRow) (n : ℕ) → g.cells ≤ k → n ≡ length rows → n ≡ first_row g rows k
unfolding first_row
end_is g k rows n past count = count ∙ sym (ap (λ (b : Bool). cond b (position_or_len (may_begin g k) rows) (length rows)) (le-ltb k g.cells past))

-- pieces whose lead rows are cut by number, and the other rows then by time
pub cell_is : (g : PartGrid) (leads : Kind) (old mid new : List PlannedPiece) (k first next : ℕ) (from to : Option ℤ)
    → first ≡ first_row g (planned_of leads old) k → next ≡ first_row g (planned_of leads old) (k + 1)
    → from ≡ place_at (planned_of leads old) first → to ≡ place_at (planned_of leads old) next
    → planned_of leads mid ≡ slice_range (planned_of leads old) first next → planned_of (other_kind leads) mid ≡ planned_of (other_kind leads) old
    → planned_of (other_kind leads) new ≡ between_times from to (planned_of (other_kind leads) mid)
    → planned_of (other_kind (other_kind leads)) new ≡ planned_of (other_kind (other_kind leads)) mid
    → rows_planned leads new ≡ lone_cell g (rows_planned leads old) k
cell_is g leads old mid new k first next from to a b e f lead other cut kept =
    let rows : TrackRows = record { lead = planned_of leads old; other = planned_of (other_kind leads) old } in
    let more : k + 1 ≡ suc k = omega arith in
    let led : planned_of leads new ≡ slice_range (planned_of leads old) first next =
    sym (ap (λ (kind : Kind). planned_of kind new) (other_twice leads)) ∙ kept ∙ ap (λ (kind : Kind). planned_of kind mid) (other_twice leads) ∙ lead in
    planned_rows leads new
    ∙ ap₂ (λ (xs ys : List TimedRow). let t : TrackRows = record { lead = xs; other = ys } in t) led (cut ∙ ap (between_times from to) other)
    ∙ cell_rows g rows k first next from to a (b ∙ ap (first_row g (planned_of leads old)) more) e f
    ∙ ap (λ (t : TrackRows). lone_cell g t k) (sym (planned_rows leads old))

-- ---- where the lead ends

module _ (kind : Kind) where
  planned-split : (a i : ℕ) (vs : List PlannedPiece) → i ≤ length vs → planned_from kind a vs ≡ planned_from kind a (take i vs) ++ planned_from kind (a + i) (drop i vs)
  planned-split a zero vs le = ap (λ (n : ℕ). planned_from kind n vs) (let e : a ≡ a + 0 = omega arith in e)
  planned-split a (suc i) [] le = absurd (omega arith)
  planned-split a (suc i) (v ∷ vs) le =
      ap (λ (rows : List TimedRow). part kind a v ++ rows) (planned-split (a + 1) i vs (omega arith))
      ∙ sym (append_assoc (part kind a v) (planned_from kind (a + 1) (take i vs)) (planned_from kind (a + 1 + i) (drop i vs)))
      ∙ ap (λ (n : ℕ). (part kind a v ++ planned_from kind (a + 1) (take i vs)) ++ planned_from kind n (drop i vs)) (let e : a + 1 + i ≡ a + suc i = omega arith in e)

  last_ends : (start : ℤ) (n : ℕ) (rows : List TimedRow) → 0 < length rows → lead_end start rows ≡ lead_end (pos n) rows
  last_ends start n [] some = absurd (omega arith)
  last_ends start n (r ∷ rows) some = refl

  module _ (ps : List PlanPiece) (i : ℕ) (p : PlanPiece) (lt : i < length ps) (is : p ≡ get_or ps i p) (sound : IsPlanPiece p) where
    part_length_is : length (part kind i (piece_view p)) ≡ rows_in kind (piece_view p)
    part_length_is = part_length kind i (piece_view p) (good_view kind p sound)

    -- none stands from a piece without rows on, where none stands behind it
    pub none_from : rows_in kind (piece_view p) ≤ 0 → rest kind (i + 1) ps ≡ [] → rest kind i ps ≡ []
    none_from none later =
        ap (planned_from kind i) (view_item ps i p lt is)
        ∙ ap₂ (λ (xs ys : List TimedRow). xs ++ ys) (nil_from_length (part kind i (piece_view p)) (omega (arith, part_length_is, none))) later

    -- the lead ends with the last row of the last piece that has one
    pub ends_with : (start end : ℤ) → 0 < rows_in kind (piece_view p) → rest kind (i + 1) ps ≡ []
        → ((file n : ℕ) (r : RowRange) → range_of kind (piece_view p) ≡ Some r → end ≡ lead_end (pos n) (range_rows kind file p.base r)) → end ≡ lead_end start (planned_of kind (map piece_view ps))
    ends_with start end some later found =
        let views : List PlannedPiece = map piece_view ps in
        let front : List TimedRow = planned_from kind 0 (take i views) in
        let rows : List TimedRow = part kind i (piece_view p) in
        by_range (range_of kind (piece_view p)) some (found i 0)
        ∙ sym (last_ends (lead_end start front) 0 rows (omega (arith, part_length_is, some)))
        ∙ sym (fold-append (λ (end : ℤ) (r : TimedRow). end_of r) start front rows)
        ∙ ap (lead_end start) (sym (
        planned-split 0 i views (omega (arith, lt, length-map ps piece_view))
        ∙ ap (λ (n : ℕ). front ++ planned_from kind n (drop i views)) (let e : 0 + i ≡ i = omega arith in e)
        ∙ ap (λ (ys : List TimedRow). front ++ ys) (ap (planned_from kind i) (view_item ps i p lt is) ∙ ap (λ (ys : List TimedRow). rows ++ ys) later ∙ append-nil rows)))
      where
        by_range : (o : Option RowRange) → 0 < option_map_or (λ (r : RowRange). r.to - r.from) o 0 → ((r : RowRange) → o ≡ Some r → end ≡ lead_end (pos 0) (range_rows kind i p.base r))
            → end ≡ lead_end (pos 0) (option_map_or (range_rows kind i p.base) o [])
        by_range None some found = absurd (omega arith)
        by_range (Some r) some found = found r refl

-- what was found of the leading kind
pub lead_is : (leads : Kind) (ps : List PlannedPiece) (start end : ℤ) → end ≡ lead_end start (planned_of leads ps) → end ≡ lead_end start (rows_planned leads ps).lead
lead_is leads ps start end e = e ∙ ap (lead_end start) (sym (planned_lead leads ps))
