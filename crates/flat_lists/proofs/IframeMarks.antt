-- The I-frames of parts, found by walking on from cell to cell.
use Rattle.std.proofs.Common.{◌≡◌, ℕ, suc, ◌+◌, ◌-◌, ◌<◌, ◌≤◌, max, All, Bool, true, false, cond, List, [], ◌∷◌, ◌++◌, length, map, take, drop, ℤ, pos, slice_range, get_or, refl, sym, ap, ap₂, ◌∙◌, subst, arith, append-nil, append_assoc, length-append}
use Rattle.std.specs.List.{flat_map, enumerate_from, range_with_len}
use Rattle.std.proofs.lemmas.List.{drop_more, drop_all, drop-map, take-map, map-append, length-map}
use Rattle.std.proofs.lemmas.List.Elements.{All-drop, All-take}
use Rattle.std.proofs.Math.ListN.{get_or-map}
use Rattle.vod_types.specs.declared.tracks.Kind.TheVariants.{Video}
use Rattle.clip_model.specs.declared.Part.{Part}
use Rattle.segment_model.specs.Cut.{listed_from}
use Rattle.segment_model.specs.Grid.{SegmentGrid, PartGrid, part_grid}
use Rattle.segment_model.specs.Iframes.{PartIframes, sync_rows, segment_iframes, part_iframes, iframes_from, lone_iframes}
use Rattle.segment_model.specs.Laws.{AreTimelineRows, PlaceRises, behind, all_behind}
use Rattle.segment_model.specs.Listing.{ListedSegment}
use Rattle.segment_model.specs.Lone.{first_row, lone_cell, lone_segments}
use Rattle.segment_model.specs.Rows.{TimedRow}
use Rattle.segment_model.specs.Timeline.{SourcePiece, TrackRows, lead_end, timeline}
use Rattle.segment_model.proofs.IframeLemmas.{lone_iframes-is}
use Rattle.segment_model.proofs.OneCut.{one_cut}
use Rattle.flat_samples.specs.declared.samples.TimedSample.{TimedSample}
use Rattle.flat_samples.specs.Rows.{timed_view, IsPlacedRow}
use Rattle.flat_samples.proofs.ListViews.{slice_range-map}
use Rattle.flat_lists.specs.declared.iframe_marks.Mark.{Mark}
use Rattle.flat_lists.specs.ListedParts.{rows_before, rows_from, part_over}
use Rattle.flat_lists.specs.Marks.{mark_at, part_marks, marks_from, cell_marks}
use Rattle.flat_lists.proofs.ListedParts.{IsRest, end-behind, row-behind, own_is, own_lead, pieces_are, own_order, grid_is, grid_with, no_part, rest_next}

-- ---- the samples of a cell

module _ (of : Mark) where
  -- those of sync rows, from an index on
  abbrev pub marks_at : ℕ → List TimedRow → List Mark
  marks_at i synced = map (mark_at of.part of.end) (map (λ (p : ℕ × TimedRow). record { number = of.number; index = p.0; row = p.1 }) (enumerate_from i synced))

  pub marks_next : (b : Bool) (r : TimedRow) (synced : List TimedRow) (others : ℕ) (out out_now due : List Mark) → others ≤ length out
      → out ++ marks_at (length out - others + 1) (cond b (r ∷ synced) synced) ≡ due
      → out_now ≡ out ++ cond b (record of { index = length out - others + 1; start = r.place } ∷ []) []
      → (others ≤ length out_now) × (out_now ++ marks_at (length out_now - others + 1) synced ≡ due)
  marks_next true r synced others out out_now due within was now =
      let m : Mark = record of { index = length out - others + 1; start = r.place } in
      let many : length out_now ≡ length out + 1 = ap (λ (ms : List Mark). length ms) now ∙ length-append out (m ∷ []) in
      let next : length out_now - others + 1 ≡ length out - others + 1 + 1 = omega (arith, many, within) in (
        omega (arith, many, within),
        ap₂ (λ ms i. ms ++ marks_at i synced) now next ∙ append_assoc out (m ∷ []) (marks_at (length out - others + 1 + 1) synced) ∙ was,
      )
  marks_next false r synced others out out_now due within was now =
      let same : out_now ≡ out = now ∙ append-nil out in
      (subst (λ (ms : List Mark). others ≤ length ms) (sym same) within, ap (λ (ms : List Mark). ms ++ marks_at (length ms - others + 1) synced) same ∙ was)

-- ---- the cells of a part

module _ (part : ℕ) (end : ℤ) (number : ℕ) (g : PartGrid) (rows : TrackRows) where
  -- the I-frames of the cells from one on
  abbrev pub cells_from : ℕ → List Mark
  cells_from k = map (mark_at part end) (flat_map (λ j. segment_iframes (number + j, lone_cell g rows j)) (range_with_len k (g.cells - k)))

  pub cells_next : (k : ℕ) → k < g.cells → (own : List TimedRow) → own ≡ (lone_cell g rows k).lead → (out out_now due : List Mark)
      → out ++ cells_from k ≡ due → out_now ≡ out ++ cell_marks (record { part = part; end = end; number = number + k; index = 0; start = pos 0 }) own → out_now ++ cells_from (k + 1) ≡ due
  cells_next k below own own_is out out_now due was now =
      let n = g.cells - (k + 1) in
      let left : g.cells - k ≡ suc n = omega (arith, below) in
      let here = segment_iframes (number + k, lone_cell g rows k) in
      let later = flat_map (λ j. segment_iframes (number + j, lone_cell g rows j)) (range_with_len (k + 1) n) in
      ap (λ (ms : List Mark). ms ++ cells_from (k + 1)) (now ∙ ap (λ (lead : List TimedRow). out ++ map (mark_at part end) (segment_iframes (number + k, record { lead = lead; other = [] }))) own_is)
      ∙ append_assoc out (map (mark_at part end) here) (cells_from (k + 1))
      ∙ ap (λ (ms : List Mark). out ++ ms) (sym (map-append (mark_at part end) here later))
      ∙ ap (λ m. out ++ map (mark_at part end) (flat_map (λ j. segment_iframes (number + j, lone_cell g rows j)) (range_with_len k m))) (sym left)
      ∙ was

  pub cells_ended : (k : ℕ) → g.cells ≤ k → (out due : List Mark) → out ++ cells_from k ≡ due → out ≡ due
  cells_ended k past out due was =
      let none : g.cells - k ≡ 0 = omega (arith, past) in
      sym (append-nil out) ∙ ap (λ m. out ++ map (mark_at part end) (flat_map (λ j. segment_iframes (number + j, lone_cell g rows j)) (range_with_len k m))) (sym none) ∙ was

-- the samples of a cell
pub own_cell : (g : PartGrid) (rows : TrackRows) (samples : List TimedSample) (k from next top : ℕ) → rows.lead ≡ map timed_view samples → from ≡ first_row g rows.lead k → next ≡ first_row g rows.lead (suc k) → from ≤ next → top ≡ max next from
    → map timed_view (take (top - from) (drop from samples)) ≡ (lone_cell g rows k).lead
unfolding lone_cell
own_cell g rows samples k from next top are from_is next_is le top_is =
    let same : top ≡ next = omega (arith, top_is, le) in
    ap (λ n. map timed_view (take (n - from) (drop from samples))) same
    ∙ slice_range-map timed_view from next samples
    ∙ ap (λ lead. slice_range lead from next) (sym are)
    ∙ ap₂ (λ i j. slice_range rows.lead i j) from_is next_is

pub slice_placed : (n from : ℕ) (samples : List TimedSample) → All IsPlacedRow (map timed_view samples) → All IsPlacedRow (map timed_view (take n (drop from samples)))
slice_placed n from samples all =
    subst (λ (rows : List TimedRow). All IsPlacedRow rows) (ap (take n) (drop-map timed_view from samples) ∙ take-map timed_view n (drop from samples))
    (All-take IsPlacedRow n (drop from (map timed_view samples)) (All-drop IsPlacedRow from (map timed_view samples) all))

pub row_placed : (samples : List TimedSample) (i : ℕ) (d : TimedSample) → i < length samples → All IsPlacedRow (map timed_view samples) → IsPlacedRow (timed_view (get_or samples i d))
row_placed samples i d lt all = subst IsPlacedRow (get_or-map timed_view samples i d) (all i (timed_view d) (omega (arith, lt, length-map samples timed_view)))

-- ---- the places of the pieces don't count

module _ (n part : ℕ) (end : ℤ) where
  abbrev numbered : ℕ → ℕ → List TimedRow → List Mark
  numbered number i synced = map (mark_at part end) (map (λ (p : ℕ × TimedRow). record { number = number; index = p.0; row = p.1 }) (enumerate_from i synced))

  synced-behind : (number i : ℕ) (rows : List TimedRow) → numbered number i (sync_rows (map (behind n) rows)) ≡ numbered number i (sync_rows rows)
  synced-behind number i [] = refl
  synced-behind number i (r ∷ rs) = step r.sync (λ j. synced-behind number j rs)
    where
      step : (b : Bool) → ((j : ℕ) → numbered number j (sync_rows (map (behind n) rs)) ≡ numbered number j (sync_rows rs))
          → numbered number i (cond b (behind n r ∷ sync_rows (map (behind n) rs)) (sync_rows (map (behind n) rs))) ≡ numbered number i (cond b (r ∷ sync_rows rs) (sync_rows rs))
      step true later = ap (λ (ms : List Mark). record { part = part; end = end; number = number; index = i; start = r.place } ∷ ms) (later (i + 1))
      step false later = later i

  module _ (number : ℕ) (g : PartGrid) (rows : TrackRows) where
    cell-behind : (k : ℕ) → (lone_cell g (all_behind n rows) k).lead ≡ map (behind n) (lone_cell g rows k).lead
    unfolding lone_cell
    cell-behind k =
        ap₂ (λ i j. slice_range (map (behind n) rows.lead) i j) (row-behind n g rows k) (row-behind n g rows (suc k))
        ∙ sym (slice_range-map (behind n) (first_row g rows.lead k) (first_row g rows.lead (suc k)) rows.lead)

    cells-behind : (ks : List ℕ) → map (mark_at part end) (flat_map (λ j. segment_iframes (number + j, lone_cell g (all_behind n rows) j)) ks) ≡ map (mark_at part end) (flat_map (λ j. segment_iframes (number + j, lone_cell g rows j)) ks)
    cells-behind [] = refl
    cells-behind (k ∷ ks) =
        map-append (mark_at part end) (segment_iframes (number + k, lone_cell g (all_behind n rows) k)) (flat_map (λ j. segment_iframes (number + j, lone_cell g (all_behind n rows) j)) ks)
        ∙ ap₂ (λ (ms later : List Mark). ms ++ later)
        (ap (λ (lead : List TimedRow). map (mark_at part end) (segment_iframes (number + k, record { lead = lead; other = [] }))) (cell-behind k) ∙ synced-behind (number + k) 1 (lone_cell g rows k).lead)
        (cells-behind ks)
        ∙ sym (map-append (mark_at part end) (segment_iframes (number + k, lone_cell g rows k)) (flat_map (λ j. segment_iframes (number + j, lone_cell g rows j)) ks))

    pub lone_iframes-behind : map (mark_at part end) (lone_iframes number g (all_behind n rows)) ≡ map (mark_at part end) (lone_iframes number g rows)
    lone_iframes-behind = cells-behind (range_with_len 0 g.cells)

-- ---- from part to part

-- What is left of the parts: their rows, the numbers of their cells, and their I-frames.
pub record IsLeft (grid : SegmentGrid) (align : Bool) (pieces : List SourcePiece) (left : List Part) (counts : List ℕ) (place number : ℕ) (rest : TrackRows) (out due : List Mark) : Type 0 where
  pub rest_is : IsRest grid align Video pieces left counts place number rest [] (listed_from Video grid align (suc place) number (map (part_over pieces) left))
  pub all : out ++ marks_from (suc place) (iframes_from grid align number (map (part_over pieces) left)) ≡ due

module _ (grid : SegmentGrid) (align : Bool) (pieces : List SourcePiece) where
  module _ (part : Part) (left : List Part) (count : ℕ) (counts : List ℕ) (place number : ℕ) (rest : TrackRows) (out due : List Mark)
      (is : IsLeft grid align pieces (part ∷ left) (count ∷ counts) place number rest out due) (order : AreTimelineRows (pos 0) (timeline (part_over pieces part).pieces)) where
    abbrev all_listed : List ListedSegment
    all_listed = listed_from Video grid align (suc place) number (map (part_over pieces) (part ∷ left))

    abbrev own_part : PartIframes
    own_part = part_iframes number (part_grid grid align (part_over pieces part)) (timeline (part_over pieces part).pieces)

    own_marks : (own : TrackRows) → own ≡ rows_before (part.first + part.count) rest
        → map (mark_at (suc place) (lead_end part.start own.lead)) (lone_iframes number (grid_with grid align part count) own) ≡ part_marks (suc place, own_part)
    own_marks own own_e =
        let at = is.rest_is.at in
        let mine = take part.count (drop at pieces) in
        let g = grid_with grid align part count in
        let own_are : own ≡ all_behind at (timeline mine) = own_e ∙ own_is grid align Video pieces part left count counts place number rest [] all_listed is.rest_is order in
        let rises = own_order grid align Video pieces part left count counts place number rest [] all_listed is.rest_is order in
        ap (λ (rows : TrackRows). map (mark_at (suc place) (lead_end part.start rows.lead)) (lone_iframes number g rows)) own_are
        ∙ ap (λ end. map (mark_at (suc place) end) (lone_iframes number g (all_behind at (timeline mine)))) (end-behind at part.start (timeline mine).lead)
        ∙ lone_iframes-behind at (suc place) (lead_end part.start (timeline mine).lead) number g (timeline mine)
        ∙ ap (map (mark_at (suc place) (lead_end part.start (timeline mine).lead))) (sym (lone_iframes-is g (timeline mine) number (λ k below. one_cut g (pos 0) (timeline mine) rises.lead k below)))
        ∙ ap₂ (λ g ps. part_marks (suc place, part_iframes number g (timeline ps))) (grid_is grid align Video pieces part left count counts place number rest [] all_listed is.rest_is order)
        (sym (pieces_are grid align Video pieces part left count counts place number rest [] all_listed is.rest_is order))

    pub left_next : (own later : TrackRows) (out_now : List Mark) → own ≡ rows_before (part.first + part.count) rest → later ≡ rows_from (part.first + part.count) rest
        → ((s : ℤ) → PlaceRises s own.lead → out_now ≡ out ++ map (mark_at (suc place) (lead_end part.start own.lead)) (lone_iframes number (grid_with grid align part count) own))
        → IsLeft grid align pieces left counts (suc place) (number + count) later out_now due
    left_next own later out_now own_e later_e now =
        let next = rest_next grid align Video pieces part left count counts place number rest [] all_listed is.rest_is order own later (lone_segments Video (suc place) number (grid_with grid align part count) own) own_e later_e (λ s lead other. refl) in
        record {
          rest_is = record { at = next.at; follow = next.follow; rest_is = next.rest_is; counts_left = next.counts_left; all = refl };
          all = ap (λ (ms : List Mark). ms ++ marks_from (suc (suc place)) (iframes_from grid align (number + count) (map (part_over pieces) left)))
              (now (pos 0) (own_lead grid align Video pieces part left count counts place number rest [] all_listed is.rest_is order own own_e) ∙ ap (λ (ms : List Mark). out ++ ms) (own_marks own own_e))
              ∙ append_assoc out (part_marks (suc place, own_part)) (marks_from (suc (suc place)) (iframes_from grid align (number + count) (map (part_over pieces) left)))
              ∙ ap₂ (λ n (g : PartGrid). out ++ (part_marks (suc place, own_part) ++ marks_from n (iframes_from grid align (number + g.cells) (map (part_over pieces) left))))
              (let one : suc (suc place) ≡ suc place + 1 = omega arith in one) (grid_is grid align Video pieces part left count counts place number rest [] all_listed is.rest_is order)
              ∙ is.all;
        }

  -- ---- the loop

  pub left_loop : (parts : List Part) (counts : List ℕ) (place number : ℕ) (rest own later : TrackRows) (out out_now due : List Mark) (g : PartGrid) → place < length parts → length counts ≡ length parts
      → IsLeft grid align pieces (drop place parts) (drop place counts) place number rest out due → ((part : Part) → AreTimelineRows (pos 0) (timeline (part_over pieces part).pieces))
      → let part = get_or parts place no_part in let count = get_or counts place 0 in
      g ≡ grid_with grid align part count → own ≡ rows_before (part.first + part.count) rest → later ≡ rows_from (part.first + part.count) rest
      → ((s : ℤ) → PlaceRises s own.lead → out_now ≡ out ++ map (mark_at (place + 1) (lead_end g.start own.lead)) (lone_iframes number g own))
      → IsLeft grid align pieces (drop (place + 1) parts) (drop (place + 1) counts) (place + 1) (number + count) later out_now due
  left_loop parts counts place number rest own later out out_now due g lt many is order g_is own_e later_e now =
      let part = get_or parts place no_part in
      let count = get_or counts place 0 in
      let one : place + 1 ≡ suc place = omega arith in
      let first = subst (λ ps. IsLeft grid align pieces ps (drop place counts) place number rest out due) (drop_more parts place no_part lt) is in
      let both = subst (λ ns. IsLeft grid align pieces (part ∷ drop (place + 1) parts) ns place number rest out due) (drop_more counts place 0 (omega (arith, lt, many))) first in
      subst (λ n. IsLeft grid align pieces (drop (place + 1) parts) (drop (place + 1) counts) n (number + count) later out_now due) (sym one)
      (left_next part (drop (place + 1) parts) count (drop (place + 1) counts) place number rest out due both (order part) own later out_now own_e later_e
      (λ s lead. now s lead ∙ ap₂ (λ n (g : PartGrid). out ++ map (mark_at n (lead_end g.start own.lead)) (lone_iframes number g own)) one g_is))

  pub left_ended : (parts : List Part) (counts : List ℕ) (place number : ℕ) (rest : TrackRows) (out due : List Mark) → length parts ≤ place
      → IsLeft grid align pieces (drop place parts) (drop place counts) place number rest out due → out ≡ due
  left_ended parts counts place number rest out due past is =
      sym (append-nil out) ∙ ap (λ ps. out ++ marks_from (suc place) (iframes_from grid align number (map (part_over pieces) ps))) (sym (drop_all place parts past)) ∙ is.all
