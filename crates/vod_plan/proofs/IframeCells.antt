-- The I-frames of cells, put behind others one after another.
use Rattle.std.proofs.Common.{◌≡◌, ℕ, zero, suc, ◌+◌, ◌-◌, ◌<◌, ◌≤◌, min, Bool, true, false, not, cond, List, [], ◌∷◌, ◌++◌, length, map, take, drop, slice_get, Option, Some, None, ℤ, refl, sym, ap, ◌∙◌, subst, arith, append-nil, append_assoc, length-append, drop-drop}
use Rattle.std.specs.Prelude.{option_map}
use Rattle.std.specs.List.{flat_map, enumerate_from, range_with_len}
use Rattle.std.proofs.lemmas.List.{drop_all, length-drop, length-map, map-append, take_all}
use Rattle.std.proofs.lemmas.Option.{same_Some}
use Rattle.vod_types.specs.declared.tracks.Kind.{Kind}
use Rattle.segment_model.specs.Grid.{PartGrid}
use Rattle.segment_model.specs.Cut.{cell_reached}
use Rattle.segment_model.specs.Iframes.{Iframe, lone_iframes, sync_rows, segment_iframes}
use Rattle.segment_model.proofs.Boundaries.{first_row_is}
use Rattle.segment_model.proofs.Marks.{seek, seek_rises, seek-le-length}
use Rattle.segment_model.specs.Lone.{first_row, lone_cell}
use Rattle.segment_model.specs.Rows.{TimedRow}
use Rattle.segment_model.specs.Timeline.{TrackRows}
use Rattle.vod_plan.specs.declared.iframe_marks.Mark.{Mark}
use Rattle.vod_plan.specs.declared.iframe_marks.Marks.{Marks}
use Rattle.vod_plan.specs.declared.reach.Reach.{Reach}
use Rattle.vod_plan.specs.declared.spans.PlanPiece.{PlanPiece}
use Rattle.vod_plan.specs.ListingReach.{place_of, IsFront}
use Rattle.vod_plan.specs.Ranges.{planned_of}
use Rattle.vod_plan.specs.Spans.{piece_view}
use Rattle.vod_plan.proofs.PlaceLemmas.{rest_end}
use Rattle.vod_plan.specs.IframeMarks.{cell_marks, first_sync, mark_at, rows_before, AreAdded}
use Rattle.vod_plan.proofs.ListingReaches.{skip_first}

-- ---- the first elements of lists

pub take_front : {X : Type 0} (n : ℕ) (xs ys : List X) → take n (take n xs ++ ys) ≡ take n (xs ++ ys)
take_front zero xs ys = refl
take_front (suc n) [] ys = refl
take_front (suc n) (x ∷ xs) ys = ap (λ zs. x ∷ zs) (take_front n xs ys)

take_full : {X : Type 0} (n : ℕ) (xs ys : List X) → length xs ≡ n → take n (xs ++ ys) ≡ xs
take_full zero [] ys e = refl
take_full zero (x ∷ xs) ys e = absurd (omega (arith, e))
take_full (suc n) [] ys e = absurd (omega (arith, e))
take_full (suc n) (x ∷ xs) ys e = ap (λ zs. x ∷ zs) (take_full n xs ys (omega (arith, e)))

item_behind : {X : Type 0} (n i : ℕ) (xs : List X) → slice_get (drop n xs) i ≡ slice_get xs (n + i)
item_behind zero i xs = ap (slice_get xs) (let e : i ≡ 0 + i = omega arith in e)
item_behind (suc n) i [] = refl
item_behind (suc n) i (x ∷ xs) = item_behind n i xs ∙ ap (slice_get (x ∷ xs)) (let e : suc (n + i) ≡ suc n + i = omega arith in e)

-- ---- one is put behind others

pub kept_more : (m : Mark) (old new : Marks) → length old.kept.items ≡ min old.count 100000 → old.count < 100000 → new.kept.items ≡ old.kept.items ++ m ∷ [] → new.count ≡ old.count + 1 → AreAdded (m ∷ []) old new
kept_more m old new full few kept count = record {
  count = count;
  kept = kept ∙ sym (take_all 100000 (old.kept.items ++ m ∷ []) (let more = length-append old.kept.items (m ∷ []) in omega (arith, more, full, few)));
}

pub kept_same : (m : Mark) (old new : Marks) → length old.kept.items ≡ min old.count 100000 → 100000 ≤ old.count → new.kept.items ≡ old.kept.items → new.count ≡ old.count + 1 → AreAdded (m ∷ []) old new
kept_same m old new full many kept count = record { count = count; kept = kept ∙ sym (take_full 100000 old.kept.items (m ∷ []) (omega (arith, full, many))) }

-- ---- several

-- What is due was put, but for these that are left.
pub record AreLeft (old new : Marks) (left due : List Mark) : Type 0 where
  pub count : new.count + length left ≡ old.count + length due
  pub kept : take 100000 (new.kept.items ++ left) ≡ take 100000 (old.kept.items ++ due)

pub left_begin : (old new : Marks) (due : List Mark) → new ≡ old → AreLeft old new due due
left_begin old new due e = record { count = ap (λ (m : Marks). m.count + length due) e; kept = ap (λ (m : Marks). take 100000 (m.kept.items ++ due)) e }

pub left_same : (old new : Marks) (left other due : List Mark) → left ≡ other → AreLeft old new left due → AreLeft old new other due
left_same old new left other due e is = subst (λ (ms : List Mark). AreLeft old new ms due) e is

pub left_more : (old new now : Marks) (ms left due : List Mark) → AreLeft old new (ms ++ left) due → AreAdded ms new now → AreLeft old now left due
left_more old new now ms left due is added =
    let many = length-append ms left in
    record {
      count = omega (arith, is.count, added.count, many);
      kept = ap (λ (xs : List Mark). take 100000 (xs ++ left)) added.kept ∙ take_front 100000 (new.kept.items ++ ms) left
          ∙ ap (take 100000) (append_assoc new.kept.items ms left) ∙ is.kept;
    }

pub left_none : (old new : Marks) (due : List Mark) → AreLeft old new [] due → length new.kept.items ≡ min new.count 100000 → AreAdded due old new
left_none old new due is full = record {
  count = omega (arith, is.count);
  kept = sym (take_all 100000 new.kept.items (omega (arith, full))) ∙ ap (take 100000) (sym (append-nil new.kept.items)) ∙ is.kept;
}

-- ---- sync rows

sync_skip : (n : ℕ) (xs : List TimedRow) → sync_rows (take n xs) ≡ sync_rows (take (n - first_sync xs) (drop (first_sync xs) xs))
sync_skip zero xs = ap (λ (n : ℕ). sync_rows (take n (drop (first_sync xs) xs))) (let e : 0 ≡ 0 - first_sync xs = omega arith in e)
sync_skip (suc n) [] = ap (λ (i : ℕ). sync_rows (take i (let none : List TimedRow = [] in none))) (let e : suc n ≡ suc n - 0 = omega arith in e)
sync_skip (suc n) (x ∷ xs) = by x.sync refl (sync_skip n xs)
  where
    by : (b : Bool) → x.sync ≡ b → sync_rows (take n xs) ≡ sync_rows (take (n - first_sync xs) (drop (first_sync xs) xs))
        → sync_rows (take (suc n) (x ∷ xs)) ≡ sync_rows (take (suc n - first_sync (x ∷ xs)) (drop (first_sync (x ∷ xs)) (x ∷ xs)))
    by true e later =
        let none : first_sync (x ∷ xs) ≡ 0 = ap (λ (b : Bool). cond (not b) (1 + first_sync xs) 0) e in
        ap (λ (i : ℕ). sync_rows (take i (x ∷ xs))) (let e : suc n ≡ suc n - 0 = omega arith in e) ∙ ap (λ (j : ℕ). sync_rows (take (suc n - j) (drop j (x ∷ xs)))) (sym none)
    by false e later =
        let one : suc (first_sync xs) ≡ first_sync (x ∷ xs) = (let e : suc (first_sync xs) ≡ 1 + first_sync xs = omega arith in e) ∙ ap (λ (b : Bool). cond (not b) (1 + first_sync xs) 0) (sym e) in
        ap (λ (b : Bool). cond b (x ∷ sync_rows (take n xs)) (sync_rows (take n xs))) e
        ∙ later
        ∙ ap (λ (i : ℕ). sync_rows (take i (drop (first_sync xs) xs))) (let e : n - first_sync xs ≡ suc n - suc (first_sync xs) = omega arith in e)
        ∙ ap (λ (j : ℕ). sync_rows (take (suc n - j) (drop j (x ∷ xs)))) one

sync_found : (xs : List TimedRow) → first_sync (drop (first_sync xs) xs) ≡ 0
sync_found [] = refl
sync_found (x ∷ xs) = by x.sync refl (sync_found xs)
  where
    by : (b : Bool) → x.sync ≡ b → first_sync (drop (first_sync xs) xs) ≡ 0 → first_sync (drop (first_sync (x ∷ xs)) (x ∷ xs)) ≡ 0
    by true e later =
        let none : first_sync (x ∷ xs) ≡ 0 = ap (λ (b : Bool). cond (not b) (1 + first_sync xs) 0) e in
        ap (λ (j : ℕ). first_sync (drop j (x ∷ xs))) none ∙ none
    by false e later =
        let one : first_sync (x ∷ xs) ≡ suc (first_sync xs) = ap (λ (b : Bool). cond (not b) (1 + first_sync xs) 0) e ∙ (let e : 1 + first_sync xs ≡ suc (first_sync xs) = omega arith in e) in
        ap (λ (j : ℕ). first_sync (drop j (x ∷ xs))) one ∙ later

sync_step : (n : ℕ) (xs : List TimedRow) (r : TimedRow) → slice_get xs 0 ≡ Some r → first_sync xs ≡ 0 → sync_rows (take (suc n) xs) ≡ r ∷ sync_rows (take n (drop 1 xs))
sync_step n [] r at none = absurd cc
sync_step n (x ∷ xs) r at none = by x.sync refl
  where
    by : (b : Bool) → x.sync ≡ b → sync_rows (take (suc n) (x ∷ xs)) ≡ r ∷ sync_rows (take n (drop 1 (x ∷ xs)))
    by true e =
        ap (λ (b : Bool). cond b (x ∷ sync_rows (take n xs)) (sync_rows (take n xs))) e
        ∙ ap (λ (x : TimedRow). x ∷ sync_rows (take n xs)) (same_Some x r at)
    by false e =
        let some : first_sync (x ∷ xs) ≡ 1 + first_sync xs = ap (λ (b : Bool). cond (not b) (1 + first_sync xs) 0) e in
        absurd (omega (arith, some, none))

-- ---- the I-frames of a cell, from a row on

module _ (lead : List TimedRow) where
  -- the next sync row from a row on is the same from a later row on that isn't behind it
  pub sync_stays : (s t p : ℕ) → p ≡ s + first_sync (drop s lead) → s ≤ t → t ≤ p → p ≡ t + first_sync (drop t lead)
  sync_stays s t p is le within =
      let n = t - s in
      let later = skip_first (λ (r : TimedRow). r.sync) n (drop s lead) (omega (arith, is, le, within)) in
      let same : first_sync (drop n (drop s lead)) ≡ first_sync (drop t lead) = ap first_sync (drop-drop n s lead) ∙ ap (λ (i : ℕ). first_sync (drop i lead)) (let e : s + n ≡ t = omega (arith, le) in e) in
      omega (arith, is, later, same, le)

  pub sync_at : (s p : ℕ) → p ≡ s + first_sync (drop s lead) → first_sync (drop p lead) ≡ 0
  sync_at s p is =
      ap (λ (i : ℕ). first_sync (drop i lead)) is ∙ ap first_sync (sym (drop-drop (first_sync (drop s lead)) s lead)) ∙ sync_found (drop s lead)

  module _ (of : Mark) (to : ℕ) where
    -- those from a place on, the first of which has this index
    abbrev pub marks_at : ℕ → ℕ → List Mark
    marks_at i p = map (mark_at of.part of.end) (map (λ (e : ℕ × TimedRow). record { number = of.number; index = e.0; row = e.1 }) (enumerate_from i (sync_rows (rows_before p to lead))))

    abbrev numbered : ℕ → List TimedRow → List Mark
    numbered i rows = map (mark_at of.part of.end) (map (λ (e : ℕ × TimedRow). record { number = of.number; index = e.0; row = e.1 }) (enumerate_from i rows))

    -- none is before the next sync row
    pub marks_skip : (i s p : ℕ) → p ≡ s + first_sync (drop s lead) → marks_at i s ≡ marks_at i p
    marks_skip i s p is =
        ap (numbered i) (sync_skip (to - s) (drop s lead)
        ∙ ap (λ (xs : List TimedRow). sync_rows (take (to - s - first_sync (drop s lead)) xs)) (drop-drop (first_sync (drop s lead)) s lead)
        ∙ ap (λ (n : ℕ). sync_rows (take n (drop (s + first_sync (drop s lead)) lead))) (let e : to - s - first_sync (drop s lead) ≡ to - (s + first_sync (drop s lead)) = omega arith in e)
        ∙ ap (λ (q : ℕ). sync_rows (take (to - q) (drop q lead))) (sym is))

    pub marks_next : (i p q : ℕ) (r : TimedRow) → p < to → slice_get lead p ≡ Some r → first_sync (drop p lead) ≡ 0 → q ≡ p + 1 + first_sync (drop (p + 1) lead)
        → marks_at i p ≡ record of { index = i; start = r.place } ∷ marks_at (i + 1) q
    marks_next i p q r below at none next =
        let n = to - (p + 1) in
        let here : slice_get (drop p lead) 0 ≡ Some r = item_behind p 0 lead ∙ ap (slice_get lead) (let e : p + 0 ≡ p = omega arith in e) ∙ at in
        let rows : sync_rows (rows_before p to lead) ≡ r ∷ sync_rows (rows_before (p + 1) to lead) =
        ap (λ (m : ℕ). sync_rows (take m (drop p lead))) (let e : to - p ≡ suc n = omega (arith, below) in e)
        ∙ sync_step n (drop p lead) r here none ∙ ap (λ (xs : List TimedRow). r ∷ sync_rows (take n xs)) (drop-drop 1 p lead) in
        ap (numbered i) rows ∙ ap (λ (ms : List Mark). record of { index = i; start = r.place } ∷ ms) (marks_skip (i + 1) (p + 1) q next)

    pub marks_past : (i p : ℕ) → to ≤ p → marks_at i p ≡ []
    marks_past i p past = ap (λ (n : ℕ). numbered i (sync_rows (take n (drop p lead)))) (let e : to - p ≡ 0 = omega (arith, past) in e)

    pub marks_ended : (i p : ℕ) → length lead ≤ p → marks_at i p ≡ []
    marks_ended i p past = ap (λ (xs : List TimedRow). numbered i (sync_rows (take (to - p) xs))) (drop_all p lead past) ∙ none (to - p)
      where
        none : (n : ℕ) → numbered i (sync_rows (take n (let none : List TimedRow = [] in none))) ≡ []
        none zero = refl
        none (suc n) = refl

-- ---- the row that is reached

pub row_there : (start : ℤ) (o : Option TimedRow) → Some start ≡ option_map (λ r. r.place) o → (r : TimedRow) × (o ≡ Some r) × (start ≡ r.place)
row_there start None e = absurd cc
row_there start (Some r) e = (r, refl, same_Some start r.place e)

-- behind the last piece it is behind the last row
pub behind_all : (kind : Kind) (ps : List PlanPiece) (r : Reach) → IsFront kind ps r → length ps ≤ r.piece → length (planned_of kind (map piece_view ps)) ≤ place_of r
behind_all kind ps r front past =
    let all = planned_of kind (map piece_view ps) in
    let none : length (drop r.before all) ≡ 0 = ap (λ (rows : List TimedRow). length rows) (sym front.before ∙ rest_end kind ps r.piece past) in
    omega (arith, none, length-drop r.before all)

-- ---- the cells of a part

module _ (part : ℕ) (end : ℤ) (number : ℕ) (g : PartGrid) (rows : TrackRows) where
  abbrev cells_at : ℕ → ℕ → List Iframe
  cells_at k n = flat_map (λ j. segment_iframes (number + j, lone_cell g rows j)) (range_with_len k n)

  -- the I-frames of the cells from one on
  abbrev pub cells_from : ℕ → List Mark
  cells_from k = map (mark_at part end) (cells_at k (g.cells - k))

  pub cells_next : (k at to index : ℕ) (start : ℤ) → k < g.cells → at ≡ first_row g rows.lead k + first_sync (drop (first_row g rows.lead k) rows.lead) → to ≡ first_row g rows.lead (k + 1)
      → cells_from k ≡ cell_marks (record { part = part; end = end; number = number + k; index = index; start = start }) (rows_before at to rows.lead) ++ cells_from (k + 1)
  unfolding lone_cell
  cells_next k at to index start below at_is to_is =
      let n = g.cells - (k + 1) in
      let of : Mark = record { part = part; end = end; number = number + k; index = index; start = start } in
      let next : first_row g rows.lead (suc k) ≡ to = ap (first_row g rows.lead) (let e : suc k ≡ k + 1 = omega arith in e) ∙ sym to_is in
      ap (λ (m : ℕ). map (mark_at part end) (cells_at k m)) (let e : g.cells - k ≡ suc n = omega (arith, below) in e)
      ∙ map-append (mark_at part end) (segment_iframes (number + k, lone_cell g rows k)) (cells_at (k + 1) n)
      ∙ ap (λ (ms : List Mark). ms ++ cells_from (k + 1))
      (ap (λ (t : ℕ). cell_marks of (rows_before (first_row g rows.lead k) t rows.lead)) next ∙ marks_skip rows.lead of to 1 (first_row g rows.lead k) at at_is)

  pub cells_ended : (k : ℕ) → g.cells ≤ k → cells_from k ≡ []
  cells_ended k past = ap (λ (m : ℕ). map (mark_at part end) (cells_at k m)) (let e : g.cells - k ≡ 0 = omega (arith, past) in e)

  pub cells_count : (due : List Mark) → due ≡ cells_from 0 → length due ≡ length (lone_iframes number g rows)
  cells_count due e = ap (λ (ms : List Mark). length ms) e ∙ length-map (cells_at 0 (g.cells - 0)) (mark_at part end) ∙ ap (λ (m : ℕ). length (cells_at 0 m)) (let e : g.cells - 0 ≡ g.cells = omega arith in e)

  pub cells_all : cells_from 0 ≡ map (mark_at part end) (lone_iframes number g rows)
  cells_all = ap (λ (m : ℕ). map (mark_at part end) (cells_at 0 m)) (let e : g.cells - 0 ≡ g.cells = omega arith in e)

module _ (g : PartGrid) (rows : TrackRows) where
  pub lead_order : (k : ℕ) → k < g.cells → first_row g rows.lead k ≤ first_row g rows.lead (k + 1)
  lead_order k below =
      let here : first_row g rows.lead k ≡ seek (cell_reached g) 0 k rows.lead = first_row_is g k rows.lead (omega arith) in
      let next : first_row g rows.lead (suc k) ≡ seek (cell_reached g) 0 (suc k) rows.lead = first_row_is g (suc k) rows.lead (omega arith) in
      let same : first_row g rows.lead (k + 1) ≡ first_row g rows.lead (suc k) = ap (first_row g rows.lead) (let one : k + 1 ≡ suc k = omega arith in one) in
      omega (arith, here, next, same, seek_rises (cell_reached g) 0 k rows.lead)

  pub lead_within : (k : ℕ) → k ≤ g.cells → first_row g rows.lead k ≤ length rows.lead
  lead_within k below = omega (arith, first_row_is g k rows.lead below, seek-le-length (cell_reached g) 0 k rows.lead)
