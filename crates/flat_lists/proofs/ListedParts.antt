-- The listed segments of the parts of a sequence, over the rows of all of their pieces.
use Rattle.std.proofs.Common.{◌≡◌, ℕ, zero, suc, ◌+◌, ◌-◌, ◌<◌, ◌≤◌, Bool, true, false, cond, not, ◌&&◌, List, [], ◌∷◌, ◌++◌, length, map, filter, take, drop, ℤ, pos, None, slice_get, slice_range, refl, sym, ap, ap₂, ◌∙◌, subst, arith, ltb, length-take, length-drop, append-nil, append_assoc, add-suc, take-append-drop, drop-drop, drop-cons, get_or}
use Rattle.std.specs.Prelude.{nat_le, sum}
use Rattle.std.specs.List.{AllByRecursion, position_or_len, range_with_len}
use Rattle.std.proofs.lemmas.Bool.{le-leb, lt-leb}
use Rattle.std.proofs.lemmas.List.{drop-map, take-map, length-map, map-append, take-append-le, take_all, drop_all}
use Rattle.std.proofs.lemmas.List.Elements.{All-drop}
use Rattle.std.proofs.lemmas.List.Sums.{sum_by-cons}
use Rattle.std.proofs.Math.Seq.{drop-append_seam}
use Rattle.vod_types.specs.declared.tracks.Kind.{Kind}
use Rattle.clip_model.specs.declared.Part.{Part}
use Rattle.clip_model.specs.IsTimeline.{Follow}
use Rattle.segment_model.specs.Cut.{listed_from, listed_part}
use Rattle.segment_model.specs.Grid.{SegmentGrid, PartGrid, cell_counts, may_begin, part_grid}
use Rattle.segment_model.specs.Laws.{AreTimelineRows, PlaceRises, behind, all_behind}
use Rattle.segment_model.specs.Listing.{ListedSegment, segment_row, first_marked}
use Rattle.segment_model.specs.Lone.{cell_start, first_row, is_from, is_listed, lone_cell, lone_segments, time_of}
use Rattle.segment_model.specs.Rows.{TimedRow, end_of}
use Rattle.segment_model.specs.Timeline.{SourcePiece, TrackRows, lead_end, placed, selected_lead, selected_other, timeline, timeline_from}
use Rattle.segment_model.proofs.Segments.{listed_one_by_one}
use Rattle.segment_model.proofs.TrackRowsLemmas.{same_rows}
use Rattle.segment_model.proofs.Windows.{position_behind}
use Rattle.flat_samples.specs.declared.samples.TimedSample.{TimedSample}
use Rattle.flat_samples.specs.Rows.{timed_view, ArePlacedRows, IsPlacedRow}
use Rattle.flat_lists.specs.ListedParts.{rows_before, rows_from, part_over}
use Rattle.flat_samples.proofs.ListViews.{position_or_len-map, slice_range-map}
use Rattle.flat_segments.proofs.Places.{follow-order}
use Rattle.flat_lists.proofs.ListedCells.{counted_is, lone_row}

-- ---- rows of pieces, one piece after another

module _ (pick : SourcePiece → List TimedRow) where
  abbrev joined : ℕ → List SourcePiece → List TimedRow
  joined file [] = []
  joined file (p ∷ ps) = map (placed file p.base) (pick p) ++ joined (suc file) ps

  joined-append : (file : ℕ) (ps qs : List SourcePiece) → joined file (ps ++ qs) ≡ joined file ps ++ joined (file + length ps) qs
  joined-append file [] qs = ap (λ n. joined n qs) (let none : file ≡ file + 0 = omega arith in none)
  joined-append file (p ∷ ps) qs =
      ap (λ rows. map (placed file p.base) (pick p) ++ rows) (joined-append (suc file) ps qs ∙ ap (λ n. joined (suc file) ps ++ joined n qs) (let same : suc file + length ps ≡ file + length (p ∷ ps) = omega arith in same))
      ∙ sym (append_assoc (map (placed file p.base) (pick p)) (joined (suc file) ps) (joined (file + length (p ∷ ps)) qs))

  all_rows-append : (test : TimedRow → Bool) (xs ys : List TimedRow) → AllByRecursion (λ r. test r ≡ false) xs → AllByRecursion (λ r. test r ≡ false) ys → AllByRecursion (λ r. test r ≡ false) (xs ++ ys)
  all_rows-append test [] ys h k = k
  all_rows-append test (x ∷ xs) ys h k = (h.0, all_rows-append test xs ys h.1 k)

  -- the rows of pieces before a place
  joined-below : (place file : ℕ) (ps : List SourcePiece) → file + length ps ≤ place → AllByRecursion (λ r. nat_le place r.file ≡ false) (joined file ps)
  joined-below place file [] le = tt
  joined-below place file (p ∷ ps) le =
      all_rows-append (λ r. nat_le place r.file) (map (placed file p.base) (pick p)) (joined (suc file) ps) (own (pick p)) (joined-below place (suc file) ps (omega (arith, le)))
    where
      own : (rows : List TimedRow) → AllByRecursion (λ r. nat_le place r.file ≡ false) (map (placed file p.base) rows)
      own [] = tt
      own (r ∷ rs) = (lt-leb place file (omega (arith, le)), own rs)

  -- the first row of the others
  joined-from : (place file : ℕ) (ps : List SourcePiece) → place ≤ file → position_or_len (λ r. nat_le place r.file) (joined file ps) ≡ 0
  joined-from place file [] le = refl
  joined-from place file (p ∷ ps) le = first (pick p) (joined-from place (suc file) ps (omega (arith, le)))
    where
      first : (rows : List TimedRow) → position_or_len (λ r. nat_le place r.file) (joined (suc file) ps) ≡ 0
          → position_or_len (λ r. nat_le place r.file) (map (placed file p.base) rows ++ joined (suc file) ps) ≡ 0
      first [] later = later
      first (r ∷ rs) later = ap (λ b. cond (not b) (1 + position_or_len (λ r. nat_le place r.file) (map (placed file p.base) rs ++ joined (suc file) ps)) 0) (le-leb place file le)

  joined-place : (file place : ℕ) (ps qs : List SourcePiece) → file + length ps ≡ place → position_or_len (λ r. nat_le place r.file) (joined file (ps ++ qs)) ≡ length (joined file ps)
  joined-place file place ps qs e =
      ap (position_or_len (λ r. nat_le place r.file)) (joined-append file ps qs)
      ∙ position_behind (λ r. nat_le place r.file) (joined file ps) (joined (file + length ps) qs) (joined-below place file ps (omega (arith, e)))
      ∙ ap (λ n. length (joined file ps) + n) (joined-from place (file + length ps) qs (omega (arith, e)))
      ∙ (let none : length (joined file ps) + 0 ≡ length (joined file ps) = omega arith in none)

  joined-front : (file place : ℕ) (ps qs : List SourcePiece) → file + length ps ≡ place → take (position_or_len (λ r. nat_le place r.file) (joined file (ps ++ qs))) (joined file (ps ++ qs)) ≡ joined file ps
  joined-front file place ps qs e =
      ap₂ (λ n rows. take n rows) (joined-place file place ps qs e) (joined-append file ps qs)
      ∙ take-append-le (length (joined file ps)) (joined file ps) (joined (file + length ps) qs) (omega arith) ∙ take_all (length (joined file ps)) (joined file ps) (omega arith)

  joined-back : (file place : ℕ) (ps qs : List SourcePiece) → file + length ps ≡ place → drop (position_or_len (λ r. nat_le place r.file) (joined file (ps ++ qs))) (joined file (ps ++ qs)) ≡ joined place qs
  joined-back file place ps qs e =
      ap₂ (λ n rows. drop n rows) (joined-place file place ps qs e) (joined-append file ps qs)
      ∙ drop-append_seam (joined file ps) (joined (file + length ps) qs) ∙ ap (λ n. joined n qs) e

  joined-behind : (n file : ℕ) (ps : List SourcePiece) → joined (n + file) ps ≡ map (behind n) (joined file ps)
  joined-behind n file [] = refl
  joined-behind n file (p ∷ ps) =
      ap₂ (λ xs ys. xs ++ ys) (own (pick p)) (ap (λ f. joined f ps) (sym (add-suc n file)) ∙ joined-behind n (suc file) ps)
      ∙ sym (map-append (behind n) (map (placed file p.base) (pick p)) (joined (suc file) ps))
    where
      own : (rows : List TimedRow) → map (placed (n + file) p.base) rows ≡ map (behind n) (map (placed file p.base) rows)
      own [] = refl
      own (r ∷ rs) = ap (λ rows. placed (n + file) p.base r ∷ rows) (own rs)

lead_joined : (file : ℕ) (ps : List SourcePiece) → (timeline_from file ps).lead ≡ joined selected_lead file ps
lead_joined file [] = refl
lead_joined file (p ∷ ps) = ap (λ rows. map (placed file p.base) (selected_lead p) ++ rows) (lead_joined (suc file) ps)

other_joined : (file : ℕ) (ps : List SourcePiece) → (timeline_from file ps).other ≡ joined selected_other file ps
other_joined file [] = refl
other_joined file (p ∷ ps) = ap (λ rows. map (placed file p.base) (selected_other p) ++ rows) (other_joined (suc file) ps)

pub timeline-front : (file place : ℕ) (ps qs : List SourcePiece) → file + length ps ≡ place → rows_before place (timeline_from file (ps ++ qs)) ≡ timeline_from file ps
timeline-front file place ps qs e =
    same_rows (rows_before place (timeline_from file (ps ++ qs))) (timeline_from file ps)
    (ap (λ rows. take (position_or_len (λ r. nat_le place r.file) rows) rows) (lead_joined file (ps ++ qs)) ∙ joined-front selected_lead file place ps qs e ∙ sym (lead_joined file ps))
    (ap (λ rows. take (position_or_len (λ r. nat_le place r.file) rows) rows) (other_joined file (ps ++ qs)) ∙ joined-front selected_other file place ps qs e ∙ sym (other_joined file ps))

pub timeline-back : (file place : ℕ) (ps qs : List SourcePiece) → file + length ps ≡ place → rows_from place (timeline_from file (ps ++ qs)) ≡ timeline_from place qs
timeline-back file place ps qs e =
    same_rows (rows_from place (timeline_from file (ps ++ qs))) (timeline_from place qs)
    (ap (λ rows. drop (position_or_len (λ r. nat_le place r.file) rows) rows) (lead_joined file (ps ++ qs)) ∙ joined-back selected_lead file place ps qs e ∙ sym (lead_joined place qs))
    (ap (λ rows. drop (position_or_len (λ r. nat_le place r.file) rows) rows) (other_joined file (ps ++ qs)) ∙ joined-back selected_other file place ps qs e ∙ sym (other_joined place qs))

timeline-behind : (n : ℕ) (ps : List SourcePiece) → timeline_from n ps ≡ all_behind n (timeline ps)
timeline-behind n ps =
    let at : n ≡ n + 0 = omega arith in
    ap (λ f. timeline_from f ps) at
    ∙ same_rows (timeline_from (n + 0) ps) (all_behind n (timeline ps))
    (lead_joined (n + 0) ps ∙ joined-behind selected_lead n 0 ps ∙ ap (map (behind n)) (sym (lead_joined 0 ps)))
    (other_joined (n + 0) ps ∙ joined-behind selected_other n 0 ps ∙ ap (map (behind n)) (sym (other_joined 0 ps)))

-- ---- the places of the pieces don't count for the listed segments

module _ (n : ℕ) where
  time-behind : (end : ℤ) (rows : List TimedRow) (i : ℕ) → time_of end (slice_get (map (behind n) rows) i) ≡ time_of end (slice_get rows i)
  time-behind end [] i = refl
  time-behind end (r ∷ rs) zero = refl
  time-behind end (r ∷ rs) (suc i) = time-behind end rs i

  from-behind : (rows : List TimedRow) (i : ℕ) (time : ℤ) → is_from (slice_get (map (behind n) rows) i) time ≡ is_from (slice_get rows i) time
  from-behind [] i time = refl
  from-behind (r ∷ rs) zero time = refl
  from-behind (r ∷ rs) (suc i) time = from-behind rs i time

  pub end-behind : (start : ℤ) (rows : List TimedRow) → lead_end start (map (behind n) rows) ≡ lead_end start rows
  end-behind start [] = refl
  end-behind start (r ∷ rs) = end-behind (end_of r) rs

  length-filter-behind : (p q : TimedRow → Bool) → ((r : TimedRow) → p (behind n r) ≡ q r) → (rows : List TimedRow) → length (filter p (map (behind n) rows)) ≡ length (filter q rows)
  length-filter-behind p q h [] = refl
  length-filter-behind p q h (r ∷ rs) =
      ap (λ b. length (cond b (behind n r ∷ filter p (map (behind n) rs)) (filter p (map (behind n) rs)))) (h r) ∙ step (q r) (length-filter-behind p q h rs)
    where
      step : (b : Bool) → length (filter p (map (behind n) rs)) ≡ length (filter q rs) → length (cond b (behind n r ∷ filter p (map (behind n) rs)) (filter p (map (behind n) rs))) ≡ length (cond b (r ∷ filter q rs) (filter q rs))
      step true e = ap suc e
      step false e = e

  module _ (g : PartGrid) (rows : TrackRows) where
    pub row-behind : (k : ℕ) → first_row g (map (behind n) rows.lead) k ≡ first_row g rows.lead k
    unfolding first_row
    row-behind k = ap₂ (cond (ltb k g.cells)) (position_or_len-map (behind n) (may_begin g k) rows.lead) (length-map rows.lead (behind n))

    start-behind : (k : ℕ) → cell_start g (all_behind n rows) k ≡ cell_start g rows k
    unfolding cell_start
    start-behind k =
        ap₂ (λ end i. time_of end (slice_get (map (behind n) rows.lead) i)) (end-behind g.start rows.lead) (row-behind k) ∙ time-behind (lead_end g.start rows.lead) rows.lead (first_row g rows.lead k)

    lead-behind : (k : ℕ) → length (lone_cell g (all_behind n rows) k).lead ≡ length (lone_cell g rows k).lead
    unfolding lone_cell
    lead-behind k =
        ap₂ (λ i j. length (slice_range (map (behind n) rows.lead) i j)) (row-behind k) (row-behind (suc k))
        ∙ ap (λ rows. length rows) (sym (slice_range-map (behind n) (first_row g rows.lead k) (first_row g rows.lead (suc k)) rows.lead))
        ∙ length-map (slice_range rows.lead (first_row g rows.lead k) (first_row g rows.lead (suc k))) (behind n)

    other-behind : (k : ℕ) → length (lone_cell g (all_behind n rows) k).other ≡ length (lone_cell g rows k).other
    unfolding lone_cell
    other-behind k =
        let i = first_row g rows.lead k in
        let j = first_row g rows.lead (suc k) in
        ap₂ (λ i j. length (filter (λ r. is_from (slice_get (map (behind n) rows.lead) i) r.place && not (is_from (slice_get (map (behind n) rows.lead) j) r.place)) (map (behind n) rows.other))) (row-behind k) (row-behind (suc k))
        ∙ length-filter-behind (λ r. is_from (slice_get (map (behind n) rows.lead) i) r.place && not (is_from (slice_get (map (behind n) rows.lead) j) r.place))
        (λ r. is_from (slice_get rows.lead i) r.place && not (is_from (slice_get rows.lead j) r.place))
        (λ r. ap₂ (λ a b. a && not b) (from-behind rows.lead i r.place) (from-behind rows.lead j r.place)) rows.other

    module _ (leads : Kind) (part number : ℕ) where
      lone-behind : (k : ℕ) → lone_row g (all_behind n rows) leads part number k ≡ lone_row g rows leads part number k
      lone-behind k =
          ap₂ (λ start end. segment_row leads part (number + k) start end (lone_cell g (all_behind n rows) k)) (start-behind k) (start-behind (suc k))
          ∙ sym (counted_is leads part (number + k) (cell_start g rows k) (cell_start g rows (suc k)) false (lone_cell g (all_behind n rows) k) _ _ (lead-behind k) (other-behind k))
          ∙ counted_is leads part (number + k) (cell_start g rows k) (cell_start g rows (suc k)) false (lone_cell g rows k) _ _ refl refl

      rows-behind : (ks : List ℕ) → map (lone_row g (all_behind n rows) leads part number) (filter (is_listed g (all_behind n rows)) ks) ≡ map (lone_row g rows leads part number) (filter (is_listed g rows) ks)
      rows-behind [] = refl
      rows-behind (k ∷ ks) =
          ap (λ b. map (lone_row g (all_behind n rows) leads part number) (cond b (k ∷ filter (is_listed g (all_behind n rows)) ks) (filter (is_listed g (all_behind n rows)) ks)))
          (ap₂ ltb (row-behind k) (row-behind (suc k)))
          ∙ step (is_listed g rows k) (filter (is_listed g (all_behind n rows)) ks) (filter (is_listed g rows) ks) (rows-behind ks)
        where
          step : (b : Bool) (xs ys : List ℕ) → map (lone_row g (all_behind n rows) leads part number) xs ≡ map (lone_row g rows leads part number) ys
              → map (lone_row g (all_behind n rows) leads part number) (cond b (k ∷ xs) xs) ≡ map (lone_row g rows leads part number) (cond b (k ∷ ys) ys)
          step true xs ys e = ap₂ (λ l ls. l ∷ ls) (lone-behind k) e
          step false xs ys e = e

      pub lone-segments-behind : lone_segments leads part number g (all_behind n rows) ≡ lone_segments leads part number g rows
      lone-segments-behind = ap first_marked (rows-behind (range_with_len 0 g.cells))

-- ---- the samples of a piece on

pub front-view : (place n : ℕ) (samples front : List TimedSample) → n ≡ position_or_len (λ s. nat_le place s.file) samples → front ≡ take n samples
    → map timed_view front ≡ take (position_or_len (λ r. nat_le place r.file) (map timed_view samples)) (map timed_view samples)
front-view place n samples front n_is front_is =
    ap (map timed_view) front_is ∙ sym (take-map timed_view n samples) ∙ ap (λ n. take n (map timed_view samples)) (n_is ∙ sym (position_or_len-map timed_view (λ r. nat_le place r.file) samples))

pub back-view : (place n : ℕ) (samples back : List TimedSample) → n ≡ position_or_len (λ s. nat_le place s.file) samples → back ≡ drop n samples
    → map timed_view back ≡ drop (position_or_len (λ r. nat_le place r.file) (map timed_view samples)) (map timed_view samples)
back-view place n samples back n_is back_is =
    ap (map timed_view) back_is ∙ sym (drop-map timed_view n samples) ∙ ap (λ n. drop n (map timed_view samples)) (n_is ∙ sym (position_or_len-map timed_view (λ r. nat_le place r.file) samples))

-- ---- from part to part

rises-behind : (n : ℕ) (s : ℤ) (rows : List TimedRow) → PlaceRises s rows → PlaceRises s (map (behind n) rows)
rises-behind n s [] h = tt
rises-behind n s (r ∷ rs) h = (h.0, rises-behind n r.place rs h.1)

-- no part
abbrev pub no_part : Part
no_part = record { start = pos 0; length_ms = None; first = 0; count = 0 }

-- how a part is cut into so many cells
abbrev pub grid_with : SegmentGrid → Bool → Part → ℕ → PartGrid
grid_with grid align part cells = record { grid = grid; align = align; start = part.start; cells = cells }

-- What is left of the parts: their rows, the numbers of their cells, and what is listed for them.
pub record IsRest (grid : SegmentGrid) (align : Bool) (leads : Kind) (pieces : List SourcePiece) (left : List Part) (counts : List ℕ) (place number : ℕ) (rest : TrackRows) (out due : List ListedSegment) : Type 0 where
  pub at : ℕ
  pub follow : Follow at left (length pieces)
  pub rest_is : rest ≡ timeline_from at (drop at pieces)
  pub counts_left : counts ≡ cell_counts grid align (map (part_over pieces) left)
  pub all : out ++ listed_from leads grid align (suc place) number (map (part_over pieces) left) ≡ due

module _ (grid : SegmentGrid) (align : Bool) (leads : Kind) (pieces : List SourcePiece) where
  pub rest_none : (left : List Part) (counts : List ℕ) (place number : ℕ) (rest : TrackRows) (out due : List ListedSegment) → left ≡ [] → IsRest grid align leads pieces left counts place number rest out due → out ≡ due
  rest_none left counts place number rest out due e is =
      sym (append-nil out) ∙ ap (λ ps. out ++ listed_from leads grid align (suc place) number (map (part_over pieces) ps)) (sym e) ∙ is.all

  module _ (part : Part) (left : List Part) (count : ℕ) (counts : List ℕ) (place number : ℕ) (rest : TrackRows) (out due : List ListedSegment)
      (is : IsRest grid align leads pieces (part ∷ left) (count ∷ counts) place number rest out due) (order : AreTimelineRows (pos 0) (timeline (part_over pieces part).pieces)) where
    abbrev at : ℕ
    at = is.at

    abbrev own_pieces : List SourcePiece
    own_pieces = take part.count (drop at pieces)

    within : at + part.count ≤ length pieces
    within = follow-order (at + part.count) left (length pieces) is.follow.1

    own-length : at + length own_pieces ≡ part.first + part.count
    own-length = let n : length own_pieces ≡ part.count = simp (length-take, length-drop) (omega (arith, within)) in omega (arith, n, is.follow.0)

    both : own_pieces ++ drop part.count (drop at pieces) ≡ drop at pieces
    both = take-append-drop part.count (drop at pieces)

    rest_both : rest ≡ timeline_from at (own_pieces ++ drop part.count (drop at pieces))
    rest_both = is.rest_is ∙ ap (timeline_from at) (sym both)

    pub own_is : rows_before (part.first + part.count) rest ≡ all_behind at (timeline own_pieces)
    own_is = ap (rows_before (part.first + part.count)) rest_both ∙ timeline-front at (part.first + part.count) own_pieces (drop part.count (drop at pieces)) own-length ∙ timeline-behind at own_pieces

    later_is : rows_from (part.first + part.count) rest ≡ timeline_from (at + part.count) (drop (at + part.count) pieces)
    later_is =
        ap (rows_from (part.first + part.count)) rest_both ∙ timeline-back at (part.first + part.count) own_pieces (drop part.count (drop at pieces)) own-length
        ∙ ap₂ timeline_from (let same : part.first + part.count ≡ at + part.count = omega (arith, is.follow.0) in same) (drop-drop part.count at pieces)

    pub pieces_are : (part_over pieces part).pieces ≡ own_pieces
    pieces_are = ap₂ (λ n i. take n (drop i pieces)) (let same : part.first + part.count - part.first ≡ part.count = omega arith in same) is.follow.0

    pub own_order : AreTimelineRows (pos 0) (timeline own_pieces)
    own_order = subst (λ ps. AreTimelineRows (pos 0) (timeline ps)) pieces_are order

    pub grid_is : grid_with grid align part count ≡ part_grid grid align (part_over pieces part)
    grid_is = ap (grid_with grid align part) (let same : count ≡ (part_grid grid align (part_over pieces part)).cells = first_is is.counts_left in same)
      where
        first_is : {m n : ℕ} {ms ns : List ℕ} → m ∷ ms ≡ n ∷ ns → m ≡ n
        first_is e = cc

    listed_is : (own : TrackRows) → own ≡ rows_before (part.first + part.count) rest
        → lone_segments leads (suc place) number (grid_with grid align part count) own ≡ listed_part leads (suc place) number (part_grid grid align (part_over pieces part)) (timeline (part_over pieces part).pieces)
    listed_is own e =
        ap (lone_segments leads (suc place) number (grid_with grid align part count)) (e ∙ own_is)
        ∙ lone-segments-behind at (grid_with grid align part count) (timeline own_pieces) leads (suc place) number
        ∙ sym (listed_one_by_one (grid_with grid align part count) (timeline own_pieces) leads (suc place) number (pos 0) own_order.lead)
        ∙ ap₂ (λ g ps. listed_part leads (suc place) number g (timeline ps)) grid_is (sym pieces_are)

    pub own_lead : (own : TrackRows) → own ≡ rows_before (part.first + part.count) rest → PlaceRises (pos 0) own.lead
    own_lead own e = subst (λ (rows : TrackRows). PlaceRises (pos 0) rows.lead) (sym (e ∙ own_is)) (rises-behind at (pos 0) (timeline own_pieces).lead own_order.lead)

    own_other : (own : TrackRows) → own ≡ rows_before (part.first + part.count) rest → PlaceRises (pos 0) own.other
    own_other own e = subst (λ (rows : TrackRows). PlaceRises (pos 0) rows.other) (sym (e ∙ own_is)) (rises-behind at (pos 0) (timeline own_pieces).other own_order.other)

    pub rest_next : (own later : TrackRows) (out_now : List ListedSegment) → own ≡ rows_before (part.first + part.count) rest → later ≡ rows_from (part.first + part.count) rest
        → ((s : ℤ) → PlaceRises s own.lead → PlaceRises s own.other → out_now ≡ out ++ lone_segments leads (suc place) number (grid_with grid align part count) own)
        → IsRest grid align leads pieces left counts (suc place) (number + count) later out_now due
    rest_next own later out_now own_e later_e now = record {
      at = at + part.count;
      follow = is.follow.1;
      rest_is = later_e ∙ later_is;
      counts_left = others_are is.counts_left;
      all = ap (λ ls. ls ++ listed_from leads grid align (suc (suc place)) (number + count) (map (part_over pieces) left))
          (now (pos 0) (own_lead own own_e) (own_other own own_e) ∙ ap (λ ls. out ++ ls) (listed_is own own_e))
          ∙ append_assoc out (listed_part leads (suc place) number (part_grid grid align (part_over pieces part)) (timeline (part_over pieces part).pieces))
          (listed_from leads grid align (suc (suc place)) (number + count) (map (part_over pieces) left))
          ∙ ap (λ (g : PartGrid). out ++ (listed_part leads (suc place) number (part_grid grid align (part_over pieces part)) (timeline (part_over pieces part).pieces)
          ++ listed_from leads grid align (suc (suc place)) (number + g.cells) (map (part_over pieces) left))) grid_is
          ∙ is.all;
    }
      where
        others_are : {m n : ℕ} {ms ns : List ℕ} → m ∷ ms ≡ n ∷ ns → ms ≡ ns
        others_are e = cc

  -- ---- the loop

  drop_at : {X : Type 0} (xs : List X) (i : ℕ) (d : X) → i < length xs → drop i xs ≡ get_or xs i d ∷ drop (i + 1) xs
  drop_at xs i d lt = drop-cons xs i d lt ∙ ap (λ n. get_or xs i d ∷ drop n xs) (let one : suc i ≡ i + 1 = omega arith in one)

  pub loop_next : (parts : List Part) (counts : List ℕ) (place number : ℕ) (rest own later : TrackRows) (out out_now due : List ListedSegment) (g : PartGrid) → place < length parts → length counts ≡ length parts
      → IsRest grid align leads pieces (drop place parts) (drop place counts) place number rest out due → ((part : Part) → AreTimelineRows (pos 0) (timeline (part_over pieces part).pieces))
      → let part = get_or parts place no_part in let count = get_or counts place 0 in
      g ≡ grid_with grid align part count → own ≡ rows_before (part.first + part.count) rest → later ≡ rows_from (part.first + part.count) rest
      → ((s : ℤ) → PlaceRises s own.lead → PlaceRises s own.other → out_now ≡ out ++ lone_segments leads (place + 1) number g own)
      → IsRest grid align leads pieces (drop (place + 1) parts) (drop (place + 1) counts) (place + 1) (number + count) later out_now due
  loop_next parts counts place number rest own later out out_now due g lt many is order g_is own_is later_is now =
      let part = get_or parts place no_part in
      let count = get_or counts place 0 in
      let one : place + 1 ≡ suc place = omega arith in
      let first = subst (λ ps. IsRest grid align leads pieces ps (drop place counts) place number rest out due) (drop_at parts place no_part lt) is in
      let both = subst (λ ns. IsRest grid align leads pieces (part ∷ drop (place + 1) parts) ns place number rest out due) (drop_at counts place 0 (omega (arith, lt, many))) first in
      subst (λ n. IsRest grid align leads pieces (drop (place + 1) parts) (drop (place + 1) counts) n (number + count) later out_now due) (sym one)
      (rest_next part (drop (place + 1) parts) count (drop (place + 1) counts) place number rest out due both (order part) own later out_now own_is later_is
      (λ s lead other. now s lead other ∙ ap₂ (λ n g. out ++ lone_segments leads n number g own) one g_is))

  pub loop_ended : (parts : List Part) (counts : List ℕ) (place number : ℕ) (rest : TrackRows) (out due : List ListedSegment) → length parts ≤ place
      → IsRest grid align leads pieces (drop place parts) (drop place counts) place number rest out due → out ≡ due
  loop_ended parts counts place number rest out due past is = rest_none (drop place parts) (drop place counts) place number rest out due (drop_all place parts past) is

-- ---- the numbers of the cells

pub sum_left : (counts : List ℕ) (place number all : ℕ) → place < length counts → number + sum (drop place counts) ≡ all
    → (number + get_or counts place 0 + sum (drop (place + 1) counts) ≡ all) × (number + get_or counts place 0 ≤ all)
sum_left counts place number all lt e =
    let left = ap sum (drop-cons counts place 0 lt ∙ ap (λ n. get_or counts place 0 ∷ drop n counts) (let one : suc place ≡ place + 1 = omega arith in one)) in
    let more = sum_by-cons (λ x. x) (get_or counts place 0) (drop (place + 1) counts) in
    (omega (arith, left, more, e), omega (arith, left, more, e))

-- ---- rows with small times

pub placed_from : (place : ℕ) (rows : TrackRows) → ArePlacedRows rows → ArePlacedRows (rows_from place rows)
placed_from place rows h = record { lead = All-drop IsPlacedRow _ rows.lead h.lead; other = All-drop IsPlacedRow _ rows.other h.other }
