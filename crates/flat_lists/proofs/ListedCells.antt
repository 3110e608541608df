-- The listed segments of a part, found by walking on from cell to cell.
use Rattle.std.proofs.Common.{◌≡◌, ℕ, zero, suc, ◌+◌, ◌-◌, ◌<◌, ◌≤◌, ◌^◌, Bool, true, false, cond, not, ◌&&◌, List, [], ◌∷◌, ◌++◌, length, map, filter, take, drop, ℤ, ◌≤ℤ◌, Option, Some, None, slice_get, slice_range, All, unsigned_abs, refl, sym, ap, ap₂, ◌∙◌, subst, arith, ltb, int_le, length-take, length-drop, append-nil, append_assoc, length-append}
use Rattle.std.specs.Prelude.{unwrap_or, nat_eq, option_map}
use Rattle.std.specs.List.{position, position_or_len, range_with_len}
use Rattle.std.proofs.lemmas.Bool.{lt-ltb}
use Rattle.std.proofs.lemmas.Bool.Decides.{nat_tests}
use Rattle.std.proofs.lemmas.Int.{ints}
use Rattle.std.proofs.Math.Dec.{eqb-suc-zero}
use Rattle.std.proofs.lemmas.List.{map-append, take_all}
use Rattle.std.proofs.lemmas.List.Elements.{All-head, All-tail, filter-append}
use Rattle.vod_types.specs.declared.tracks.Kind.{Kind}
use Rattle.vod_types.specs.declared.tracks.Kind.TheVariants.{Video, Audio}
use Rattle.segment_model.specs.Cut.{cell_reached}
use Rattle.segment_model.specs.Grid.{PartGrid, may_begin}
use Rattle.segment_model.specs.Laws.{PlaceRises}
use Rattle.segment_model.specs.Listing.{ListedSegment, segment_row, first_marked}
use Rattle.segment_model.specs.Lone.{first_row, is_from, is_listed, lone_cell, cell_start, time_of}
use Rattle.segment_model.specs.Rows.{TimedRow, end_of}
use Rattle.segment_model.specs.Timeline.{TrackRows, lead_end}
use Rattle.segment_model.proofs.Boundaries.{first_row_is}
use Rattle.segment_model.proofs.Marks.{seek, seek_rises, seek-le-length}
use Rattle.flat_lists.specs.declared.listed_part.Begin.{Begin}
use Rattle.flat_lists.specs.declared.listed_part.ListedPart.{ListedPart}
use Rattle.vod_types.specs.declared.segments.Listed.{Listed}
use Rattle.flat_samples.specs.declared.samples.TimedSample.{TimedSample}
use Rattle.flat_lists.specs.ListedCells.{slices_view, other_from, counted, row_between, row_time, segment_between}
use Rattle.segment_model.specs.Listing.{listed_view}
use Rattle.flat_lists.specs.Listings.{HasPart}
use Rattle.flat_samples.specs.Rows.{timed_view, IsPlacedRow}
use Rattle.flat_segments.specs.Cells.{part_grid_of}
use Rattle.flat_segments.specs.Cells.{is_past}
use Rattle.flat_samples.proofs.ListViews.{position_or_len-map, unwrap_or-position}

-- ---- a search from an earlier place on

pub skip_first : {X : Type 0} (p : X → Bool) (n : ℕ) (xs : List X) → n ≤ position_or_len p xs → n + position_or_len p (drop n xs) ≡ position_or_len p xs
skip_first p zero xs le = omega arith
skip_first p (suc n) [] le = absurd (omega arith)
skip_first p (suc n) (x ∷ xs) le = step (p x) (position_or_len p xs) (position_or_len p (drop n xs)) (skip_first p n xs) le
  where
    step : (b : Bool) (all later : ℕ) → (n ≤ all → n + later ≡ all) → suc n ≤ cond (not b) (1 + all) 0 → suc n + later ≡ cond (not b) (1 + all) 0
    step true all later h le = absurd (omega arith)
    step false all later h le = omega (arith, h (omega arith))

-- a slice to the end
pub slice_from : {X : Type 0} (n : ℕ) (xs : List X) → take (length xs - n) (drop n xs) ≡ drop n xs
slice_from n xs = take_all (length xs - n) (drop n xs) (omega (arith, length-drop n xs))

pub lead_skipped : (g : PartGrid) (k earlier found : ℕ) (samples later : List TimedSample) → later ≡ drop earlier samples → k < g.cells
    → found ≡ unwrap_or (position (λ s. may_begin g k (timed_view s)) later) (length later)
    → earlier ≤ first_row g (map timed_view samples) k → earlier + found ≡ first_row g (map timed_view samples) k
unfolding first_row
lead_skipped g k earlier found samples later same below is le =
    let here : position_or_len (may_begin g k) (map timed_view samples) ≡ first_row g (map timed_view samples) k =
    sym (ap (λ b. cond b (position_or_len (may_begin g k) (map timed_view samples)) (length (map timed_view samples))) (lt-ltb k g.cells below)) in
    let all = position_or_len-map timed_view (may_begin g k) samples in
    ap (λ n. earlier + n) (is ∙ unwrap_or-position (λ s. may_begin g k (timed_view s)) later ∙ ap (position_or_len (λ s. may_begin g k (timed_view s))) same)
    ∙ skip_first (λ s. may_begin g k (timed_view s)) earlier samples (omega (arith, here, all)) ∙ sym all ∙ here

pub other_skipped : (rows : TrackRows) (i earlier found : ℕ) (bound : Option ℤ) (samples later : List TimedSample) → rows.other ≡ map timed_view samples → later ≡ drop earlier samples
    → ((time : ℤ) → is_past bound time ≡ is_from (slice_get rows.lead i) time)
    → found ≡ position_or_len (λ s. is_past bound s.place) later → earlier ≤ other_from rows i → earlier + found ≡ other_from rows i
other_skipped rows i earlier found bound samples later are same test is le =
    let all : other_from rows i ≡ position_or_len (λ s. is_past bound s.place) samples =
    ap (position_or_len (λ r. is_from (slice_get rows.lead i) r.place)) are ∙ position_or_len-map timed_view (λ r. is_from (slice_get rows.lead i) r.place) samples
    ∙ agree samples in
    ap (λ n. earlier + n) (is ∙ ap (position_or_len (λ s. is_past bound s.place)) same)
    ∙ skip_first (λ s. is_past bound s.place) earlier samples (omega (arith, all)) ∙ sym all
  where
    agree : (ss : List TimedSample) → position_or_len (λ s. is_from (slice_get rows.lead i) (timed_view s).place) ss ≡ position_or_len (λ s. is_past bound s.place) ss
    agree [] = refl
    agree (s ∷ ss) = ap₂ (λ b n. cond (not b) (1 + n) 0) (sym (test s.place)) (agree ss)

-- ---- the end of the lead track is a small time

pub end_small : (start : ℤ) (rows : List TimedRow) → unsigned_abs start ≤ 2 ^ 43 → All IsPlacedRow rows → unsigned_abs (lead_end start rows) ≤ 2 ^ 43
end_small start [] h all = h
end_small start (r ∷ rs) h all = end_small (end_of r) rs (one r (All-head IsPlacedRow r rs all)) (All-tail IsPlacedRow r rs all)
  where
    one : (r : TimedRow) → IsPlacedRow r → unsigned_abs (end_of r) ≤ 2 ^ 43
    one r placed = (let p = placed.place in let d = placed.duration in grind (arith, ints))

pub time_is : (end : ℤ) (o : Option TimedRow) → unwrap_or (option_map (λ r. r.place) o) end ≡ time_of end o
time_is end None = refl
time_is end (Some r) = refl

time_small : (end : ℤ) (rows : List TimedRow) (i : ℕ) → unsigned_abs end ≤ 2 ^ 43 → All IsPlacedRow rows → unsigned_abs (time_of end (slice_get rows i)) ≤ 2 ^ 43
time_small end [] i h all = h
time_small end (r ∷ rs) zero h all = let place = (All-head IsPlacedRow r rs all).place in omega (arith, place)
time_small end (r ∷ rs) (suc i) h all = time_small end rs i h (All-tail IsPlacedRow r rs all)

pub row_time_small : (start : ℤ) (rows : TrackRows) (i : ℕ) → unsigned_abs start ≤ 2 ^ 41 → All IsPlacedRow rows.lead → unsigned_abs (row_time start rows i) ≤ 2 ^ 43
row_time_small start rows i h all = time_small (lead_end start rows.lead) rows.lead i (end_small start rows.lead (omega (arith, h)) all) all

-- ---- cells begin one after another

-- a later row is behind every time that an earlier one is behind
pub from_earlier : (s : ℤ) (lead : List TimedRow) (i j : ℕ) (time : ℤ) → PlaceRises s lead → i ≤ j → is_from (slice_get lead j) time ≡ true → is_from (slice_get lead i) time ≡ true
from_earlier s [] i j time rises le h = absurd cc
from_earlier s (r ∷ rs) zero zero time rises le h = h
from_earlier s (r ∷ rs) zero (suc j) time rises le h = first r.place rs j rises.1 h
  where
    first : (t : ℤ) (rs : List TimedRow) (j : ℕ) → PlaceRises t rs → is_from (slice_get rs j) time ≡ true → int_le t time ≡ true
    first t [] j rises h = absurd cc
    first t (r ∷ rs) zero rises h = (let le = rises.0 in grind (arith, ints))
    first t (r ∷ rs) (suc j) rises h = (let le = rises.0 in let later = first r.place rs j rises.1 h in grind (arith, ints))
from_earlier s (r ∷ rs) (suc i) zero time rises le h = absurd (omega arith)
from_earlier s (r ∷ rs) (suc i) (suc j) time rises le h = from_earlier r.place rs i j time rises.1 (omega arith) h

-- a search for what holds earlier ends no later
pub position_le : {X : Type 0} (p q : X → Bool) → ((x : X) → q x ≡ true → p x ≡ true) → (xs : List X) → position_or_len p xs ≤ position_or_len q xs
position_le p q h [] = omega arith
position_le p q h (x ∷ xs) = step (p x) (q x) (h x) (position_or_len p xs) (position_or_len q xs) (position_le p q h xs)
  where
    step : (b c : Bool) → (c ≡ true → b ≡ true) → (m n : ℕ) → m ≤ n → cond (not b) (1 + m) 0 ≤ cond (not c) (1 + n) 0
    step true c h m n le = omega arith
    step false true h m n le = absurd (let no : false ≡ true = h refl in cc)
    step false false h m n le = omega (arith, le)

-- ---- the rows of a cell by where it begins

-- where a row that isn't before a time stands first, the others aren't either
none_before : (o : Option TimedRow) (s : ℤ) (rows : List TimedRow) → PlaceRises s rows → is_from o s ≡ true → position_or_len (λ r. is_from o r.place) rows ≡ 0
none_before o s [] rises h = refl
none_before o s (r ∷ rs) rises h = ap (λ b. cond (not b) (1 + position_or_len (λ r. is_from o r.place) rs) 0) (rising o rises.0 h)
  where
    rising : (o : Option TimedRow) → s ≤ℤ r.place → is_from o s ≡ true → is_from o r.place ≡ true
    rising None le h = absurd cc
    rising (Some first) le h = grind (arith, ints)

pub count_between : (o p : Option TimedRow) → ((time : ℤ) → is_from p time ≡ true → is_from o time ≡ true) → (s : ℤ) (rows : List TimedRow) → PlaceRises s rows
    → length (filter (λ r. is_from o r.place && not (is_from p r.place)) rows) ≡ position_or_len (λ r. is_from p r.place) rows - position_or_len (λ r. is_from o r.place) rows
count_between o p h s [] rises = omega arith
count_between o p h s (r ∷ rs) rises =
    step (is_from o r.place) (is_from p r.place) (h r.place) (position_or_len (λ r. is_from o r.place) rs) (position_or_len (λ r. is_from p r.place) rs)
    (none_before o r.place rs rises.1) (none_before p r.place rs rises.1) (filter (λ r. is_from o r.place && not (is_from p r.place)) rs) (count_between o p h r.place rs rises.1)
  where
    step : (a b : Bool) → (b ≡ true → a ≡ true) → (m n : ℕ) → (a ≡ true → m ≡ 0) → (b ≡ true → n ≡ 0) → (rest : List TimedRow) → length rest ≡ n - m
        → length (cond (a && not b) (r ∷ rest) rest) ≡ cond (not b) (1 + n) 0 - cond (not a) (1 + m) 0
    step true true h m n first last rest e = omega (arith, first refl, last refl, e)
    step true false h m n first last rest e = omega (arith, first refl, e)
    step false true h m n first last rest e = absurd (let no : false ≡ true = h refl in cc)
    step false false h m n first last rest e = omega (arith, e)

-- ---- from cell to cell

abbrev pub marked_as : Bool → ListedSegment → ListedSegment
marked_as first l = (record l.0 { first_in_part = first }, l.1, l.2)

pub counted_is : (leads : Kind) (part number : ℕ) (start end : ℤ) (first : Bool) (cell : TrackRows) (m n : ℕ) → length cell.lead ≡ m → length cell.other ≡ n
    → counted leads (row_between part number start end first) m n ≡ marked_as first (segment_row leads part number start end cell)
counted_is Video part number start end first cell m n lead other = ap₂ (λ m n. (row_between part number start end first, m, n)) (sym lead) (sym other)
counted_is Audio part number start end first cell m n lead other = ap₂ (λ m n. (row_between part number start end first, n, m)) (sym lead) (sym other)

-- one more is marked where it is the first
first_marked_more : (ls : List ListedSegment) (l : ListedSegment) → first_marked (ls ++ marked_as false l ∷ []) ≡ first_marked ls ++ marked_as (nat_eq (length ls) 0) l ∷ []
first_marked_more [] l = refl
first_marked_more (x ∷ xs) l = ap (λ b. marked_as true x ∷ (xs ++ marked_as b l ∷ [])) (sym (eqb-suc-zero (length xs)))

length-first_marked : (ls : List ListedSegment) → length (first_marked ls) ≡ length ls
length-first_marked [] = refl
length-first_marked (x ∷ xs) = refl

range_more : (a n : ℕ) → range_with_len a (n + 1) ≡ range_with_len a n ++ (a + n) ∷ []
range_more a zero = ap (λ k. k ∷ []) (let none : a ≡ a + 0 = omega arith in none)
range_more a (suc n) =
    ap (range_with_len a) (let more : suc n + 1 ≡ suc (n + 1) = omega arith in more)
    ∙ ap (λ ks. a ∷ ks) (range_more (a + 1) n ∙ ap (λ k. range_with_len (a + 1) n ++ k ∷ []) (let same : a + 1 + n ≡ a + suc n = omega arith in same))

-- where a cell begins
pub record IsBegin (g : PartGrid) (rows : TrackRows) (k : ℕ) (b : Begin) : Type 0 where
  pub lead : b.lead ≡ first_row g rows.lead k
  pub other : b.other ≡ other_from rows (first_row g rows.lead k)

module _ (g : PartGrid) (rows : TrackRows) where
  pub lead_order : (k : ℕ) → k < g.cells → first_row g rows.lead k ≤ first_row g rows.lead (k + 1)
  lead_order k below =
      let here : first_row g rows.lead k ≡ seek (cell_reached g) 0 k rows.lead = first_row_is g k rows.lead (omega arith) in
      let next : first_row g rows.lead (suc k) ≡ seek (cell_reached g) 0 (suc k) rows.lead = first_row_is g (suc k) rows.lead (omega arith) in
      let same : first_row g rows.lead (k + 1) ≡ first_row g rows.lead (suc k) = ap (first_row g rows.lead) (let one : k + 1 ≡ suc k = omega arith in one) in
      omega (arith, seek_rises (cell_reached g) 0 k rows.lead)

  lead_within : (k : ℕ) → k ≤ g.cells → first_row g rows.lead k ≤ length rows.lead
  lead_within k below = omega (arith, first_row_is g k rows.lead below, seek-le-length (cell_reached g) 0 k rows.lead)

  other_order : (s : ℤ) → PlaceRises s rows.lead → (i j : ℕ) → i ≤ j → other_from rows i ≤ other_from rows j
  other_order s rises i j le =
      position_le (λ r. is_from (slice_get rows.lead i) r.place) (λ r. is_from (slice_get rows.lead j) r.place) (λ r h. from_earlier s rows.lead i j r.place rises le h) rows.other

  pub next_begin : (s : ℤ) → PlaceRises s rows.lead → (k : ℕ) → k < g.cells → (from next : Begin) → IsBegin g rows k from
      → (from.lead ≤ first_row g rows.lead (k + 1) → next.lead ≡ first_row g rows.lead (k + 1)) → (from.other ≤ other_from rows next.lead → next.other ≡ other_from rows next.lead)
      → IsBegin g rows (k + 1) next
  next_begin s rises k below from next is lead other =
      let found = lead (omega (arith, is.lead, lead_order k below)) in
      let order = other_order s rises (first_row g rows.lead k) (first_row g rows.lead (k + 1)) (lead_order k below) in
      let same = ap (other_from rows) found in
      record { lead = found; other = other (omega (arith, is.other, order, same)) ∙ same }

  module _ (leads : Kind) (part number : ℕ) where
    abbrev pub lone_row : ℕ → ListedSegment
    lone_row k = segment_row leads part (number + k) (cell_start g rows k) (cell_start g rows (suc k)) (lone_cell g rows k)

    -- the listed segments of the first cells
    abbrev pub first_rows : ℕ → List ListedSegment
    first_rows k = first_marked (map lone_row (filter (is_listed g rows) (range_with_len 0 k)))

    segment_is : (s : ℤ) → PlaceRises s rows.lead → PlaceRises s rows.other → (k : ℕ) → k < g.cells → (from next : Begin) → IsBegin g rows k from → IsBegin g rows (suc k) next → (first : Bool)
        → segment_between leads part (number + k) g.start rows from next first ≡ marked_as first (lone_row k)
    unfolding cell_start lone_cell
    segment_is s lead_rises other_rises k below from next is later first =
        let i = first_row g rows.lead k in
        let j = first_row g rows.lead (suc k) in
        let range : length (slice_range rows.lead i j) ≡ j - i = simp (length-take, length-drop) (omega (arith, lead_within (suc k) (omega arith))) in
        let order : i ≤ j = subst (λ n. i ≤ first_row g rows.lead n) (let one : k + 1 ≡ suc k = omega arith in one) (lead_order k below) in
        let count = count_between (slice_get rows.lead i) (slice_get rows.lead j) (λ time h. from_earlier s rows.lead i j time lead_rises order h) s rows.other other_rises in
        counted_is leads part (number + k) (row_time g.start rows from.lead) (row_time g.start rows next.lead) first (lone_cell g rows k) (next.lead - from.lead) (next.other - from.other)
        (range ∙ ap₂ (λ m n. m - n) (sym later.lead) (sym is.lead)) (count ∙ ap₂ (λ m n. m - n) (sym later.other) (sym is.other))
        ∙ ap₂ (λ m n. marked_as first (segment_row leads part (number + k) (row_time g.start rows m) (row_time g.start rows n) (lone_cell g rows k))) is.lead later.lead

    rows_more : (k : ℕ) (b : Bool) → b ≡ is_listed g rows k → first_rows (k + 1) ≡ first_rows k ++ cond b (marked_as (nat_eq (length (first_rows k)) 0) (lone_row k) ∷ []) []
    rows_more k b e =
        let ks = range_with_len 0 k in
        ap (λ ns. first_marked (map lone_row (filter (is_listed g rows) ns))) (range_more 0 k ∙ ap (λ n. ks ++ n ∷ []) (let same : 0 + k ≡ k = omega arith in same))
        ∙ ap (λ ns. first_marked (map lone_row ns)) (filter-append (is_listed g rows) ks (k ∷ []))
        ∙ ap first_marked (map-append lone_row (filter (is_listed g rows) ks) (filter (is_listed g rows) (k ∷ [])))
        ∙ ap (λ b. first_marked (map lone_row (filter (is_listed g rows) ks) ++ map lone_row (cond b (k ∷ []) []))) (sym e)
        ∙ by_test b (map lone_row (filter (is_listed g rows) ks))
      where
        by_test : (b : Bool) (ls : List ListedSegment) → first_marked (ls ++ map lone_row (cond b (k ∷ []) [])) ≡ first_marked ls ++ cond b (marked_as (nat_eq (length (first_marked ls)) 0) (lone_row k) ∷ []) []
        by_test true ls = first_marked_more ls (lone_row k) ∙ ap (λ n. first_marked ls ++ marked_as (nat_eq n 0) (lone_row k) ∷ []) (sym (length-first_marked ls))
        by_test false ls = ap first_marked (append-nil ls) ∙ sym (append-nil (first_marked ls))

    pub listed_next : (s : ℤ) → PlaceRises s rows.lead → PlaceRises s rows.other → (k : ℕ) → k < g.cells → (from next : Begin) → IsBegin g rows k from → IsBegin g rows (k + 1) next
        → (others out out_now : List ListedSegment) (count many : ℕ) → count ≡ length others → many ≡ length out → out ≡ others ++ first_rows k
        → out_now ≡ out ++ cond (ltb from.lead next.lead) (segment_between leads part (number + k) g.start rows from next (nat_eq many count) ∷ []) []
        → out_now ≡ others ++ first_rows (k + 1)
    listed_next s lead_rises other_rises k below from next is later others out out_now count many count_is many_is out_is now_is =
        let one : k + 1 ≡ suc k = omega arith in
        let then_is : IsBegin g rows (suc k) next = subst (λ n. IsBegin g rows n next) one later in
        let test : ltb from.lead next.lead ≡ is_listed g rows k = ap₂ ltb is.lead then_is.lead in
        let first : nat_eq many count ≡ nat_eq (length (first_rows k)) 0 =
        ap₂ nat_eq (many_is ∙ ap (λ ls. length ls) out_is ∙ length-append others (first_rows k)) count_is ∙ test_first (length others) (length (first_rows k)) in
        now_is
        ∙ ap₂ (λ ls l. ls ++ cond (ltb from.lead next.lead) (l ∷ []) []) out_is
        (segment_is s lead_rises other_rises k below from next is then_is (nat_eq many count) ∙ ap (λ b. marked_as b (lone_row k)) first)
        ∙ append_assoc others (first_rows k) (cond (ltb from.lead next.lead) (marked_as (nat_eq (length (first_rows k)) 0) (lone_row k) ∷ []) [])
        ∙ ap (λ ls. others ++ ls) (sym (rows_more k (ltb from.lead next.lead) test))
      where
        test_first : (m n : ℕ) → nat_eq (m + n) m ≡ nat_eq n 0
        test_first m n = grind (arith, nat_tests)

-- ---- the loop

-- the segments of the first cells stand behind others, and the next cell begins here
pub record IsListing (p : ListedPart) (before : List Listed) (others k : ℕ) (from : Begin) (out : List Listed) : Type 0 where
  pub lead : from.lead ≤ length p.rows.lead.now
  pub other : from.other ≤ length p.rows.other.now
  pub others_are : others ≡ length before
  pub parts : All HasPart before → All HasPart out
  pub listed : (s : ℤ) → PlaceRises s (slices_view p.rows).lead → PlaceRises s (slices_view p.rows).other
      → IsBegin (part_grid_of p.cells) (slices_view p.rows) k from
      × (map listed_view out ≡ map listed_view before ++ first_rows (part_grid_of p.cells) (slices_view p.rows) p.leads p.part p.number k)
