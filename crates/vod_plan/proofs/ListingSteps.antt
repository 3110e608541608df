-- The listed segments of a part, found by going on from cell to cell.
use Rattle.std.proofs.Common.{◌≡◌, ℕ, zero, suc, ◌+◌, ◌-◌, ◌*◌, ◌<◌, ◌≤◌, Bool, true, false, cond, not, ◌&&◌, List, [], ◌∷◌, ◌++◌, length, map, filter, All, ℤ, ◌≤ℤ◌, Option, Some, None, slice_get, slice_range, refl, sym, ap, ap₂, ◌∙◌, subst, arith, ltb, int_le, length-take, length-drop, append-nil, append_assoc, length-append}
use Rattle.std.specs.Prelude.{unwrap_or, nat_eq, option_map}
use Rattle.std.specs.List.{position_or_len, range_with_len}
use Rattle.std.proofs.lemmas.Bool.{lt-ltb, le-ltb}
use Rattle.std.proofs.lemmas.Bool.Decides.{nat_tests}
use Rattle.std.proofs.lemmas.Int.{ints}
use Rattle.std.proofs.Math.Dec.{eqb-suc-zero}
use Rattle.std.proofs.lemmas.List.{map-append}
use Rattle.std.proofs.lemmas.List.Elements.{filter-append}
use Rattle.vod_types.specs.declared.segments.Listed.{Listed}
use Rattle.vod_types.specs.declared.tracks.Kind.{Kind}
use Rattle.vod_types.specs.declared.tracks.Kind.TheVariants.{Video, Audio}
use Rattle.segment_model.specs.Cut.{cell_reached}
use Rattle.segment_model.specs.Grid.{PartGrid, cell_time, may_begin}
use Rattle.segment_model.specs.Laws.{PlaceRises}
use Rattle.segment_model.specs.Listing.{ListedSegment, listed_view, segment_row, first_marked}
use Rattle.segment_model.specs.Lone.{first_row, is_from, is_listed, lone_cell, lone_segments, cell_start, time_of}
use Rattle.segment_model.specs.Rows.{TimedRow}
use Rattle.segment_model.specs.Timeline.{TrackRows, lead_end}
use Rattle.segment_model.proofs.Boundaries.{first_row_is}
use Rattle.segment_model.proofs.Marks.{seek, seek_rises, seek-le-length}
use Rattle.seq_cells.specs.Cells.{part_grid_of}
use Rattle.vod_plan.specs.declared.listed_part.CellStart.{CellStart}
use Rattle.vod_plan.specs.declared.listed_part.ListedPart.{ListedPart}
use Rattle.vod_plan.specs.ListingCells.{counted, first_after, other_from, part_rows, row_between, segment_between, AreFronts, HasPart}
use Rattle.vod_plan.specs.ListingReach.{place_of}
use Rattle.vod_plan.specs.Narrowed.{is_after}
use Rattle.vod_plan.specs.Selected.{begins_by}
use Rattle.vod_plan.proofs.CellLemmas.{first_is}

-- ---- later rows

-- a later row is behind every time that an earlier one is behind
from_earlier : (s : ℤ) (lead : List TimedRow) (i j : ℕ) (time : ℤ) → PlaceRises s lead → i ≤ j → is_from (slice_get lead j) time ≡ true → is_from (slice_get lead i) time ≡ true
from_earlier s [] i j time rises le h = absurd cc
from_earlier s (r ∷ rs) zero zero time rises le h = h
from_earlier s (r ∷ rs) zero (suc j) time rises le h = first r.place rs j rises.1 h
  where
    first : (t : ℤ) (rs : List TimedRow) (j : ℕ) → PlaceRises t rs → is_from (slice_get rs j) time ≡ true → int_le t time ≡ true
    first t [] j rises h = absurd cc
    first t (r ∷ rs) zero rises h = (let le = rises.0 in grind (arith, ints))
    first t (r ∷ rs) (suc j) rises h = (let le = rises.0 in let later = first r.place rs j rises.1 h in grind (arith, ints))
from_earlier s (r ∷ rs) (suc i) zero time rises le h = absurd (omega arith)
from_earlier s (r ∷ rs) (suc i) (suc j) time rises le h = from_earlier r.place rs i j time rises.1 (omega arith) h

-- a search for what holds earlier ends no later
position_le : {X : Type 0} (p q : X → Bool) → ((x : X) → q x ≡ true → p x ≡ true) → (xs : List X) → position_or_len p xs ≤ position_or_len q xs
position_le p q h [] = omega arith
position_le p q h (x ∷ xs) = step (p x) (q x) (h x) (position_or_len p xs) (position_or_len q xs) (position_le p q h xs)
  where
    step : (b c : Bool) → (c ≡ true → b ≡ true) → (m n : ℕ) → m ≤ n → cond (not b) (1 + m) 0 ≤ cond (not c) (1 + n) 0
    step true c h m n le = omega arith
    step false true h m n le = absurd (let no : false ≡ true = h refl in cc)
    step false false h m n le = omega (arith, le)

after_is : (o : Option TimedRow) (time : ℤ) → is_after (option_map (λ r. r.place) o) time ≡ is_from o time
after_is None time = refl
after_is (Some r) time = refl

-- by the time of a lead row
pub other_at : (rows : TrackRows) (i : ℕ) (time : Option ℤ) → time ≡ option_map (λ r. r.place) (slice_get rows.lead i) → first_after time rows.other ≡ other_from rows i
other_at rows i time is = ap (λ (t : Option ℤ). first_after t rows.other) is ∙ agree rows.other
  where
    agree : (rs : List TimedRow) → position_or_len (λ r. is_after (option_map (λ (r : TimedRow). r.place) (slice_get rows.lead i)) r.place) rs ≡ position_or_len (λ r. is_from (slice_get rows.lead i) r.place) rs
    agree [] = refl
    agree (r ∷ rs) = ap₂ (λ (b : Bool) (n : ℕ). cond (not b) (1 + n) 0) (after_is (slice_get rows.lead i) r.place) (agree rs)

pub after_none : (rows : List TimedRow) → length rows ≡ first_after None rows
after_none [] = refl
after_none (r ∷ rs) = let later = after_none rs in omega (arith, later)

-- the first lead row of a cell that isn't the part's end, if it isn't before an earlier one
pub lead_found : (g : PartGrid) (rows : List TimedRow) (k : ℕ) (time : ℤ) (earlier n : ℕ) → k < g.cells → time ≡ cell_time g k
    → (earlier ≤ position_or_len (begins_by g.align time) rows → n ≡ position_or_len (begins_by g.align time) rows) → earlier ≤ first_row g rows k → n ≡ first_row g rows k
lead_found g rows k time earlier n below at found le =
    let due = first_is g k rows time (position_or_len (begins_by g.align time) rows) below at refl in
    found (subst (λ (m : ℕ). earlier ≤ m) (sym due) le) ∙ due

-- ---- the rows of a cell by where it begins

-- where a row that isn't before a time stands first, the others aren't either
none_before : (o : Option TimedRow) (s : ℤ) (rows : List TimedRow) → PlaceRises s rows → is_from o s ≡ true → position_or_len (λ r. is_from o r.place) rows ≡ 0
none_before o s [] rises h = refl
none_before o s (r ∷ rs) rises h = ap (λ b. cond (not b) (1 + position_or_len (λ r. is_from o r.place) rs) 0) (rising o rises.0 h)
  where
    rising : (o : Option TimedRow) → s ≤ℤ r.place → is_from o s ≡ true → is_from o r.place ≡ true
    rising None le h = absurd cc
    rising (Some first) le h = grind (arith, ints)

count_between : (o p : Option TimedRow) → ((time : ℤ) → is_from p time ≡ true → is_from o time ≡ true) → (s : ℤ) (rows : List TimedRow) → PlaceRises s rows
    → length (filter (λ r. is_from o r.place && not (is_from p r.place)) rows) ≡ position_or_len (λ r. is_from p r.place) rows - position_or_len (λ r. is_from o r.place) rows
count_between o p h s [] rises = omega arith
count_between o p h s (r ∷ rs) rises =
    step (is_from o r.place) (is_from p r.place) (h r.place) (position_or_len (λ r. is_from o r.place) rs) (position_or_len (λ r. is_from p r.place) rs)
    (none_before o r.place rs rises.1) (none_before p r.place rs rises.1) (filter (λ r. is_from o r.place && not (is_from p r.place)) rs) (count_between o p h r.place rs rises.1)
  where
    step : (a b : Bool) → (b ≡ true → a ≡ true) → (m n : ℕ) → (a ≡ true → m ≡ 0) → (b ≡ true → n ≡ 0) → (rest : List TimedRow) → length rest ≡ n - m
        → length (cond (a && not b) (r ∷ rest) rest) ≡ cond (not b) (1 + n) 0 - cond (not a) (1 + m) 0
    step true true h m n first last rest e = omega (arith, first refl, last refl, e)
    step true false h m n first last rest e = omega (arith, first refl, e)
    step false true h m n first last rest e = absurd (let no : false ≡ true = h refl in cc)
    step false false h m n first last rest e = omega (arith, e)

-- ---- from cell to cell

abbrev pub marked_as : Bool → ListedSegment → ListedSegment
marked_as first l = (record l.0 { first_in_part = first }, l.1, l.2)

counted_is : (leads : Kind) (part number : ℕ) (start end : ℤ) (first : Bool) (cell : TrackRows) (m n : ℕ) → length cell.lead ≡ m → length cell.other ≡ n
    → counted leads (row_between part number start end first) m n ≡ marked_as first (segment_row leads part number start end cell)
counted_is Video part number start end first cell m n lead other = ap₂ (λ m n. (row_between part number start end first, m, n)) (sym lead) (sym other)
counted_is Audio part number start end first cell m n lead other = ap₂ (λ m n. (row_between part number start end first, n, m)) (sym lead) (sym other)

-- one more is marked where it is the first
first_marked_more : (ls : List ListedSegment) (l : ListedSegment) → first_marked (ls ++ marked_as false l ∷ []) ≡ first_marked ls ++ marked_as (nat_eq (length ls) 0) l ∷ []
first_marked_more [] l = refl
first_marked_more (x ∷ xs) l = ap (λ b. marked_as true x ∷ (xs ++ marked_as b l ∷ [])) (sym (eqb-suc-zero (length xs)))

length-first_marked : (ls : List ListedSegment) → length (first_marked ls) ≡ length ls
length-first_marked [] = refl
length-first_marked (x ∷ xs) = refl

range_more : (a n : ℕ) → range_with_len a (n + 1) ≡ range_with_len a n ++ (a + n) ∷ []
range_more a zero = ap (λ k. k ∷ []) (let none : a ≡ a + 0 = omega arith in none)
range_more a (suc n) =
    ap (range_with_len a) (let more : suc n + 1 ≡ suc (n + 1) = omega arith in more)
    ∙ ap (λ ks. a ∷ ks) (range_more (a + 1) n ∙ ap (λ k. range_with_len (a + 1) n ++ k ∷ []) (let same : a + 1 + n ≡ a + suc n = omega arith in same))

time_is : (end : ℤ) (o : Option TimedRow) → unwrap_or (option_map (λ r. r.place) o) end ≡ time_of end o
time_is end None = refl
time_is end (Some r) = refl

-- where a cell begins
pub record IsBegin (g : PartGrid) (rows : TrackRows) (k : ℕ) (b : CellStart) : Type 0 where
  pub lead : place_of b.lead ≡ first_row g rows.lead k
  pub time : b.time ≡ option_map (λ r. r.place) (slice_get rows.lead (place_of b.lead))
  pub other : place_of b.other ≡ other_from rows (first_row g rows.lead k)

module _ (g : PartGrid) (rows : TrackRows) where
  lead_order : (k : ℕ) → k < g.cells → first_row g rows.lead k ≤ first_row g rows.lead (k + 1)
  lead_order k below =
      let here : first_row g rows.lead k ≡ seek (cell_reached g) 0 k rows.lead = first_row_is g k rows.lead (omega arith) in
      let next : first_row g rows.lead (suc k) ≡ seek (cell_reached g) 0 (suc k) rows.lead = first_row_is g (suc k) rows.lead (omega arith) in
      let same : first_row g rows.lead (k + 1) ≡ first_row g rows.lead (suc k) = ap (first_row g rows.lead) (let one : k + 1 ≡ suc k = omega arith in one) in
      omega (arith, seek_rises (cell_reached g) 0 k rows.lead)

  lead_within : (k : ℕ) → k ≤ g.cells → first_row g rows.lead k ≤ length rows.lead
  lead_within k below = omega (arith, first_row_is g k rows.lead below, seek-le-length (cell_reached g) 0 k rows.lead)

  other_order : (s : ℤ) → PlaceRises s rows.lead → (i j : ℕ) → i ≤ j → other_from rows i ≤ other_from rows j
  other_order s rises i j le =
      position_le (λ r. is_from (slice_get rows.lead i) r.place) (λ r. is_from (slice_get rows.lead j) r.place) (λ r h. from_earlier s rows.lead i j r.place rises le h) rows.other

  -- the first one
  pub begin_first : (b first : CellStart) → first.lead.before ≡ 0 → first.other.before ≡ 0 → b.time ≡ option_map (λ r. r.place) (slice_get rows.lead (place_of b.lead))
      → (first.lead.before ≤ first_row g rows.lead 0 → place_of b.lead ≡ first_row g rows.lead 0) → (first.other.before ≤ other_from rows (place_of b.lead) → place_of b.other ≡ other_from rows (place_of b.lead))
      → IsBegin g rows 0 b
  begin_first b first none none_other time lead other =
      let found = lead (omega (arith, none)) in
      record { lead = found; time = time; other = other (omega (arith, none_other)) ∙ ap (other_from rows) found }

  pub next_begin : (s : ℤ) → PlaceRises s rows.lead → (k : ℕ) → k < g.cells → (from next : CellStart) → IsBegin g rows k from
      → next.time ≡ option_map (λ r. r.place) (slice_get rows.lead (place_of next.lead))
      → (from.lead.before ≤ first_row g rows.lead (k + 1) → place_of next.lead ≡ first_row g rows.lead (k + 1)) → (from.other.before ≤ other_from rows (place_of next.lead) → place_of next.other ≡ other_from rows (place_of next.lead))
      → IsBegin g rows (k + 1) next
  next_begin s rises k below from next is time lead other =
      let found = lead (omega (arith, is.lead, lead_order k below)) in
      let order = other_order s rises (first_row g rows.lead k) (first_row g rows.lead (k + 1)) (lead_order k below) in
      let same = ap (other_from rows) found in
      record { lead = found; time = time; other = other (omega (arith, is.other, order, same)) ∙ same }

  row_none : rows.lead ≡ [] → (k : ℕ) → first_row g rows.lead k ≡ 0
  unfolding first_row
  row_none none k = ap (λ (lead : List TimedRow). cond (ltb k g.cells) (position_or_len (may_begin g k) lead) (length lead)) none ∙ either (ltb k g.cells)
    where
      either : (b : Bool) → cond {A = ℕ} b 0 0 ≡ 0
      either true = refl
      either false = refl

  module _ (leads : Kind) (part number : ℕ) where
    abbrev pub lone_row : ℕ → ListedSegment
    lone_row k = segment_row leads part (number + k) (cell_start g rows k) (cell_start g rows (suc k)) (lone_cell g rows k)

    -- the listed segments of the first cells
    abbrev pub first_rows : ℕ → List ListedSegment
    first_rows k = first_marked (map lone_row (filter (is_listed g rows) (range_with_len 0 k)))

    begin_time : (end : ℤ) → end ≡ lead_end g.start rows.lead → (k : ℕ) (b : CellStart) → IsBegin g rows k b → unwrap_or b.time end ≡ cell_start g rows k
    unfolding cell_start
    begin_time end at k b is =
        ap₂ (λ (o : Option ℤ) (e : ℤ). unwrap_or o e) is.time at
        ∙ time_is (lead_end g.start rows.lead) (slice_get rows.lead (place_of b.lead))
        ∙ ap (λ (i : ℕ). time_of (lead_end g.start rows.lead) (slice_get rows.lead i)) is.lead

    segment_is : (s : ℤ) → PlaceRises s rows.lead → PlaceRises s rows.other → (end : ℤ) → end ≡ lead_end g.start rows.lead → (k : ℕ) → k < g.cells → (from next : CellStart) → IsBegin g rows k from → IsBegin g rows (suc k) next
        → (first : Bool) → segment_between leads part (number + k) end from next first ≡ marked_as first (lone_row k)
    unfolding lone_cell
    segment_is s lead_rises other_rises end at k below from next is later first =
        let i = first_row g rows.lead k in
        let j = first_row g rows.lead (suc k) in
        let range : length (slice_range rows.lead i j) ≡ j - i = simp (length-take, length-drop) (omega (arith, lead_within (suc k) (omega arith))) in
        let order : i ≤ j = subst (λ n. i ≤ first_row g rows.lead n) (let one : k + 1 ≡ suc k = omega arith in one) (lead_order k below) in
        let count = count_between (slice_get rows.lead i) (slice_get rows.lead j) (λ time h. from_earlier s rows.lead i j time lead_rises order h) s rows.other other_rises in
        counted_is leads part (number + k) (unwrap_or from.time end) (unwrap_or next.time end) first (lone_cell g rows k) (place_of next.lead - place_of from.lead) (place_of next.other - place_of from.other)
        (range ∙ ap₂ (λ m n. m - n) (sym later.lead) (sym is.lead)) (count ∙ ap₂ (λ m n. m - n) (sym later.other) (sym is.other))
        ∙ ap₂ (λ m n. marked_as first (segment_row leads part (number + k) m n (lone_cell g rows k))) (begin_time end at k from is) (begin_time end at (suc k) next later)

    rows_more : (k : ℕ) (b : Bool) → b ≡ is_listed g rows k → first_rows (k + 1) ≡ first_rows k ++ cond b (marked_as (nat_eq (length (first_rows k)) 0) (lone_row k) ∷ []) []
    rows_more k b e =
        let ks = range_with_len 0 k in
        ap (λ ns. first_marked (map lone_row (filter (is_listed g rows) ns))) (range_more 0 k ∙ ap (λ n. ks ++ n ∷ []) (let same : 0 + k ≡ k = omega arith in same))
        ∙ ap (λ ns. first_marked (map lone_row ns)) (filter-append (is_listed g rows) ks (k ∷ []))
        ∙ ap first_marked (map-append lone_row (filter (is_listed g rows) ks) (filter (is_listed g rows) (k ∷ [])))
        ∙ ap (λ b. first_marked (map lone_row (filter (is_listed g rows) ks) ++ map lone_row (cond b (k ∷ []) []))) (sym e)
        ∙ by_test b (map lone_row (filter (is_listed g rows) ks))
      where
        by_test : (b : Bool) (ls : List ListedSegment) → first_marked (ls ++ map lone_row (cond b (k ∷ []) [])) ≡ first_marked ls ++ cond b (marked_as (nat_eq (length (first_marked ls)) 0) (lone_row k) ∷ []) []
        by_test true ls = first_marked_more ls (lone_row k) ∙ ap (λ n. first_marked ls ++ marked_as (nat_eq n 0) (lone_row k) ∷ []) (sym (length-first_marked ls))
        by_test false ls = ap first_marked (append-nil ls) ∙ sym (append-nil (first_marked ls))

    pub listed_next : (s : ℤ) → PlaceRises s rows.lead → PlaceRises s rows.other → (end : ℤ) → end ≡ lead_end g.start rows.lead → (k : ℕ) → k < g.cells → (from next : CellStart) → IsBegin g rows k from → IsBegin g rows (k + 1) next
        → (others out out_now : List ListedSegment) (count many : ℕ) → count ≡ length others → many ≡ length out → out ≡ others ++ first_rows k
        → out_now ≡ out ++ cond (ltb (place_of from.lead) (place_of next.lead)) (segment_between leads part (number + k) end from next (nat_eq many count) ∷ []) []
        → out_now ≡ others ++ first_rows (k + 1)
    listed_next s lead_rises other_rises end at k below from next is later others out out_now count many count_is many_is out_is now_is =
        let one : k + 1 ≡ suc k = omega arith in
        let then_is : IsBegin g rows (suc k) next = subst (λ n. IsBegin g rows n next) one later in
        let test : ltb (place_of from.lead) (place_of next.lead) ≡ is_listed g rows k = ap₂ ltb is.lead then_is.lead in
        let first : nat_eq many count ≡ nat_eq (length (first_rows k)) 0 =
        ap₂ nat_eq (many_is ∙ ap (λ ls. length ls) out_is ∙ length-append others (first_rows k)) count_is ∙ test_first (length others) (length (first_rows k)) in
        now_is
        ∙ ap₂ (λ ls l. ls ++ cond (ltb (place_of from.lead) (place_of next.lead)) (l ∷ []) []) out_is
        (segment_is s lead_rises other_rises end at k below from next is then_is (nat_eq many count) ∙ ap (λ b. marked_as b (lone_row k)) first)
        ∙ append_assoc others (first_rows k) (cond (ltb (place_of from.lead) (place_of next.lead)) (marked_as (nat_eq (length (first_rows k)) 0) (lone_row k) ∷ []) [])
        ∙ ap (λ ls. others ++ ls) (sym (rows_more k (ltb (place_of from.lead) (place_of next.lead)) test))
      where
        test_first : (m n : ℕ) → nat_eq (m + n) m ≡ nat_eq n 0
        test_first m n = grind (arith, nat_tests)

    -- without a lead row no cell is listed
    pub listed_none : rows.lead ≡ [] → lone_segments leads part number g rows ≡ []
    listed_none none = ap (λ (ks : List ℕ). first_marked (map lone_row ks)) (no_cell (range_with_len 0 g.cells))
      where
        no_cell : (ks : List ℕ) → filter (is_listed g rows) ks ≡ []
        no_cell [] = refl
        no_cell (k ∷ ks) = ap (λ (b : Bool). cond b (k ∷ filter (is_listed g rows) ks) (filter (is_listed g rows) ks)) (ap₂ ltb (row_none none k) (row_none none (suc k))) ∙ no_cell ks

-- ---- one cell more

pub one_more : (m n : ℕ) (old new : List Listed) (l : Listed) (due : ListedSegment) → m < n → new ≡ old ++ l ∷ [] → listed_view l ≡ due → map listed_view new ≡ map listed_view old ++ cond (ltb m n) (due ∷ []) []
one_more m n old new l due less is row =
    ap (map listed_view) is ∙ map-append listed_view old (l ∷ []) ∙ ap (λ (d : ListedSegment). map listed_view old ++ d ∷ []) row
    ∙ sym (ap (λ (b : Bool). map listed_view old ++ cond b (due ∷ []) []) (lt-ltb m n less))

pub none_more : (m n : ℕ) (old new : List Listed) (due : ListedSegment) → n ≤ m → new ≡ old → map listed_view new ≡ map listed_view old ++ cond (ltb m n) (due ∷ []) []
none_more m n old new due least is =
    ap (map listed_view) is ∙ sym (append-nil (map listed_view old)) ∙ sym (ap (λ (b : Bool). map listed_view old ++ cond b (due ∷ []) []) (le-ltb m n least))

-- ---- the loop

-- the segments of the first cells stand behind others, and the next cell begins here
pub record IsListing (p : ListedPart) (before : List Listed) (others k : ℕ) (from : CellStart) (out : List Listed) (steps steps_now : ℕ) : Type 0 where
  pub fronts : AreFronts p.leads p.pieces.now from
  pub others_are : others ≡ length before
  pub few : length out ≤ length before + k
  pub parts : All HasPart before → All HasPart out
  pub looks : steps_now ≤ steps + 256 * (from.lead.piece + from.other.piece) + 640 + 640 * k
  pub listed : (s : ℤ) → PlaceRises s (part_rows p).lead → PlaceRises s (part_rows p).other
      → IsBegin (part_grid_of p.cells) (part_rows p) k from
      × (map listed_view out ≡ map listed_view before ++ first_rows (part_grid_of p.cells) (part_rows p) p.leads p.part p.number k)
