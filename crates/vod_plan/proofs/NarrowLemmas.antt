-- The rows of pieces whose ranges are narrowed, by their places and by their times.
use Rattle.std.proofs.Common.{◌≡◌, ℕ, zero, suc, ◌+◌, ◌-◌, ◌<◌, ◌≤◌, min, Bool, true, false, not, ◌&&◌, List, [], ◌∷◌, ◌++◌, map, take, drop, ℤ, pos, ◌≤ℤ◌, int_le, Option, Some, None, refl, sym, ap, ap₂, subst, ◌∙◌, arith}
use Rattle.std.specs.Prelude.{◌+ℤ◌, option_map, slice_range, IfSome}
use Rattle.std.specs.List.{position_or_len, range_with_len, AllByRecursion}
use Rattle.std.specs.Option.{option_map_or}
use Rattle.std.proofs.lemmas.Int.{ints}
use Rattle.std.proofs.lemmas.List.{drop-map, take-map}
use Rattle.std.proofs.lemmas.List.Elements.{filter-append}
use Rattle.vod_types.specs.declared.tracks.Kind.{Kind}
use Rattle.vod_types.specs.declared.tracks.Kind.TheVariants.{Video, Audio}
use Rattle.mp4_model.specs.Samples.{flat_row}
use Rattle.segment_model.specs.Numbered.{rows_between}
use Rattle.segment_model.specs.Rows.{SourceTrack, TimedRow, timed_row, kept_from}
use Rattle.segment_model.specs.Timeline.{placed}
use Rattle.segment_model.proofs.RowNumbers.{number_row, map_twice, position_of_map, units_at, units_rise}
use Rattle.vod_plan.specs.Narrowed.{between_times, index_at, index_by, is_after, narrow_range, narrowed, other_kind}
use Rattle.vod_plan.specs.Ranges.{PlannedPiece, RowRange, planned_of, range_of, range_rows}
use Rattle.vod_plan.specs.Selected.{begins_by}
use Rattle.vod_plan.specs.Spans.{rows_in, IsRange}
use Rattle.vod_plan.proofs.JoinLemmas.{Stays, stays-never, filter-range, position-agree, position-most, position-none, range-join, range-nil, range-twice}
use Rattle.vod_plan.proofs.RangeLemmas.{IsGood, numbers, part, part_length, planned_from, rows_are, rows_length, source}

-- ---- the rows of one range

range-map : {X Y : Type 0} (f : X → Y) (xs : List X) (a b : ℕ) → slice_range (map f xs) a b ≡ map f (slice_range xs a b)
range-map f xs a b = ap (take (b - a)) (drop-map f a xs) ∙ take-map f (b - a) (drop a xs)

pub narrow_rows : (kind : Kind) (file : ℕ) (base : ℤ) (r : RowRange) (from to : ℕ) → to ≤ r.to - r.from
    → range_rows kind file base (narrow_range from to r) ≡ slice_range (range_rows kind file base r) from to
unfolding rows_between
narrow_rows kind file base r from to h =
    let t : SourceTrack = source kind r in
    ap (λ xs. map (placed file base) (map (timed_row t) xs)) (sym (range-twice _ r.from r.to from to h))
    ∙ ap (map (placed file base)) (sym (range-map (timed_row t) _ from to))
    ∙ sym (range-map (placed file base) _ from to)

-- ---- those of a kind of a piece

pub narrowed_part : (kind : Kind) (file : ℕ) (p : PlannedPiece) (from to : ℕ) → to ≤ rows_in kind p → part kind file (narrowed kind from to p) ≡ slice_range (part kind file p) from to
narrowed_part kind file p from to h = by_kind kind h
  where
    go : (kind : Kind) (o : Option RowRange) → to ≤ option_map_or (λ (r : RowRange). r.to - r.from) o 0
        → option_map_or (range_rows kind file p.base) (option_map (narrow_range from to) o) [] ≡ slice_range (option_map_or (range_rows kind file p.base) o []) from to
    go kind None h = sym (range-nil from to)
    go kind (Some r) h = narrow_rows kind file p.base r from to h

    by_kind : (kind : Kind) → to ≤ rows_in kind p → part kind file (narrowed kind from to p) ≡ slice_range (part kind file p) from to
    by_kind Video h = go Video p.video h
    by_kind Audio h = go Audio p.audio h

-- the rows of the other kind stay
pub other_part : (kind : Kind) (file : ℕ) (p : PlannedPiece) (from to : ℕ) → part (other_kind kind) file (narrowed kind from to p) ≡ part (other_kind kind) file p
other_part Video file p from to = refl
other_part Audio file p from to = refl

-- ---- by their places

module _ (kind : Kind) where
  abbrev pub by_number : ℕ → ℕ → List PlannedPiece → List PlannedPiece
  by_number from to [] = []
  by_number from to (p ∷ ps) = narrowed kind (min from (rows_in kind p)) (min to (rows_in kind p)) p ∷ by_number (from - rows_in kind p) (to - rows_in kind p) ps

  -- one piece more
  pub number_step : (from to : ℕ) (p q : PlannedPiece) → q ≡ narrowed kind (min from (rows_in kind p)) (min to (rows_in kind p)) p → (ps : List PlannedPiece)
      → by_number from to (p ∷ ps) ≡ q ∷ by_number (from - rows_in kind p) (to - rows_in kind p) ps
  number_step from to p q is ps = ap (λ (x : PlannedPiece). x ∷ by_number (from - rows_in kind p) (to - rows_in kind p) ps) (sym is)

  number_rows : (a from to : ℕ) (ps : List PlannedPiece) → AllByRecursion (IsGood kind) ps → planned_from kind a (by_number from to ps) ≡ slice_range (planned_from kind a ps) from to
  number_rows a from to [] good = sym (range-nil from to)
  number_rows a from to (p ∷ ps) good =
      let n : ℕ = rows_in kind p in
      ap₂ (λ (xs ys : List TimedRow). xs ++ ys) (narrowed_part kind a p (min from n) (min to n) (omega arith)) (number_rows (a + 1) (from - n) (to - n) ps good.1)
      ∙ sym (range-join (part kind a p) (planned_from kind (a + 1) ps) from to n (part_length kind a p good.0))

  number_others : (a from to : ℕ) (ps : List PlannedPiece) → planned_from (other_kind kind) a (by_number from to ps) ≡ planned_from (other_kind kind) a ps
  number_others a from to [] = refl
  number_others a from to (p ∷ ps) =
      let n : ℕ = rows_in kind p in
      ap₂ (λ (xs ys : List TimedRow). xs ++ ys) (other_part kind a p (min from n) (min to n)) (number_others (a + 1) (from - n) (to - n) ps)

  pub planned-by_number : (from to : ℕ) (ps : List PlannedPiece) → AllByRecursion (IsGood kind) ps → planned_of kind (by_number from to ps) ≡ slice_range (planned_of kind ps) from to
  planned-by_number from to ps good = number_rows 0 from to ps good

  pub others-by_number : (from to : ℕ) (ps : List PlannedPiece) → planned_of (other_kind kind) (by_number from to ps) ≡ planned_of (other_kind kind) ps
  others-by_number from to ps = number_others 0 from to ps

-- ---- by their times

later_passes : (time a b : ℤ) → a ≤ℤ b → int_le time a ≡ true → int_le time b ≡ true
later_passes time a b h e = grind (arith, ints)

-- rows by number whose places don't fall
abbrev PlacesRise : (ℕ → TimedRow) → Type 0
PlacesRise f = (i j : ℕ) → i ≤ j → (f i).place ≤ℤ (f j).place

all_later : (f : ℕ → TimedRow) (time : ℤ) (a m c n : ℕ) → PlacesRise f → a ≤ c → int_le time (f a).place ≡ true → AllByRecursion (λ r. int_le time r.place ≡ true) (map f (take m (range_with_len c n)))
all_later f time a zero c n rise h e = tt
all_later f time a (suc m) c zero rise h e = tt
all_later f time a (suc m) c (suc n) rise h e = (later_passes time (f a).place (f c).place (rise a c h) e, all_later f time a m (c + 1) n rise (omega arith) e)

stays_rising : (f : ℕ → TimedRow) (time : ℤ) (m a n : ℕ) → PlacesRise f → Stays (λ r. int_le time r.place) (map f (take m (range_with_len a n)))
stays_rising f time zero a n rise = tt
stays_rising f time (suc m) a zero rise = tt
stays_rising f time (suc m) a (suc n) rise = (all_later f time a m (a + 1) n rise (omega arith), stays_rising f time m (a + 1) n rise)

rising : (base : ℤ) (a b d k : ℕ) → a ≤ b → (base +ℤ pos (a + d - k)) ≤ℤ (base +ℤ pos (b + d - k))
rising base a b d k h = let e : a + d - k ≤ b + d - k = omega arith in omega (arith, ints, e)

module _ (kind : Kind) (file : ℕ) (base : ℤ) (r : RowRange) (good : IsRange r) where
  abbrev row : ℕ → TimedRow
  row i = placed file base (number_row (source kind r) r.track.tables i)

  places_rise : PlacesRise row
  unfolding timed_row flat_row
  places_rise i j h =
      let s : SourceTrack = source kind r in
      rising base (units_at s r.track.tables i) (units_at s r.track.tables j) s.edit.delay (kept_from s) (units_rise s r.track.tables i j good.usable.timescale h)

  rows_by : range_rows kind file base r ≡ map row (numbers kind r)
  rows_by = rows_are kind file base r good ∙ map_twice (placed file base) (number_row (source kind r) r.track.tables) (numbers kind r)

  pub range_stays : (time : ℤ) → Stays (λ x. int_le time x.place) (range_rows kind file base r)
  unfolding numbers
  range_stays time = subst (Stays (λ (x : TimedRow). int_le time x.place)) (sym rows_by) (stays_rising row time (r.to - r.from) r.from _ places_rise)

after_stays : (rows : List TimedRow) → ((time : ℤ) → Stays (λ r. int_le time r.place) rows) → (o : Option ℤ) → Stays (λ r. is_after o r.place) rows
after_stays rows stays None = stays-never rows
after_stays rows stays (Some time) = stays time

true_and : (b : Bool) → (b && true) ≡ b
true_and true = refl
true_and false = refl

-- a time's index doesn't hang on the place of the piece
pub same_index : (kind : Kind) (file : ℕ) (base : ℤ) (r : RowRange) (align : Bool) (time : ℤ) → position_or_len (begins_by align time) (range_rows kind file base r) ≡ position_or_len (begins_by align time) (range_rows kind 0 base r)
same_index kind file base r align time =
    position_of_map (begins_by align time) (placed file base) (rows_between (source kind r) r.from r.to)
    ∙ sym (position_of_map (begins_by align time) (placed 0 base) (rows_between (source kind r) r.from r.to))

module _ (kind : Kind) where
  time_index : (file : ℕ) (p : PlannedPiece) (o : Option ℤ) → IsGood kind p → position_or_len (λ r. is_after o r.place) (part kind file p) ≡ index_at kind o p
  time_index file p None good = position-none (part kind file p) ∙ part_length kind file p good
  time_index file p (Some time) good = go (range_of kind p)
    where
      go : (o : Option RowRange) → position_or_len (λ (r : TimedRow). int_le time r.place) (option_map_or (range_rows kind file p.base) o []) ≡ option_map_or (λ r. position_or_len (begins_by false time) (range_rows kind 0 p.base r)) o 0
      go None = refl
      go (Some r) =
          position-agree (λ (x : TimedRow). int_le time x.place) (begins_by false time) (λ x. sym (true_and (int_le time x.place))) (range_rows kind file p.base r)
          ∙ same_index kind file p.base r false time

  part_between : (file : ℕ) (p : PlannedPiece) (from to : Option ℤ) → IsGood kind p → between_times from to (part kind file p) ≡ slice_range (part kind file p) (index_at kind from p) (index_at kind to p)
  part_between file p from to good =
      let rows : List TimedRow = part kind file p in
      let stays = by_range (range_of kind p) good in
      filter-range (λ (r : TimedRow). is_after from r.place) (λ (r : TimedRow). is_after to r.place) rows (after_stays rows stays from) (after_stays rows stays to)
      ∙ ap₂ (slice_range rows) (time_index file p from good) (time_index file p to good)
    where
      by_range : (o : Option RowRange) → IfSome o IsRange → (time : ℤ) → Stays (λ r. int_le time r.place) (option_map_or (range_rows kind file p.base) o [])
      by_range None good time = tt
      by_range (Some r) good time = range_stays kind file p.base r good time

  index_most : (align : Bool) (time : ℤ) (p : PlannedPiece) → IsGood kind p → index_by kind align time p ≤ rows_in kind p
  index_most align time p good = go (range_of kind p) good
    where
      go : (o : Option RowRange) → IfSome o IsRange → option_map_or (λ r. position_or_len (begins_by align time) (range_rows kind 0 p.base r)) o 0 ≤ option_map_or (λ (r : RowRange). r.to - r.from) o 0
      go None good = omega arith
      go (Some r) good = omega (arith, position-most (begins_by align time) (range_rows kind 0 p.base r), rows_length kind 0 p.base r good)

  pub index_within : (p : PlannedPiece) (o : Option ℤ) → IsGood kind p → index_at kind o p ≤ rows_in kind p
  index_within p None good = omega arith
  index_within p (Some time) good = index_most false time p good

  -- it is none where there are no rows
  pub index_none : (align : Bool) (time : ℤ) (p : PlannedPiece) → IsGood kind p → rows_in kind p ≤ 0 → 0 ≡ index_by kind align time p
  index_none align time p good none = omega (arith, index_most align time p good, none)

  -- what a seek finds
  pub index_found : (align : Bool) (time : ℤ) (p : PlannedPiece) (n : ℕ) → 0 < rows_in kind p
      → ((file : ℕ) (r : RowRange) → range_of kind p ≡ Some r → n ≡ position_or_len (begins_by align time) (range_rows kind file p.base r)) → n ≡ index_by kind align time p
  index_found align time p n some found = go (range_of kind p) some (found 0)
    where
      go : (o : Option RowRange) → 0 < option_map_or (λ (r : RowRange). r.to - r.from) o 0 → ((r : RowRange) → o ≡ Some r → n ≡ position_or_len (begins_by align time) (range_rows kind 0 p.base r))
          → n ≡ option_map_or (λ r. position_or_len (begins_by align time) (range_rows kind 0 p.base r)) o 0
      go None some found = absurd (omega arith)
      go (Some r) some found = found r refl

  pub found_within : (p : PlannedPiece) (n : ℕ) → 0 < rows_in kind p → ((r : RowRange) → range_of kind p ≡ Some r → n ≤ r.to - r.from) → n ≤ rows_in kind p
  found_within p n some found = go (range_of kind p) some found
    where
      go : (o : Option RowRange) → 0 < option_map_or (λ (r : RowRange). r.to - r.from) o 0 → ((r : RowRange) → o ≡ Some r → n ≤ r.to - r.from) → n ≤ option_map_or (λ (r : RowRange). r.to - r.from) o 0
      go None some found = absurd (omega arith)
      go (Some r) some found = found r refl

  -- the same place among the rows of the piece, whichever it is
  pub index_in_part : (align : Bool) (time : ℤ) (file : ℕ) (p : PlannedPiece) → position_or_len (begins_by align time) (part kind file p) ≡ index_by kind align time p
  index_in_part align time file p = go (range_of kind p)
    where
      go : (o : Option RowRange) → position_or_len (begins_by align time) (option_map_or (range_rows kind file p.base) o []) ≡ option_map_or (λ r. position_or_len (begins_by align time) (range_rows kind 0 p.base r)) o 0
      go None = refl
      go (Some r) = same_index kind file p.base r align time

  abbrev pub by_time : Option ℤ → Option ℤ → List PlannedPiece → List PlannedPiece
  by_time from to ps = map (λ p. narrowed kind (index_at kind from p) (index_at kind to p) p) ps

  -- one piece more
  pub time_step : (from to : Option ℤ) (p q : PlannedPiece) → q ≡ narrowed kind (index_at kind from p) (index_at kind to p) p → (ps : List PlannedPiece) → by_time from to (p ∷ ps) ≡ q ∷ by_time from to ps
  time_step from to p q is ps = ap (λ (x : PlannedPiece). x ∷ by_time from to ps) (sym is)

  time_rows : (a : ℕ) (from to : Option ℤ) (ps : List PlannedPiece) → AllByRecursion (IsGood kind) ps → planned_from kind a (by_time from to ps) ≡ between_times from to (planned_from kind a ps)
  time_rows a from to [] good = refl
  time_rows a from to (p ∷ ps) good =
      ap₂ (λ (xs ys : List TimedRow). xs ++ ys)
      (narrowed_part kind a p (index_at kind from p) (index_at kind to p) (index_within p to good.0) ∙ sym (part_between a p from to good.0))
      (time_rows (a + 1) from to ps good.1)
      ∙ sym (filter-append (λ (r : TimedRow). is_after from r.place && not (is_after to r.place)) (part kind a p) (planned_from kind (a + 1) ps))

  time_others : (a : ℕ) (from to : Option ℤ) (ps : List PlannedPiece) → planned_from (other_kind kind) a (by_time from to ps) ≡ planned_from (other_kind kind) a ps
  time_others a from to [] = refl
  time_others a from to (p ∷ ps) = ap₂ (λ (xs ys : List TimedRow). xs ++ ys) (other_part kind a p (index_at kind from p) (index_at kind to p)) (time_others (a + 1) from to ps)

  pub planned-by_time : (from to : Option ℤ) (ps : List PlannedPiece) → AllByRecursion (IsGood kind) ps → planned_of kind (by_time from to ps) ≡ between_times from to (planned_of kind ps)
  planned-by_time from to ps good = time_rows 0 from to ps good

  pub others-by_time : (from to : Option ℤ) (ps : List PlannedPiece) → planned_of (other_kind kind) (by_time from to ps) ≡ planned_of (other_kind kind) ps
  others-by_time from to ps = time_others 0 from to ps
