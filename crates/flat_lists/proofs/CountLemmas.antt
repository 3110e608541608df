-- The cells of the parts of sequences that were looked at.
use Rattle.std.proofs.Common.{◌≡◌, ◌≤◌, ◌<◌, ◌^◌, ◌≤ℤ◌, ◌+ℤ◌, ℕ, ◌+◌, ℤ, pos, negsuc, unsigned_abs, div-mul-le_self, List, [], ◌∷◌, length, drop, get_or, Option, Some, None, IfSome, All, sym, ap, subst, arith}
use Rattle.std.specs.Prelude.{sum_by, unwrap_or}
use Rattle.seq_timeline.proofs.PieceLemmas.{drop_item}
use Rattle.std.proofs.lemmas.Int.{ints}
use Rattle.std.proofs.lemmas.List.Elements.{All-head, All-tail}
use Rattle.std.proofs.lemmas.List.Sums.{sum_by-cons}
use Rattle.clip_model.specs.declared.Part.{Part}
use Rattle.clip_model.specs.IsTimeline.{IsPart, IsTime}
use Rattle.segment_model.specs.Grid.{SegmentGrid, cells, milliseconds}
use Rattle.segment_model.specs.Rows.{TimedRow, end_of}
use Rattle.segment_model.specs.Timeline.{lead_end}
use Rattle.flat_samples.specs.Rows.{IsPlacedRow}
use Rattle.flat_segments.proofs.Counts.{count_low}
use Rattle.flat_segments.proofs.Places.{cells_small}
use Rattle.flat_lists.specs.CountedCells.{length_seen}
use Rattle.flat_lists.specs.Written.{declared_cells}

-- an element of a list
pub at_item : {X : Type 0} (P : X → Type 0) (xs : List X) (i : ℕ) (x : X) → i < length xs → x ≡ get_or xs i x → All P xs → P x
at_item P xs i x lt is all = subst P (sym is) (all i x lt)

-- one more is added to a sum
pub sum_on : {X : Type 0} (f : X → ℕ) (xs : List X) (i : ℕ) (x : X) (all n : ℕ) → i < length xs → x ≡ get_or xs i x → n ≡ f x → all + sum_by f (drop i xs) ≡ sum_by f xs → all + n + sum_by f (drop (i + 1) xs) ≡ sum_by f xs
sum_on f xs i x all n lt is one left =
    let next = ap (sum_by f) (drop_item xs i x lt is) in
    let more = sum_by-cons f x (drop (i + 1) xs) in
    omega (arith, one, left, next, more)

pub length_low : (g : SegmentGrid) (part : Part) (lead : List TimedRow) → IsPart part → All IsPlacedRow lead → cells g (length_seen part lead) ≤ 2 ^ 42
length_low g part lead h placed = by part.length_ms h.length h.start
  where
    by : (o : Option ℕ) → IfSome o (λ n. n ≤ 2 ^ 41) → IsTime part.start → cells g (unwrap_or o (milliseconds (lead_end part.start lead))) ≤ 2 ^ 42
    by None h time = count_low g part.start lead time placed
    by (Some n) h time = let few = cells_small g n in omega (arith, few, h)

pub declared_low : (g : SegmentGrid) (part : Part) → IsPart part → declared_cells g part ≤ 2 ^ 42
declared_low g part h = by part.length_ms h.length
  where
    by : (o : Option ℕ) → IfSome o (λ n. n ≤ 2 ^ 41) → cells g (unwrap_or o 0) ≤ 2 ^ 42
    by None h = let few = cells_small g 0 in omega (arith, few)
    by (Some n) h = let few = cells_small g n in omega (arith, few, h)

-- ---- the length of a track of a part

end_low : (start : ℤ) (rows : List TimedRow) → start ≤ℤ pos (2 ^ 43) → All IsPlacedRow rows → lead_end start rows ≤ℤ pos (2 ^ 43)
end_low start [] low h = low
end_low start (r ∷ rows) low h = end_low (end_of r) rows (within r (All-head IsPlacedRow r rows h)) (All-tail IsPlacedRow r rows h)
  where
    sum_low : (place : ℤ) (duration : ℕ) → unsigned_abs place ≤ 2 ^ 42 → duration ≤ 2 ^ 40 → (place +ℤ pos duration) ≤ℤ pos (2 ^ 43)
    sum_low (pos n) duration a b = omega (arith, ints, a, b)
    sum_low (negsuc n) duration a b = omega (arith, ints, a, b)

    within : (r : TimedRow) → IsPlacedRow r → end_of r ≤ℤ pos (2 ^ 43)
    within r p = sum_low r.place r.duration p.place p.duration

milliseconds_low : (end : ℤ) → end ≤ℤ pos (2 ^ 43) → milliseconds end ≤ 2 ^ 41
milliseconds_low (pos n) h = let whole = div-mul-le_self (n + 89) 90 in omega (arith, ints, h, whole)
milliseconds_low (negsuc n) h = omega arith

pub length_short : (part : Part) (lead : List TimedRow) → IsPart part → All IsPlacedRow lead → length_seen part lead ≤ 2 ^ 41
length_short part lead h placed = by part.length_ms h.length
  where
    start_low : (z : ℤ) → unsigned_abs z ≤ 2 ^ 41 → z ≤ℤ pos (2 ^ 43)
    start_low (pos n) h = omega (arith, ints, h)
    start_low (negsuc n) h = omega (arith, ints)

    by : (o : Option ℕ) → IfSome o (λ n. n ≤ 2 ^ 41) → unwrap_or o (milliseconds (lead_end part.start lead)) ≤ 2 ^ 41
    by None h2 = milliseconds_low (lead_end part.start lead) (end_low part.start lead (start_low part.start h.start) placed)
    by (Some n) h2 = h2
