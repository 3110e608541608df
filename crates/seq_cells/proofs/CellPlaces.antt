-- Numbers of segments among the cells of parts, and the pieces of a part among those of its timeline.
use Rattle.std.proofs.Common.{◌≡◌, div-mul-le_self, ℕ, zero, suc, ◌+◌, ◌-◌, ◌*◌, ◌≤◌, ◌<◌, Bool, true, false, cond, List, [], ◌∷◌, length, slice_get, All, Option, Some, None, IfSome, ◌^◌, ℤ, pos, negsuc, ◌+ℤ◌, ◌≤ℤ◌, ◌++◌, drop, append-nil, Result, Ok, Err, refl, sym, ap, ◌∙◌, subst, arith}
use Rattle.std.specs.Prelude.{sum, nat_lt, nat_le, ok_or, unwrap_or, unsigned_abs}
use Rattle.std.specs.Bool.{then_some}
use Rattle.std.proofs.lemmas.Int.{ints}
use Rattle.std.proofs.lemmas.Bool.Decides.{nat_tests}
use Rattle.std.proofs.lemmas.List.{length-map, drop_all}
use Rattle.std.proofs.lemmas.List.Elements.{All-map, All-weaker}
use Rattle.std.proofs.lemmas.List.Sums.{sum_by-cons}
use Rattle.std.proofs.lemmas.Option.{same_Some}
use Rattle.vod_types.specs.declared.refusal.Refusal.{Refusal}
use Rattle.vod_types.specs.declared.refusal.Refusal.TheVariants as refusals
use Rattle.vod_types.specs.declared.settings.Policy.{Policy}
use Rattle.vod_types.specs.declared.settings.Policy.TheVariants.{LastShort, LastLong, LastRounded}
use Rattle.vod_types.specs.Lists.{nth_from_one}
use Rattle.vod_types.specs.Results.{◌>>◌, unless}
use Rattle.clip_model.specs.declared.Part.{Part}
use Rattle.clip_model.specs.IsTimeline.{Follow, IsPart}
use Rattle.segment_model.specs.Grid.{SegmentGrid, boundary, milliseconds, cells, cells_by, first_covering, last_reached, rounded_from, locate, locate_from}
use Rattle.segment_model.specs.Lists.{least_from}
use Rattle.origin_model.specs.Plans.{few_cells}
use Rattle.seq_cells.specs.Cells.{place_among, declared_counts}

-- ---- few cells, or too many

cells_many : (cells : ℕ) → nat_lt 100000 cells ≡ true → few_cells cells ≡ Err (refusals.TooManySegments cells)
unfolding few_cells
cells_many cells e = ap (λ b. unless (then_some b (refusals.TooManySegments cells))) e

cells_few : (cells : ℕ) → nat_lt 100000 cells ≡ false → few_cells cells ≡ Ok tt
unfolding few_cells
cells_few cells e = ap (λ b. unless (then_some b (refusals.TooManySegments cells))) e

pub place_many : (counts : List ℕ) (number all : ℕ) → all ≡ sum counts → 100000 < all → Err (refusals.TooManySegments all) ≡ place_among counts number
place_many counts number all e many =
    ap (λ (n : ℕ). Err (refusals.TooManySegments n)) e
    ∙ sym (ap (λ (r : Result (Unit {0}) Refusal). r >> ok_or (locate counts number) (refusals.NoSegment number (sum counts))) (cells_many (sum counts) (grind (arith, nat_tests))))

pub place_found : (counts : List ℕ) (number all : ℕ) (place : ℕ × ℕ) → all ≡ sum counts → all ≤ 100000 → Some place ≡ locate counts number → Ok place ≡ place_among counts number
place_found counts number all place e few found =
    ap (λ (o : Option (ℕ × ℕ)). ok_or o (refusals.NoSegment number (sum counts))) found
    ∙ sym (ap (λ (r : Result (Unit {0}) Refusal). r >> ok_or (locate counts number) (refusals.NoSegment number (sum counts))) (cells_few (sum counts) (grind (arith, nat_tests))))

pub place_none : (counts : List ℕ) (number all : ℕ) → all ≡ sum counts → all ≤ 100000 → None ≡ locate counts number → Err (refusals.NoSegment number all) ≡ place_among counts number
place_none counts number all e few none =
    ap (λ (n : ℕ). Err (refusals.NoSegment number n)) e
    ∙ ap (λ (o : Option (ℕ × ℕ)). ok_or o (refusals.NoSegment number (sum counts))) none
    ∙ sym (ap (λ (r : Result (Unit {0}) Refusal). r >> ok_or (locate counts number) (refusals.NoSegment number (sum counts))) (cells_few (sum counts) (grind (arith, nat_tests))))

-- ---- where a number is found

located_from : (part : ℕ) (counts : List ℕ) (k : ℕ) (place : ℕ × ℕ) → Some place ≡ locate_from part counts k → (place.0 < part + length counts) × (place.1 < sum counts)
located_from part [] k place e = absurd (cc)
located_from part (n ∷ counts) k place e = by_test (λ h. located_from (suc part) counts (k - n) place h) (nat_lt k n) refl e
  where
    by_test : (Some place ≡ locate_from (suc part) counts (k - n) → (place.0 < suc part + length counts) × (place.1 < sum counts)) → (b : Bool) → nat_lt k n ≡ b → Some place ≡ cond b (Some (part, k)) (locate_from (suc part) counts (k - n)) → (place.0 < part + length (n ∷ counts)) × (place.1 < sum (n ∷ counts))
    by_test later true less e =
        let same : place ≡ (part, k) = cc in
        let first : place.0 ≡ part = ap (λ (p : ℕ × ℕ). p.0) same in
        let second : place.1 ≡ k = ap (λ (p : ℕ × ℕ). p.1) same in
        let lt : k < n = grind (arith, nat_tests) in
        (omega (arith, first), omega (arith, second, lt, sum_by-cons (λ (x : ℕ). x) n counts))
    by_test later false less e =
        let found = later e in
        (omega (arith, found.0), omega (arith, found.1, sum_by-cons (λ (x : ℕ). x) n counts))

pub located : (counts : List ℕ) (number : ℕ) (place : ℕ × ℕ) → Some place ≡ locate counts number → (place.0 < length counts) × (place.1 < sum counts)
located counts zero place e = absurd (cc)
located counts (suc k) place e = let found = located_from 0 counts k place e in (omega (arith, found.0), found.1)

-- ---- numbers of cells

least_small : (test : ℕ → Bool) (more n : ℕ) → least_from test more n ≤ n + more
least_small test zero n = omega arith
least_small test (suc more) n = by_test (test n) (least_small test more (suc n))
  where
    by_test : (b : Bool) → least_from test more (suc n) ≤ suc n + more → elim b [ true ↦ n | false ↦ least_from test more (suc n) ] ≤ n + suc more
    by_test true h = omega arith
    by_test false h = omega (arith, h)

pub cells_small : (g : SegmentGrid) (n : ℕ) → cells g n ≤ n + 1
unfolding cells
cells_small g zero = omega arith
cells_small g (suc n) = by_policy g.policy
  where
    covering : first_covering g (suc n) ≤ suc n
    covering = let h = least_small (λ (k : ℕ). nat_le (suc n) (boundary g k)) (suc n) 0 in omega (arith, h)

    reached : last_reached g (suc n) ≤ suc n
    reached = let h = least_small (λ (k : ℕ). nat_lt (suc n) (boundary g (suc k))) (suc n) 0 in omega (arith, h)

    by_test : (b : Bool) (m : ℕ) → m ≤ suc n → cond b (suc m) m ≤ suc (suc n)
    by_test true m h = omega (arith, h)
    by_test false m h = omega (arith, h)

    rounded : rounded_from g (suc n) (last_reached g (suc n)) ≤ suc (suc n)
    rounded = by_test (nat_le (boundary g (suc (last_reached g (suc n))) - boundary g (last_reached g (suc n))) (2 * (suc n - boundary g (last_reached g (suc n))))) (last_reached g (suc n)) reached

    by_policy : (p : Policy) → cells_by p g (suc n) ≤ suc n + 1
    by_policy LastShort = omega (arith, covering)
    by_policy LastLong = omega (arith, reached)
    by_policy LastRounded = omega (arith, rounded)

-- of parts of at most 2^41 milliseconds
part_small : (g : SegmentGrid) (part : Part) → IsPart part → cells g (unwrap_or part.length_ms 0) ≤ 2 ^ 42
part_small g part h = by_length part.length_ms h.length
  where
    by_length : (o : Option ℕ) → IfSome o (λ n. n ≤ 2 ^ 41) → cells g (unwrap_or o 0) ≤ 2 ^ 42
    by_length None h = let small = cells_small g 0 in omega (arith, small)
    by_length (Some n) h = let small = cells_small g n in omega (arith, small, h)

pub counts_small : (g : SegmentGrid) (parts : List Part) (counts : List ℕ) → All IsPart parts → counts ≡ declared_counts g parts → All (λ count. count ≤ 2 ^ 42) counts
counts_small g parts counts h e =
    subst (All (λ (count : ℕ). count ≤ 2 ^ 42)) (sym e)
    (All-map (λ (count : ℕ). count ≤ 2 ^ 42) (λ part. cells g (unwrap_or part.length_ms 0)) parts (All-weaker IsPart (λ part. cells g (unwrap_or part.length_ms 0) ≤ 2 ^ 42) (part_small g) parts h))

pub counts_many : (g : SegmentGrid) (parts : List Part) (counts : List ℕ) → counts ≡ declared_counts g parts → length counts ≡ length parts
counts_many g parts counts e = ap (λ (ns : List ℕ). length ns) e ∙ length-map parts (λ part. cells g (unwrap_or part.length_ms 0))

pub counts_done : (g : SegmentGrid) (parts : List Part) (i : ℕ) (counts : List ℕ) → counts ++ declared_counts g (drop i parts) ≡ declared_counts g parts → length parts ≤ i → counts ≡ declared_counts g parts
counts_done g parts i counts e past =
    sym (append-nil counts) ∙ ap (λ (ps : List Part). counts ++ declared_counts g ps) (sym (drop_all i parts past)) ∙ e

-- of a part that ends at a time
pub open_small : (g : SegmentGrid) (end : ℤ) → unsigned_abs end ≤ 2 ^ 43 → cells g (milliseconds end) ≤ 2 ^ 42
open_small g end h =
    let few = cells_small g (milliseconds end) in
    let short = low end h in
    omega (arith, few, short)
  where
    low : (end : ℤ) → unsigned_abs end ≤ 2 ^ 43 → milliseconds end ≤ 2 ^ 41
    low (pos n) h = let whole = div-mul-le_self (n + 89) 90 in omega (arith, ints, h, whole)
    low (negsuc n) h = omega arith

-- ---- the pieces of a part

pub follow-order : (at : ℕ) (parts : List Part) (end : ℕ) → Follow at parts end → at ≤ end
follow-order at [] end f = omega (arith, f)
follow-order at (p ∷ parts) end f = omega (arith, follow-order (at + p.count) parts end f.1)

follow-within : (at : ℕ) (parts : List Part) (end i : ℕ) (part : Part) → Follow at parts end → slice_get parts i ≡ Some part → part.first + part.count ≤ end
follow-within at [] end i part f e = absurd cc
follow-within at (p ∷ parts) end zero part f e =
    let same : p ≡ part = same_Some p part e in
    let P : Part → Type 0 = λ q. q.first + q.count ≤ end in
    subst P same (omega (arith, f.0, follow-order (at + p.count) parts end f.1))
follow-within at (p ∷ parts) end (suc i) part f e = follow-within (at + p.count) parts end i part f.1 e

-- the pieces of a part lie among those of the timeline
pub part-within : (parts : List Part) (end number : ℕ) (part : Part) → Follow 0 parts end → Some part ≡ nth_from_one parts number → part.first + part.count ≤ end
part-within parts end zero part f e = absurd cc
part-within parts end (suc i) part f e = follow-within 0 parts end i part f (sym e)

-- ---- times

pub abs_bounds : (z : ℤ) (n : ℕ) → unsigned_abs z ≤ n → (pos 0 ≤ℤ (z +ℤ pos n)) × (z ≤ℤ pos n)
abs_bounds (pos m) n h = (omega (arith, ints, h), omega (arith, ints, h))
abs_bounds (negsuc m) n h = (omega (arith, ints, h), omega (arith, ints, h))
