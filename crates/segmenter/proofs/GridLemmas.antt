-- Boundaries by arithmetic, and the numbers of cells by the last cell that is reached.
use Rattle.std.proofs.Common.{◌≡◌, ℕ, zero, suc, ◌+◌, ◌-◌, ◌*◌, ◌<◌, ◌≤◌, max, cond, List, [], ◌∷◌, take, length, sum, get_or, inl, inr, refl, sym, ap, ◌∙◌, arith, add-one, mul-le-mul_left, mul-le-mul_right, ◌^◌, zero-mul, leb, take_all}
use Rattle.std.proofs.Math.Nat.{max_comm}
use Rattle.std.specs.Int.{IsInRange}
use Rattle.std.specs.List.{AllByRecursion}
use Rattle.std.proofs.lemmas.Bool.{cases_lt, le-leb, lt-leb}
use Rattle.std.proofs.lemmas.List.Sums.{sum_by_more, sum_by-cons, sum_by-take-le}
use Rattle.vod_types.specs.declared.settings.Policy.TheVariants.{LastShort, LastLong, LastRounded}
use Rattle.segment_model.specs.Grid.{SegmentGrid, HasDurations, boundary, first_covering, last_reached, rounded_from, cells_by, cells}
use Rattle.segment_model.specs.Laws.{IsFirstCovering}
use Rattle.segment_model.proofs.Numbers.{boundary_order, first_covering_is, first_covering_unique, last_reached_is, last_reached_unique}
use Rattle.segmenter.specs.Ranges.{HasRanges}
use Rattle.segmenter.specs.Reached.{IsReached}

-- ---- durations

-- one of them is in the range too
pub in_range_at : (low high : ℕ) (ds : List ℕ) → AllByRecursion (IsInRange low high) ds → (i d : ℕ) → i < length ds → IsInRange low high (get_or ds i d)
in_range_at low high [] all i d within = absurd (omega arith)
in_range_at low high (x ∷ ds) all zero d within = all.0
in_range_at low high (x ∷ ds) all (suc i) d within = in_range_at low high ds all.1 i d (omega (arith, within))

each_some : (ds : List ℕ) → AllByRecursion (IsInRange 1 600000) ds → AllByRecursion (λ d. 1 ≤ d) ds
each_some [] all = tt
each_some (d ∷ ds) all = (all.0.0, each_some ds all.1)

pub has_durations : (g : SegmentGrid) → HasRanges g → HasDurations g
has_durations g has = (each_some g.bootstrap has.bootstrap, has.step.0)

pub sum_more : (ds : List ℕ) (i d : ℕ) → i < length ds → sum (take (i + 1) ds) ≡ sum (take i ds) + get_or ds i d
sum_more ds i d within = sum_by_more (λ (x : ℕ). x) ds i d within

-- ---- boundaries

pub boundary_inside : (g : SegmentGrid) (k : ℕ) → k ≤ length g.bootstrap → boundary g k ≡ sum (take k g.bootstrap)
boundary_inside g k within =
    ap (λ (n : ℕ). sum (take k g.bootstrap) + n * g.step) (let none : k - length g.bootstrap ≡ 0 = omega arith in none) ∙ omega (arith, zero-mul g.step)

pub boundary_behind : (g : SegmentGrid) (j : ℕ) → boundary g (length g.bootstrap + j) ≡ sum g.bootstrap + j * g.step
boundary_behind g j =
    ap (λ (ds : List ℕ). sum ds + (length g.bootstrap + j - length g.bootstrap) * g.step) (take_all (length g.bootstrap + j) g.bootstrap (omega arith))
    ∙ ap (λ (n : ℕ). sum g.bootstrap + n * g.step) (let more : length g.bootstrap + j - length g.bootstrap ≡ j = omega arith in more)

-- the boundary of the cell behind one of the first
pub boundary_next_inside : (g : SegmentGrid) (i d : ℕ) → i < length g.bootstrap → boundary g (suc i) ≡ boundary g i + get_or g.bootstrap i d
boundary_next_inside g i d within =
    rw (← add-one) (boundary_inside g (i + 1) (omega arith)) ∙ sum_more g.bootstrap i d within
    ∙ ap (λ (n : ℕ). n + get_or g.bootstrap i d) (sym (boundary_inside g i (omega arith)))

pub boundary_next_behind : (g : SegmentGrid) (j : ℕ) → boundary g (suc (length g.bootstrap + j)) ≡ boundary g (length g.bootstrap + j) + g.step
boundary_next_behind g j =
    ap (boundary g) (let more : suc (length g.bootstrap + j) ≡ length g.bootstrap + suc j = omega arith in more) ∙ boundary_behind g (suc j)
    ∙ (let sums : sum g.bootstrap + suc j * g.step ≡ sum g.bootstrap + j * g.step + g.step = omega arith in sums)
    ∙ ap (λ (n : ℕ). n + g.step) (sym (boundary_behind g j))

-- each cell ends behind its boundary
boundary_grows : (g : SegmentGrid) → HasRanges g → (k : ℕ) → boundary g k < boundary g (suc k)
boundary_grows g has k = elim (cases_lt k (length g.bootstrap)) [
  | inl within ↦ (let some = in_range_at 1 600000 g.bootstrap has.bootstrap k 0 within in omega (arith, boundary_next_inside g k 0 within, some.0))
  | inr behind ↦ (
      let j : ℕ = k - length g.bootstrap in
      let is : k ≡ length g.bootstrap + j = omega arith in
      rw is (omega (arith, boundary_next_behind g j, has.step.0)))
]

-- and at most 600,000 ms behind it
pub boundary_near : (g : SegmentGrid) → HasRanges g → (k : ℕ) → boundary g (k + 1) ≤ boundary g k + 600000
boundary_near g has k = rw add-one (elim (cases_lt k (length g.bootstrap)) [
  | inl within ↦ (let some = in_range_at 1 600000 g.bootstrap has.bootstrap k 0 within in omega (arith, boundary_next_inside g k 0 within, some.1))
  | inr behind ↦ (
      let j : ℕ = k - length g.bootstrap in
      let is : k ≡ length g.bootstrap + j = omega arith in
      rw is (omega (arith, boundary_next_behind g j, has.step.1)))
])

-- ---- numbers of cells

module _ (g : SegmentGrid) (has : HasRanges g) (length cell rest duration : ℕ) (is : IsReached g length cell rest duration) where
  reached : last_reached g length ≡ cell
  reached =
      last_reached_unique g length (last_reached g length) cell (last_reached_is g (has_durations g has) length) (record {
        reached = omega (arith, is.begins);
        above = λ k above. (let order : boundary g (suc cell) ≤ boundary g k = boundary_order g (suc cell) k (omega arith) in omega (arith, is.begins, is.lasts, is.within));
      })

  covering : (n : ℕ) → IsFirstCovering g length n → first_covering g length ≡ n
  covering n covers = first_covering_unique g length (first_covering g length) n (first_covering_is g (has_durations g has) length) covers

  covering_exact : rest ≡ 0 → first_covering g length ≡ cell
  covering_exact none = covering cell (record {
    covers = omega (arith, is.begins);
    below = λ k below. (
        let order : boundary g (suc k) ≤ boundary g cell = boundary_order g (suc k) cell (omega arith) in
        omega (arith, is.begins, boundary_grows g has k));
  })

  covering_more : (rest ≡ 0 → ⊥) → first_covering g length ≡ cell + 1
  covering_more some = covering (cell + 1) (record {
    covers = rw add-one (omega (arith, is.begins, is.lasts, is.within));
    below = λ k below. (let order : boundary g k ≤ boundary g cell = boundary_order g k cell (omega arith) in omega (arith, is.begins, some));
  })

  rounded : rounded_from g length (last_reached g length) ≡ cond (leb duration (2 * rest)) (cell + 1) cell
  rounded =
      ap (rounded_from g length) reached
      ∙ ap (λ (n : ℕ). cond (leb n (2 * (length - boundary g cell))) (suc cell) cell) (let lasts : boundary g (suc cell) - boundary g cell ≡ duration = omega (arith, is.lasts) in lasts)
      ∙ ap (λ (n : ℕ). cond (leb duration (2 * n)) (suc cell) cell) (let left : length - boundary g cell ≡ rest = omega (arith, is.begins) in left)
      ∙ ap (λ (n : ℕ). cond (leb duration (2 * rest)) n cell) (let more : suc cell ≡ cell + 1 = omega arith in more)

  module _ (some : length ≡ 0 → ⊥) where
    by_policy : (n : ℕ) → n ≡ length → cells g n ≡ cells_by g.policy g n
    unfolding cells
    by_policy zero same = absurd (some (sym same))
    by_policy (suc n) same = refl

    pub cells-short_exact : g.policy ≡ LastShort → rest ≡ 0 → cells g length ≡ cell
    cells-short_exact policy none = by_policy length refl ∙ ap (λ p. cells_by p g length) policy ∙ covering_exact none

    pub cells-short_more : g.policy ≡ LastShort → (rest ≡ 0 → ⊥) → cells g length ≡ cell + 1
    cells-short_more policy more = by_policy length refl ∙ ap (λ p. cells_by p g length) policy ∙ covering_more more

    pub cells-long : g.policy ≡ LastLong → cells g length ≡ max cell 1
    cells-long policy = by_policy length refl ∙ ap (λ p. cells_by p g length) policy ∙ ap (max 1) reached ∙ max_comm 1 cell

    pub cells-rounded_up : g.policy ≡ LastRounded → duration ≤ rest * 2 → cells g length ≡ cell + 1
    cells-rounded_up policy half =
        by_policy length refl ∙ ap (λ p. cells_by p g length) policy ∙ ap (max 1) (rounded ∙ ap (λ b. cond b (cell + 1) cell) (le-leb duration (2 * rest) (omega (arith, half)))) ∙ omega arith

    pub cells-rounded_down : g.policy ≡ LastRounded → rest * 2 < duration → cells g length ≡ max cell 1
    cells-rounded_down policy half =
        by_policy length refl ∙ ap (λ p. cells_by p g length) policy ∙ ap (max 1) (rounded ∙ ap (λ b. cond b (cell + 1) cell) (lt-leb duration (2 * rest) (omega (arith, half)))) ∙ max_comm 1 cell

-- ---- sums of durations

pub sum_small : (ds : List ℕ) → AllByRecursion (IsInRange 1 600000) ds → sum ds ≤ length ds * 600000
sum_small [] all = omega arith
sum_small (d ∷ ds) all = omega (arith, sum_by-cons (λ (x : ℕ). x) d ds, all.0.1, sum_small ds all.1)

pub front_small : (ds : List ℕ) (n : ℕ) → AllByRecursion (IsInRange 1 600000) ds → length ds ≤ 16 → sum (take n ds) ≤ 9600000
front_small ds n all few = omega (arith, sum_by-take-le (λ (x : ℕ). x) ds n, sum_small ds all)

-- ---- the last cell that is reached

pub reached_inside : (g : SegmentGrid) → HasRanges g → (ms i rest duration : ℕ) → i < length g.bootstrap → duration ≡ get_or g.bootstrap i 0
    → sum (take i g.bootstrap) + rest ≡ ms → i + rest ≤ ms → rest < duration → IsReached g ms i rest duration
reached_inside g has ms i rest duration within is passed small less = record {
  begins = omega (arith, boundary_inside g i (omega arith), passed);
  lasts = omega (arith, boundary_next_inside g i 0 within, is);
  within = less;
  small = small;
  short = (let some = in_range_at 1 600000 g.bootstrap has.bootstrap i 0 within in omega (arith, some.1, is));
}

-- no cell lasts longer than 600,000 ms
pub front_low : (ds : List ℕ) (n : ℕ) → AllByRecursion (IsInRange 1 600000) ds → sum (take n ds) ≤ n * 600000
front_low [] zero all = omega arith
front_low [] (suc n) all = omega arith
front_low (d ∷ ds) zero all = omega arith
front_low (d ∷ ds) (suc n) all = omega (arith, sum_by-cons (λ (x : ℕ). x) d (take n ds), all.0.1, front_low ds n all.1)

-- a boundary of a number up to 2^40 fits 64 bits
pub boundary_fits : (first steps step : ℕ) → first ≤ 9600000 → steps ≤ 2 ^ 40 → step ≤ 600000 → first + steps * step < 2 ^ 64
boundary_fits first steps step few some short =
    let times : steps * step ≤ steps * 600000 = mul-le-mul_left steps short in
    let most : steps * 600000 ≤ 2 ^ 40 * 600000 = mul-le-mul_right 600000 some in
    omega arith
