-- How many sync samples stand before one, by the place of its number in `stss`.
use Rattle.std.proofs.Common.{◌≡◌, ℕ, zero, suc, ◌+◌, ◌<◌, ◌≤◌, Bool, true, false, cond, eqb, List, [], ◌∷◌, length, get_or, filter, Option, Some, None, inl, inr, refl, ap, ◌∙◌, arith}
use Rattle.std.specs.Prelude.{slice_get}
use Rattle.std.specs.List.{list_any, range_with_len}
use Rattle.std.specs.Option.{option_map_or}
use Rattle.std.proofs.lemmas.Bool.{cases_lt, cases_eq}
use Rattle.std.proofs.lemmas.Option.{slice_get-get_or}
use Rattle.mp4_model.specs.Samples.{is_sync}
use Rattle.mp4_model.specs.Tables.{SampleTables}
use Rattle.mp4_model.specs.Validity.{rise_from}
use Rattle.time_runs.specs.Cursors.{IsNext}
use Rattle.time_runs.proofs.RisingLemmas.{is_next_one, next_after_all, next_passes, next_stays, none_after_all, none_before_next, rise_above}
use Rattle.mp4_clip.specs.Syncs.{syncs_before}

-- ---- numbers that pass a test

count-cons : (b : Bool) (a : ℕ) (xs : List ℕ) → length (cond b (a ∷ xs) xs) ≡ cond b 1 0 + length xs
count-cons true a xs = omega arith
count-cons false a xs = omega arith

-- what one number adds
abbrev one_if : Bool → ℕ
one_if b = cond b 1 0

-- one number more
pub count-more : (q : ℕ → Bool) (a n : ℕ) → length (filter q (range_with_len a (suc n))) ≡ length (filter q (range_with_len a n)) + cond (q (a + n)) 1 0
count-more q a zero =
    let same : a + 0 ≡ a = omega arith in
    let last : one_if (q (a + 0)) ≡ one_if (q a) = ap (λ (i : ℕ). one_if (q i)) same in
    omega (arith, count-cons (q a) a [], last)
count-more q a (suc n) =
    let later : length (filter q (range_with_len (a + 1) (suc n))) ≡ length (filter q (range_with_len (a + 1) n)) + cond (q (a + 1 + n)) 1 0 = count-more q (a + 1) n in
    let same : a + 1 + n ≡ a + suc n = omega arith in
    let last : one_if (q (a + 1 + n)) ≡ one_if (q (a + suc n)) = ap (λ (i : ℕ). one_if (q i)) same in
    omega (arith, count-cons (q a) a (filter q (range_with_len (a + 1) (suc n))), count-cons (q a) a (filter q (range_with_len (a + 1) n)), later, last)

-- two ranges, one behind the other
pub count-split : (q : ℕ → Bool) (a n : ℕ) → length (filter q (range_with_len 0 (a + n))) ≡ length (filter q (range_with_len 0 a)) + length (filter q (range_with_len a n))
count-split q a zero = let same : a + 0 ≡ a = omega arith in ap (λ (i : ℕ). length (filter q (range_with_len 0 i))) same ∙ (let e : length (filter q (range_with_len 0 a)) ≡ length (filter q (range_with_len 0 a)) + 0 = omega arith in e)
count-split q a (suc n) =
    let same : a + suc n ≡ suc (a + n) = omega arith in
    let place : 0 + (a + n) ≡ a + n = omega arith in
    let last : one_if (q (0 + (a + n))) ≡ one_if (q (a + n)) = ap (λ (i : ℕ). one_if (q i)) place in
    omega (arith, ap (λ (i : ℕ). length (filter q (range_with_len 0 i))) same, count-more q 0 (a + n), count-more q a n, count-split q a n, last)

-- all of them
count-all : (q : ℕ → Bool) (a n : ℕ) → ((i : ℕ) → q i ≡ true) → length (filter q (range_with_len a n)) ≡ n
count-all q a zero all = refl
count-all q a (suc n) all =
    let one : one_if (q (a + n)) ≡ 1 = ap one_if (all (a + n)) in
    omega (arith, count-more q a n, count-all q a n all, one)

-- ---- a table of rising numbers

module _ (numbers : List ℕ) where
  -- there is one place of the first number above another
  one_place : (i p q : ℕ) → IsNext numbers i p 0 → IsNext numbers i q 0 → p ≡ q
  one_place i p q a b = elim (cases_lt p q) [
    | inl less ↦
        let low : get_or numbers p 0 ≤ i = b.passed p less in
        let high : i < get_or numbers p 0 = a.ahead p (omega arith) (omega (arith, less, b.within)) in
        absurd (omega (arith, low, high))
    | inr not_less ↦ elim (cases_lt q p) [
      | inl less ↦
          let low : get_or numbers q 0 ≤ i = a.passed q less in
          let high : i < get_or numbers q 0 = b.ahead q (omega arith) (omega (arith, less, a.within)) in
          absurd (omega (arith, low, high))
      | inr other ↦ omega (arith, not_less, other)
    ]
  ]

  module _ (t : SampleTables) (is : t.stss ≡ Some numbers) (rise : rise_from 0 numbers ≡ true) where
    among : (k : ℕ) → is_sync t k ≡ list_any (λ (n : ℕ). eqb n (k + 1)) numbers
    among k = ap (λ (o : Option (List ℕ)). option_map_or (λ (ns : List ℕ). list_any (λ (n : ℕ). eqb n (k + 1)) ns) o true) is

    record Counted (i : ℕ) : Type 0 where
      place : ℕ
      next : IsNext numbers i place 0
      count : place ≡ syncs_before t i

    one_more : (i : ℕ) (b : Bool) → is_sync t i ≡ b → syncs_before t (suc i) ≡ syncs_before t i + cond b 1 0
    one_more i b e =
        let place : 0 + i ≡ i = omega arith in
        count-more (is_sync t) 0 i ∙ ap (λ (c : Bool). syncs_before t i + one_if c) (ap (is_sync t) place ∙ e)

    counted : (i : ℕ) → Counted i
    counted zero = record {
      place = 0;
      next = record { passed = λ k h. absurd (omega arith); ahead = λ k h lt. rise_above 0 numbers k rise lt; known = λ none. absurd (none refl); within = omega arith };
      count = refl;
    }
    counted (suc i) =
        let c : Counted i = counted i in
        let at : suc i ≡ i + 1 = omega arith in
        elim (cases_lt c.place (length numbers)) [
          | inr all ↦
              let last : c.place ≡ length numbers = omega (arith, all, c.next.within) in
              let later : IsNext numbers (i + 1) c.place 0 = next_after_all numbers i c.place 0 last c.next in
              let none : is_sync t i ≡ false = among i ∙ none_after_all numbers i c.place 0 last c.next in
              record {
                place = c.place;
                next = rw at later;
                count = omega (arith, c.count, one_more i false none);
              }
          | inl left ↦
              let n : ℕ = get_or numbers c.place 0 in
              let here : slice_get numbers c.place ≡ Some n = slice_get-get_or numbers c.place 0 left in
              elim (cases_eq n (i + 1)) [
                | inl e ↦
                    let later : IsNext numbers (i + 1) (c.place + 1) 0 = next_passes numbers i c.place 0 n here e rise c.next in
                    let sync : is_sync t i ≡ true = among i ∙ is_next_one numbers i c.place n here e in
                    record {
                      place = c.place + 1;
                      next = rw at later;
                      count = omega (arith, c.count, one_more i true sync);
                    }
                | inr ne ↦
                    let later : IsNext numbers (i + 1) c.place n = next_stays numbers i c.place 0 n here ne rise c.next in
                    let none : is_sync t i ≡ false = among i ∙ none_before_next numbers i c.place 0 n rise here ne c.next in
                    record {
                      place = c.place;
                      next = rw at (record { passed = later.passed; ahead = later.ahead; known = λ zero. absurd (zero refl); within = later.within });
                      count = omega (arith, c.count, one_more i false none);
                    }
              ]
        ]

    -- and it is the number of sync samples before it
    pub syncs-placed : (i place : ℕ) → IsNext numbers i place 0 → place ≡ syncs_before t i
    syncs-placed i place next = one_place i place (counted i).place next (counted i).next ∙ (counted i).count

-- without `stss` each sample is one
pub syncs-all : (t : SampleTables) (i : ℕ) → t.stss ≡ None → syncs_before t i ≡ i
syncs-all t i none = count-all (is_sync t) 0 i (λ k. ap (λ (o : Option (List ℕ)). option_map_or (λ (ns : List ℕ). list_any (λ (n : ℕ). eqb n (k + 1)) ns) o true) none)
