-- What holds of each number holds of what is made of the numbers of a range.
use Rattle.std.proofs.Common.{◌≡◌, ℕ, zero, suc, ◌+◌, ◌*◌, ◌<◌, ◌≤◌, Bool, true, false, cond, List, [], ◌∷◌, length, map, filter, Option, Some, None, refl, sym, subst, arith}
use Rattle.std.specs.Prelude.{option_map, sum_by, nat_lt, IfSome}
use Rattle.std.specs.List.{range_with_len, AllByRecursion, list_all}
use Rattle.std.proofs.lemmas.Bool.{lt-ltb, le-leb}
use Rattle.std.proofs.lemmas.List.Sums.{sum_by-cons}
use Rattle.std.proofs.lemmas.Option.{same_Some}
use Rattle.mp4_model.specs.Validity.{rise_from, is_up_to}

pub each_made : {X : Type 0} (P : X → Type 0) (f : ℕ → X) (s k : ℕ) → ((i : ℕ) → i < s + k → P (f i)) → AllByRecursion P (map f (range_with_len s k))
each_made P f s zero h = tt
each_made P f s (suc k) h = (h s (omega arith), each_made P f (s + 1) k (λ i lt. h i (omega arith)))

pub all_made : {X : Type 0} (p : X → Bool) (f : ℕ → X) (s k : ℕ) → ((i : ℕ) → i < s + k → p (f i) ≡ true) → list_all p (map f (range_with_len s k)) ≡ true
all_made p f s zero h = refl
all_made p f s (suc k) h = rw (h s (omega arith), all_made p f (s + 1) k (λ i lt. h i (omega arith))) refl

pub sum_made : {X : Type 0} (g : X → ℕ) (f : ℕ → X) (most s k : ℕ) → ((i : ℕ) → g (f i) ≤ most) → sum_by g (map f (range_with_len s k)) ≤ most * k
sum_made g f most s zero h = omega arith
sum_made g f most s (suc k) h = omega (arith, sum_by-cons g (f s) (map f (range_with_len (s + 1) k)), sum_made g f most (s + 1) k h, h s)

pub sum_twice : {X : Type 0} (g h : X → ℕ) (xs : List X) → AllByRecursion (λ x. g x ≤ 2 * h x) xs → sum_by g xs ≤ 2 * sum_by h xs
sum_twice g h [] each = omega arith
sum_twice g h (x ∷ xs) each = omega (arith, sum_by-cons g x xs, sum_by-cons h x xs, sum_twice g h xs each.1, each.0)

-- ---- the numbers from 1 of what passes a test

abbrev numbers : (ℕ → Bool) → ℕ → ℕ → List ℕ
numbers p s k = map (λ i. i + 1) (filter p (range_with_len s k))

pub each_number : (P : ℕ → Type 0) (p : ℕ → Bool) (s k : ℕ) → ((i : ℕ) → i < s + k → P (i + 1)) → AllByRecursion P (numbers p s k)
each_number P p s zero h = tt
each_number P p s (suc k) h = go (p s) (h s (omega arith)) (each_number P p (s + 1) k (λ i lt. h i (omega arith)))
  where
    go : (b : Bool) → P (s + 1) → AllByRecursion P (numbers p (s + 1) k) → AllByRecursion P (map (λ i. i + 1) (cond b (s ∷ filter p (range_with_len (s + 1) k)) (filter p (range_with_len (s + 1) k))))
    go true here later = (here, later)
    go false here later = later

pub numbers_up_to : (p : ℕ → Bool) (s k most : ℕ) → s + k ≤ most → list_all (is_up_to (Some most)) (numbers p s k) ≡ true
numbers_up_to p s zero most h = refl
numbers_up_to p s (suc k) most h = go (p s) (le-leb (s + 1) most (omega arith)) (numbers_up_to p (s + 1) k most (omega arith))
  where
    go : (b : Bool) → is_up_to (Some most) (s + 1) ≡ true → list_all (is_up_to (Some most)) (numbers p (s + 1) k) ≡ true →
        list_all (is_up_to (Some most)) (map (λ i. i + 1) (cond b (s ∷ filter p (range_with_len (s + 1) k)) (filter p (range_with_len (s + 1) k)))) ≡ true
    go true here later = rw (here, later) refl
    go false here later = later

pub numbers_rise : (p : ℕ → Bool) (bound s k : ℕ) → bound ≤ s → rise_from bound (numbers p s k) ≡ true
numbers_rise p bound s zero h = refl
numbers_rise p bound s (suc k) h = go (p s) (lt-ltb bound (s + 1) (omega arith)) (numbers_rise p (s + 1) (s + 1) k (omega arith)) (numbers_rise p bound (s + 1) k (omega arith))
  where
    go : (b : Bool) → nat_lt bound (s + 1) ≡ true → rise_from (s + 1) (numbers p (s + 1) k) ≡ true → rise_from bound (numbers p (s + 1) k) ≡ true →
        rise_from bound (map (λ i. i + 1) (cond b (s ∷ filter p (range_with_len (s + 1) k)) (filter p (range_with_len (s + 1) k)))) ≡ true
    go true here later skipped = rw (here, later) refl
    go false here later skipped = skipped

pub few_numbers : (p : ℕ → Bool) (s k : ℕ) → length (numbers p s k) ≤ k
few_numbers p s zero = omega arith
few_numbers p s (suc k) = go (p s) (few_numbers p (s + 1) k)
  where
    go : (b : Bool) → length (numbers p (s + 1) k) ≤ k → length (map (λ i. i + 1) (cond b (s ∷ filter p (range_with_len (s + 1) k)) (filter p (range_with_len (s + 1) k)))) ≤ suc k
    go true h = omega (arith, h)
    go false h = omega (arith, h)

-- ---- what is given under a view

pub given : {V X : Type 0} (view : V → X) (P : X → Type 0) (o : Option V) (x : X) → option_map view o ≡ Some x → P x → IfSome o (λ v. P (view v))
given view P None x e h = tt
given view P (Some v) x e h = subst P (sym (same_Some (view v) x e)) h

pub not_given : {V X : Type 0} (view : V → X) (P : X → Type 0) (o : Option V) → option_map view o ≡ None → IfSome o (λ v. P (view v))
not_given view P None e = tt
not_given view P (Some v) e = absurd cc
