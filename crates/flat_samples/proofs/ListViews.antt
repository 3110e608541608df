-- Lists through a view of their elements, and integers of a bounded size.
use Rattle.std.proofs.Common.{◌≡◌, ℕ, suc, ◌+◌, ◌-◌, ◌≤◌, Bool, true, false, cond, not, ◌||◌, List, [], ◌∷◌, length, map, filter, take, drop, ℤ, pos, negsuc, ◌+ℤ◌, ◌≤ℤ◌, Some, None, slice_range, unwrap_or, unsigned_abs, refl, sym, ap, ◌∙◌, arith, ltb}
use Rattle.std.specs.Prelude.{is_some}
use Rattle.std.specs.List.{list_any, position, position_or_len}
use Rattle.std.proofs.lemmas.Bool.{cond_both, ltb-false, lt-ltb}
use Rattle.std.proofs.lemmas.Bool.Decides.{nat_tests}
use Rattle.std.proofs.lemmas.Int.{ints}
use Rattle.std.proofs.lemmas.List.{drop-map, take-map}

-- ---- lists through a view

pub list_any-map : {X Y : Type 0} (f : X → Y) (p : Y → Bool) (xs : List X) → list_any p (map f xs) ≡ list_any (λ x. p (f x)) xs
list_any-map f p [] = refl
list_any-map f p (x ∷ xs) = ap (λ b. p (f x) || b) (list_any-map f p xs)

pub position_or_len-map : {X Y : Type 0} (f : X → Y) (p : Y → Bool) (xs : List X) → position_or_len p (map f xs) ≡ position_or_len (λ x. p (f x)) xs
position_or_len-map f p [] = refl
position_or_len-map f p (x ∷ xs) = ap (λ n. cond (not (p (f x))) (1 + n) 0) (position_or_len-map f p xs)

pub filter-map : {X Y : Type 0} (f : X → Y) (p : Y → Bool) (xs : List X) → filter p (map f xs) ≡ map f (filter (λ x. p (f x)) xs)
filter-map f p [] = refl
filter-map {X} {Y} f p (x ∷ xs) = step (p (f x)) (filter p (map f xs)) (filter (λ x. p (f x)) xs) (filter-map f p xs)
  where
    step : (b : Bool) (ys : List Y) (zs : List X) → ys ≡ map f zs → cond b (f x ∷ ys) ys ≡ map f (cond b (x ∷ zs) zs)
    step true ys zs e = ap (λ ys. f x ∷ ys) e
    step false ys zs e = e

pub slice_range-map : {X Y : Type 0} (f : X → Y) (i j : ℕ) (xs : List X) → map f (slice_range xs i j) ≡ slice_range (map f xs) i j
slice_range-map f i j xs = sym (ap (take (j - i)) (drop-map f i xs) ∙ take-map f (j - i) (drop i xs))

pub position_or_len-le : {X : Type 0} (p : X → Bool) (xs : List X) → position_or_len p xs ≤ length xs
position_or_len-le p [] = omega arith
position_or_len-le p (x ∷ xs) = cond_both (not (p x)) (1 + position_or_len p xs) 0 (λ n. n ≤ length (x ∷ xs)) (λ e. omega (arith, position_or_len-le p xs)) (λ e. omega arith)

-- a position, and the length where there is none
pub unwrap_or-position : {X : Type 0} (p : X → Bool) (xs : List X) → unwrap_or (position p xs) (length xs) ≡ position_or_len p xs
unwrap_or-position p xs = found (position_or_len p xs) (length xs) (ltb (position_or_len p xs) (length xs)) refl (position_or_len-le p xs)
  where
    found : (n m : ℕ) (b : Bool) → ltb n m ≡ b → n ≤ m → unwrap_or (cond b (Some n) None) m ≡ n
    found n m true e le = refl
    found n m false e le = omega (arith, ltb-false n m e)

-- there is one where some element passes
pub is_some-position : {X : Type 0} (p : X → Bool) (xs : List X) → is_some (position p xs) ≡ list_any p xs
is_some-position p [] = refl
is_some-position p (x ∷ xs) = step (p x) (position_or_len p xs) (length xs) (list_any p xs) (is_some-position p xs)
  where
    step : (b : Bool) (n m : ℕ) (any : Bool) → is_some (cond (ltb n m) (Some n) None) ≡ any
        → is_some (cond (ltb (cond (not b) (1 + n) 0) (suc m)) (Some (cond (not b) (1 + n) 0)) None) ≡ (b || any)
    step true n m any e = ap (λ b. is_some {T = ℕ} (cond b (Some 0) None)) (lt-ltb 0 (suc m) (omega arith))
    step false n m any e = ap (λ b. is_some (cond b (Some (1 + n)) None)) (same n m) ∙ test (ltb n m) (1 + n) n ∙ e
      where
        same : (n m : ℕ) → ltb (1 + n) (suc m) ≡ ltb n m
        same n m = grind (arith, nat_tests)

        test : (b : Bool) (i j : ℕ) → is_some (cond b (Some i) None) ≡ is_some (cond b (Some j) None)
        test true i j = refl
        test false i j = refl

-- ---- integers of a bounded size

pub abs_bounds : (z : ℤ) (n : ℕ) → unsigned_abs z ≤ n → (pos 0 ≤ℤ (z +ℤ pos n)) × (z ≤ℤ pos n)
abs_bounds (pos m) n h = (omega (arith, ints, h), omega (arith, ints, h))
abs_bounds (negsuc m) n h = (omega (arith, ints, h), omega (arith, ints, h))

pub abs_from : (z : ℤ) (n : ℕ) → pos 0 ≤ℤ (z +ℤ pos n) → z ≤ℤ pos n → unsigned_abs z ≤ n
abs_from (pos m) n l u = omega (arith, ints, l, u)
abs_from (negsuc m) n l u = omega (arith, ints, l, u)
