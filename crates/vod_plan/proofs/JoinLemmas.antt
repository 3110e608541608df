-- Places, ranges and elements of joined lists, and lists whose elements are changed one after another.
use Rattle.std.proofs.Common.{◌≡◌, ℕ, zero, suc, ◌+◌, ◌-◌, ◌<◌, ◌≤◌, min, Bool, true, false, not, cond, ◌&&◌, List, [], ◌∷◌, ◌++◌, length, filter, take, drop, set, get_or, inl, inr, refl, sym, ap, ap₂, ◌∙◌, arith, add-one, append-nil, length-drop, drop-drop, max}
use Rattle.std.specs.Prelude.{slice_get, slice_range, ⊤}
use Rattle.std.specs.List.{position_or_len, AllByRecursion}
use Rattle.std.proofs.Math.Seq.{drop-cons, drop-append-add, take-append-add}
use Rattle.std.proofs.lemmas.Bool.{cases_lt, true≢false}
use Rattle.std.proofs.lemmas.List.{drop-append-le, drop-take, take-append-le, take_rest}

-- ---- a list that is gone through

pub drop_item : {X : Type 0} (xs : List X) (i : ℕ) (x : X) → i < length xs → x ≡ get_or xs i x → drop i xs ≡ x ∷ drop (i + 1) xs
drop_item xs i x lt is = rw (add-one) (drop-cons xs i x lt ∙ ap (λ y. y ∷ drop (suc i) xs) (sym is))

changed_at : {X : Type 0} (F G : List X → List X) (xs : List X) (i : ℕ) (y : X) → i < length xs → F (drop i xs) ≡ y ∷ G (drop (suc i) xs)
    → take i xs ++ F (drop i xs) ≡ take (suc i) (set xs i y) ++ G (drop (suc i) (set xs i y))
changed_at F G [] i y lt e = absurd (omega arith)
changed_at F G (x ∷ xs) zero y lt e = e
changed_at {X} F G (x ∷ xs) (suc i) y lt e = ap (λ (ys : List X). x ∷ ys) (changed_at F G xs i y (omega arith) e)

-- One step on: the first elements stand as they were made, and the others are made of those that are left.
pub changed : {X : Type 0} (F G : List X → List X) (xs : List X) (i : ℕ) (y : X) → i < length xs → F (drop i xs) ≡ y ∷ G (drop (i + 1) xs)
    → take i xs ++ F (drop i xs) ≡ take (i + 1) (set xs i y) ++ G (drop (i + 1) (set xs i y))
changed F G xs i y lt e =
    let more : i + 1 ≡ suc i = omega arith in
    changed_at F G xs i y lt (e ∙ ap (λ (n : ℕ). y ∷ G (drop n xs)) more)
    ∙ ap (λ (n : ℕ). take n (set xs i y) ++ G (drop n (set xs i y))) (sym more)

take_nil : {X : Type 0} (n : ℕ) → take {A = X} n [] ≡ []
take_nil zero = refl
take_nil (suc n) = refl

drop_nil : {X : Type 0} (n : ℕ) → drop {A = X} n [] ≡ []
drop_nil zero = refl
drop_nil (suc n) = refl

-- at the end all of them stand as they were made
pub changed_all : {X : Type 0} (F : List X → List X) (xs : List X) (i : ℕ) → F [] ≡ [] → length xs ≤ i → take i xs ++ F (drop i xs) ≡ xs
changed_all {X} F [] i e le = ap₂ (λ (us vs : List X). us ++ F vs) (take_nil i) (drop_nil i) ∙ e
changed_all F (x ∷ xs) zero e le = absurd (omega arith)
changed_all {X} F (x ∷ xs) (suc i) e le = ap (λ (ys : List X). x ∷ ys) (changed_all F xs i e (omega arith))

-- ---- places

pub position-within : {X : Type 0} (p : X → Bool) (xs ys : List X) → position_or_len p xs < length xs → position_or_len p (xs ++ ys) ≡ position_or_len p xs
position-within p [] ys h = absurd (omega arith)
position-within p (x ∷ xs) ys h = go (p x) h (position-within p xs ys)
  where
    go : (b : Bool) → cond (not b) (1 + position_or_len p xs) 0 < suc (length xs) → (position_or_len p xs < length xs → position_or_len p (xs ++ ys) ≡ position_or_len p xs)
        → cond (not b) (1 + position_or_len p (xs ++ ys)) 0 ≡ cond (not b) (1 + position_or_len p xs) 0
    go true h later = refl
    go false h later = ap (λ (n : ℕ). 1 + n) (later (omega (arith, h)))

pub position-past : {X : Type 0} (p : X → Bool) (xs ys : List X) → length xs ≤ position_or_len p xs → position_or_len p (xs ++ ys) ≡ length xs + position_or_len p ys
position-past p [] ys h = omega arith
position-past p (x ∷ xs) ys h = go (p x) h (position-past p xs ys)
  where
    go : (b : Bool) → suc (length xs) ≤ cond (not b) (1 + position_or_len p xs) 0 → (length xs ≤ position_or_len p xs → position_or_len p (xs ++ ys) ≡ length xs + position_or_len p ys)
        → cond (not b) (1 + position_or_len p (xs ++ ys)) 0 ≡ suc (length xs) + position_or_len p ys
    go true h later = absurd (omega (arith, h))
    go false h later = let past = later (omega (arith, h)) in omega (arith, past)

pub position-agree : {X : Type 0} (p q : X → Bool) → ((x : X) → p x ≡ q x) → (xs : List X) → position_or_len p xs ≡ position_or_len q xs
position-agree p q same [] = refl
position-agree p q same (x ∷ xs) = ap₂ (λ (b : Bool) (n : ℕ). cond (not b) (1 + n) 0) (same x) (position-agree p q same xs)

pub position-none : {X : Type 0} (xs : List X) → position_or_len (λ (x : X). false) xs ≡ length xs
position-none [] = refl
position-none (x ∷ xs) = let later = position-none xs in omega (arith, later)

pub position-most : {X : Type 0} (p : X → Bool) (xs : List X) → position_or_len p xs ≤ length xs
position-most p [] = omega arith
position-most p (x ∷ xs) = go (p x) (position-most p xs)
  where
    go : (b : Bool) → position_or_len p xs ≤ length xs → cond (not b) (1 + position_or_len p xs) 0 ≤ suc (length xs)
    go true h = omega arith
    go false h = omega (arith, h)

-- ---- ranges

pub range-nil : {X : Type 0} (a b : ℕ) → slice_range {X = X} [] a b ≡ []
range-nil {X} a b = ap (λ (xs : List X). take (b - a) xs) (drop_nil a) ∙ take_nil (b - a)

pub range-same : {X : Type 0} (xs : List X) (a b c d : ℕ) → a ≡ c → b - a ≡ d - c → slice_range xs a b ≡ slice_range xs c d
range-same xs a b c d e f = ap₂ (λ (m n : ℕ). take m (drop n xs)) f e

range-empty : {X : Type 0} (xs : List X) (a b : ℕ) → b ≤ a → slice_range xs a b ≡ []
range-empty xs a b h = ap (λ (n : ℕ). take n (drop a xs)) (let e : b - a ≡ 0 = omega arith in e)

-- a range of joined lists has a range of each
pub range-join : {X : Type 0} (xs ys : List X) (a b n : ℕ) → length xs ≡ n → slice_range (xs ++ ys) a b ≡ slice_range xs (min a n) (min b n) ++ slice_range ys (a - n) (b - n)
range-join {X} xs ys a b n long = elim (cases_lt n a) [
  | inl past ↦
      ap (take (b - a)) (ap (λ (m : ℕ). drop m (xs ++ ys)) (let e : a ≡ length xs + (a - n) = omega arith in e) ∙ drop-append-add xs ys (a - n))
      ∙ ap (λ (m : ℕ). take m (drop (a - n) ys)) (let e : b - a ≡ b - n - (a - n) = omega arith in e)
      ∙ sym (ap (λ (zs : List X). zs ++ slice_range ys (a - n) (b - n)) (range-empty xs (min a n) (min b n) (omega arith)))
  | inr within ↦ ap (take (b - a)) (drop-append-le a xs ys (omega arith)) ∙ inside within
]
  where
    left : a ≤ n → length (drop a xs) ≡ n - a
    left within = omega (arith, length-drop a xs)

    inside : a ≤ n → take (b - a) (drop a xs ++ ys) ≡ slice_range xs (min a n) (min b n) ++ slice_range ys (a - n) (b - n)
    inside within = elim (cases_lt n b) [
      | inl more ↦
          ap (λ (m : ℕ). take m (drop a xs ++ ys)) (let e : b - a ≡ length (drop a xs) + (b - n) = omega (arith, left within) in e)
          ∙ take-append-add (drop a xs) ys (b - n)
          ∙ ap₂ (λ (us vs : List X). us ++ vs)
          (sym (take_rest xs a) ∙ range-same xs a (length xs) (min a n) (min b n) (omega arith) (omega (arith, long)))
          (ap (λ (m : ℕ). take m ys) (let e : b - n ≡ b - n - 0 = omega arith in e) ∙ range-same ys 0 (b - n) (a - n) (b - n) (omega arith) (omega arith))
      | inr all ↦
          take-append-le (b - a) (drop a xs) ys (omega (arith, left within))
          ∙ range-same xs a b (min a n) (min b n) (omega arith) (omega arith)
          ∙ sym (append-nil (slice_range xs (min a n) (min b n)))
          ∙ ap (λ (vs : List X). slice_range xs (min a n) (min b n) ++ vs) (sym (range-empty ys (a - n) (b - n) (omega arith)))
    ]

take_front : {X : Type 0} (m n : ℕ) (ys : List X) → m ≤ n → take m (take n ys) ≡ take m ys
take_front zero n ys h = refl
take_front (suc m) zero ys h = absurd (omega arith)
take_front (suc m) (suc n) [] h = refl
take_front {X} (suc m) (suc n) (y ∷ ys) h = ap (λ (zs : List X). y ∷ zs) (take_front m n ys (omega arith))

-- a range of a range
pub range-twice : {X : Type 0} (xs : List X) (a b from to : ℕ) → to ≤ b - a → slice_range (slice_range xs a b) from to ≡ slice_range xs (a + from) (a + max from to)
range-twice {X} xs a b from to h = elim (cases_lt (b - a) from) [
  | inl past ↦ range-empty (slice_range xs a b) from to (omega (arith, h)) ∙ sym (range-empty xs (a + from) (a + max from to) (omega (arith, h)))
  | inr within ↦
      ap (λ (n : ℕ). take (to - from) (drop from (take n (drop a xs)))) (let e : b - a ≡ from + (b - a - from) = omega arith in e)
      ∙ ap (take (to - from)) (drop-take from (b - a - from) (drop a xs))
      ∙ take_front (to - from) (b - a - from) (drop from (drop a xs)) (omega arith)
      ∙ ap₂ (λ (n : ℕ) (ys : List X). take n ys) (let e : to - from ≡ a + max from to - (a + from) = omega arith in e) (drop-drop from a xs)
]

-- ---- rows that pass from one on

-- once an element passes, all behind it do
abbrev pub Stays : {X : Type 0} → (X → Bool) → List X → Type 0
Stays p [] = ⊤
Stays p (x ∷ xs) = (p x ≡ true → AllByRecursion (λ y. p y ≡ true) xs) × Stays p xs

pub stays-never : {X : Type 0} (xs : List X) → Stays (λ (x : X). false) xs
stays-never [] = tt
stays-never (x ∷ xs) = (λ yes. absurd (true≢false (sym yes)), stays-never xs)

passes_once : {X : Type 0} (p : X → Bool) (xs : List X) → AllByRecursion (λ y. p y ≡ true) xs → position_or_len p xs ≡ 0
passes_once p [] all = refl
passes_once p (x ∷ xs) all = ap (λ (b : Bool). cond (not b) (1 + position_or_len p xs) 0) all.0

none_left : {X : Type 0} (p q : X → Bool) (xs : List X) → AllByRecursion (λ y. q y ≡ true) xs → filter (λ x. p x && not (q x)) xs ≡ []
none_left p q [] all = refl
none_left p q (x ∷ xs) all = step (p x) (q x) all.0 (none_left p q xs all.1)
  where
    step : (a b : Bool) → b ≡ true → filter (λ y. p y && not (q y)) xs ≡ [] → cond (a && not b) (x ∷ filter (λ y. p y && not (q y)) xs) (filter (λ y. p y && not (q y)) xs) ≡ []
    step true true e h = h
    step false true e h = h
    step a false e h = absurd (true≢false (sym e))

-- those that pass one test and not the other are a range
pub filter-range : {X : Type 0} (p q : X → Bool) (xs : List X) → Stays p xs → Stays q xs → filter (λ x. p x && not (q x)) xs ≡ slice_range xs (position_or_len p xs) (position_or_len q xs)
filter-range p q [] h k = refl
filter-range {X} p q (x ∷ xs) h k = step (p x) (q x) h.0 k.0 (filter-range p q xs h.1 k.1)
  where
    rest : List X
    rest = filter (λ y. p y && not (q y)) xs

    i : ℕ
    i = position_or_len p xs

    j : ℕ
    j = position_or_len q xs

    step : (a b : Bool) → (a ≡ true → AllByRecursion (λ y. p y ≡ true) xs) → (b ≡ true → AllByRecursion (λ y. q y ≡ true) xs) → rest ≡ slice_range xs i j
        → cond (a && not b) (x ∷ rest) rest ≡ slice_range (x ∷ xs) (cond (not a) (1 + i) 0) (cond (not b) (1 + j) 0)
    step true true h k e = none_left p q xs (k refl)
    step true false h k e =
        let first : i ≡ 0 = passes_once p xs (h refl) in
        ap (λ (ys : List X). x ∷ ys) (e ∙ range-same xs i j 0 j first (omega (arith, first)))
        ∙ ap (λ (n : ℕ). x ∷ take n xs) (let e : j - 0 ≡ j = omega arith in e)
        ∙ ap (λ (n : ℕ). take n (x ∷ xs)) (let e : suc j ≡ 1 + j - 0 = omega arith in e)
    step false true h k e = none_left p q xs (k refl) ∙ sym (range-empty (x ∷ xs) (1 + i) 0 (omega arith))
    step false false h k e = e ∙ ap₂ (λ (m n : ℕ). take m (drop n (x ∷ xs))) (let e : j - i ≡ 1 + j - (1 + i) = omega arith in e) (let e : suc i ≡ 1 + i = omega arith in e)

-- ---- elements

pub get-within : {X : Type 0} (xs ys : List X) (i : ℕ) → i < length xs → slice_get (xs ++ ys) i ≡ slice_get xs i
get-within [] ys i h = absurd (omega arith)
get-within (x ∷ xs) ys zero h = refl
get-within (x ∷ xs) ys (suc i) h = get-within xs ys i (omega arith)

pub get-past : {X : Type 0} (xs ys : List X) (i : ℕ) → length xs ≤ i → slice_get (xs ++ ys) i ≡ slice_get ys (i - length xs)
get-past [] ys i h = ap (slice_get ys) (let e : i ≡ i - 0 = omega arith in e)
get-past (x ∷ xs) ys zero h = absurd (omega arith)
get-past (x ∷ xs) ys (suc i) h = get-past xs ys i (omega arith) ∙ ap (slice_get ys) (let e : i - length xs ≡ suc i - suc (length xs) = omega arith in e)
