-- Laws of lists that may be told.
use Rattle.std.proofs.Common.{◌≡◌, ◌+◌, ℕ, List, [], ◌++◌, length-append, Some, None, Option, refl, sym, ap, ◌∙◌, arith, append_assoc, append-nil}
use Rattle.vod_source.specs.Told.{told_with, GrewByPrefix, GrewByCount}

-- nothing more
pub told_with-nil : {A : Type 0} (told : Option (List A)) → told_with told [] ≡ told
told_with-nil None = refl
told_with-nil (Some xs) = ap Some (append-nil xs)

-- more, and then more, in two forms
pub told_with-append : {A : Type 0} (told : Option (List A)) (xs ys : List A) → told_with (told_with told xs) ys ≡ told_with told (xs ++ ys)
told_with-append None xs ys = refl
told_with-append (Some before) xs ys = ap Some (append_assoc before xs ys)

pub told_with-more : {A : Type 0} (before middle now : Option (List A)) (first second : List A) → middle ≡ told_with before first
    → now ≡ told_with middle second → now ≡ told_with before (first ++ second)
told_with-more before middle now first second e f = f ∙ ap (λ told. told_with told second) e ∙ told_with-append before first second

-- what stayed as it was grew by nothing
pub GrewByPrefix-same : {A : Type 0} (before now : Option (List A)) (all : List A) → now ≡ before → GrewByPrefix before now all
GrewByPrefix-same before now all e = record { front = []; back = all; split = refl; grew = e ∙ sym (told_with-nil before) }

-- a whole list is a prefix of itself
pub GrewByPrefix-whole : {A : Type 0} (before now : Option (List A)) (all : List A) → now ≡ told_with before all → GrewByPrefix before now all
GrewByPrefix-whole before now all e = record { front = all; back = []; split = sym (append-nil all); grew = e }

-- a prefix of what comes after a whole list
pub GrewByPrefix-after : {A : Type 0} {before middle now : Option (List A)} (first : List A) {second : List A} → middle ≡ told_with before first
    → GrewByPrefix middle now second → GrewByPrefix before now (first ++ second)
GrewByPrefix-after {A} {before} {middle} {now} first {second} e grown =
    record {
      front = first ++ grown.front;
      back = grown.back;
      split = ap (λ xs. first ++ xs) grown.split ∙ sym (append_assoc first grown.front grown.back);
      grew = grown.grew ∙ ap (λ told. told_with told grown.front) e ∙ told_with-append before first grown.front;
    }

-- a prefix of a prefix
pub GrewByPrefix-more : {A : Type 0} {before now : Option (List A)} {first : List A} (second : List A) → GrewByPrefix before now first
    → GrewByPrefix before now (first ++ second)
GrewByPrefix-more {A} {before} {now} {first} second grown =
    record {
      front = grown.front;
      back = grown.back ++ second;
      split = ap (λ xs. xs ++ second) grown.split ∙ append_assoc grown.front grown.back second;
      grew = grown.grew;
    }

-- a prefix of the front of a list
pub GrewByPrefix-front : {A : Type 0} {before now : Option (List A)} (first rest all : List A) → all ≡ first ++ rest → GrewByPrefix before now first
    → GrewByPrefix before now all
GrewByPrefix-front {A} {before} {now} first rest all e grown =
    record {
      front = grown.front;
      back = grown.back ++ rest;
      split = e ∙ ap (λ xs. xs ++ rest) grown.split ∙ append_assoc grown.front grown.back rest;
      grew = grown.grew;
    }

-- it grew by none
pub GrewByCount-none : {A : Type 0} (told : Option (List A)) → GrewByCount told told 0
GrewByCount-none told = record { more = []; many = refl; grew = sym (told_with-nil told) }

-- it grew by some, and then by more
pub GrewByCount-more : {A : Type 0} {before middle now : Option (List A)} {m n : ℕ} → GrewByCount before middle m → GrewByCount middle now n
    → GrewByCount before now (m + n)
GrewByCount-more {A} {before} {middle} {now} {m} {n} first second =
    record {
      more = first.more ++ second.more;
      many = length-append first.more second.more ∙ omega (arith, first.many, second.many);
      grew = told_with-more before middle now first.more second.more first.grew second.grew;
    }
