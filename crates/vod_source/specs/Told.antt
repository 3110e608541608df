-- Lists that an object may tell or keep to itself, as what a sink received and what a store lent (this project's own).
use Rattle.std.specs.Prelude.{◌≡◌, ℕ, List, ◌++◌, length, Option, option_map, Result, MatchResult}

-- the list, where it is told, with more at its end
abbrev pub told_with : {A : Type 0} → Option (List A) → List A → Option (List A)
told_with told more = option_map (λ before. before ++ more) told

-- it grew by a prefix of these
pub record GrewByPrefix {A : Type 0} (before now : Option (List A)) (all : List A) : Type 0 where
  pub front : List A
  pub back : List A
  pub split : all ≡ front ++ back
  pub grew : now ≡ told_with before front

-- it grew by so many
pub record GrewByCount {A : Type 0} (before now : Option (List A)) (count : ℕ) : Type 0 where
  pub more : List A
  pub many : length more ≡ count
  pub grew : now ≡ told_with before more

-- it grew by all of these at Ok, and by a prefix of them after a failure
abbrev pub Grows : {A T E : Type 0} → Option (List A) → Option (List A) → Result T E → List A → Type 0
Grows before now result all = MatchResult result (λ _. now ≡ told_with before all) (λ _. GrewByPrefix before now all)
