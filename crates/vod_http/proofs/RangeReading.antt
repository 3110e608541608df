-- How a range is read from the value of a field.
use Rattle.std.proofs.Common.{◌≡◌, ℕ, ◌+◌, ◌-◌, ◌^◌, ◌<◌, ◌≤◌, All, MatchResult, ◌&&◌, Bool, true, false, eqb, ltb, cond, List, [], ◌∷◌, length, take, drop, Option, Some, None, Result, Ok, Err, refl, sym, ap, ◌∙◌, inl, inr, ◌⊎◌, arith, bytes_eq, codes}
use Rattle.std.specs.Prelude.{option_and_then}
use Rattle.std.specs.Borrow.{Bor}
use Rattle.std.specs.Result.{result_ok}
use Rattle.std.specs.Char.{is_ascii_digit}
use Rattle.std.specs.List.{list_all, slice_split, onto_first, position_or_len}
use Rattle.std.specs.Str.{all_ascii_digits, IsUtf8}
use Rattle.std.specs.Str.Parse.{ParsesUnsigned, digits_value}
use Rattle.std.proofs.lemmas.Bool.{cases_Bool, cases_lt}
use Rattle.std.proofs.lemmas.Bool.Decides.{nat_tests}
use Rattle.std.proofs.lemmas.List.{length-drop, take_all}
use Rattle.std.proofs.lemmas.List.Elements.{All-nil, All-cons}
use Rattle.std.proofs.lemmas.List.Sums.{fails_before_first}
use Rattle.std.proofs.lemmas.List.Splits.{slice_split-cons_yes, slice_split-cons_no, slice_split_first, slice_split_none}
use Rattle.std.proofs.lemmas.Str.{IsUtf8-from_ascii}
use Rattle.std.proofs.lemmas.Str.Ascii.{IsAscii-from_all}
use Rattle.std.proofs.lemmas.Str.Parse.{parse_digits}
use Rattle.vod_types.proofs.NumberLemmas.{own}
use Rattle.vod_types.proofs.NumberRules.{list_all-digits}
use Rattle.list_model.specs.Ranges.{range_number, range_from, range_of_parts, byte_range}

-- ---- numbers

digits_ascii : (ds : List ℕ) → all_ascii_digits ds ≡ true → All (λ b. b < 128) ds
digits_ascii [] all = All-nil (λ b. b < 128)
digits_ascii (d ∷ ds) all =
    let parts : (is_ascii_digit d ≡ true) × (all_ascii_digits ds ≡ true) = grind (arith, nat_tests) in
    let first : is_ascii_digit d ≡ true = parts.0 in
    All-cons (λ b. b < 128) d ds (grind (arith, nat_tests)) (digits_ascii ds parts.1)

not_utf8 : {S E : Type 0} (P : S → Type 0) (Q : E → Type 0) (text : List ℕ) (r : Result S E) → MatchResult r P (λ e. ¬ (IsUtf8 text) × Q e) → result_ok r ≡ None → IsUtf8 text → ⊥
not_utf8 P Q text (Ok s) h none is = absurd cc
not_utf8 P Q text (Err e) h none is = h.0 is

-- digits are a text
pub digits_are_text : {S E : Type 0} (P : S → Type 0) (Q : E → Type 0) (text : List ℕ) (r : Result S E) → MatchResult r P (λ e. ¬ (IsUtf8 text) × Q e) → result_ok r ≡ None → list_all is_ascii_digit text ≡ true → ⊥
digits_are_text P Q text r h none all = not_utf8 P Q text r h none (IsUtf8-from_ascii text (IsAscii-from_all text (digits_ascii text (sym (list_all-digits text) ∙ all))))

pub text_of : {E : Type 0} (U : Type 0) (Q : E → Type 0) (text : List ℕ) (r : Result (Bor (List ℕ)) E) (s : Bor (List ℕ)) → MatchResult r (λ s. (s.now ≡ text) × U) Q → result_ok r ≡ Some s → s.now ≡ text
text_of U Q text (Ok t) s h is = let same : t ≡ s = cc in ap (λ (b : Bor (List ℕ)). b.now) (sym same) ∙ h.0
text_of U Q text (Err e) s h is = absurd cc

-- digits that `parse` refuses
pub unparsed : {E : Type 0} (text : List ℕ) (r : Result ℕ E) → ParsesUnsigned 64 10 text r → result_ok r ≡ None → all_ascii_digits text ≡ true → None ≡ range_number text
unparsed {E} text (Ok n) h none all = absurd cc
unparsed {E} [] (Err e) h none all = refl
unparsed {E} (d ∷ ds) (Err e) h none all =
    let r : Result ℕ E = Err e in
    let p = parse_digits own 64 (d ∷ ds) r h all in
    let large : ltb (digits_value 10 (d ∷ ds)) (2 ^ 63) ≡ false = by_size (digits_value 10 (d ∷ ds)) (λ small. p (omega arith, small)) in
    rw (all, large) refl
  where
    by_size : (n : ℕ) → (n < 2 ^ 64 → ⊥) → ltb n (2 ^ 63) ≡ false
    by_size n large = elim (cases_lt n (2 ^ 63)) [ inl small ↦ absurd (large (omega arith)) | inr high ↦ grind (arith, nat_tests) ]

-- ---- two parts

abbrev is_dash : ℕ → Bool
is_dash b = eqb b 45

-- a text without a dash is one part, and one with a dash is no number
cut : (xs : List ℕ) → (slice_split is_dash xs ≡ xs ∷ []) ⊎ ((a : List ℕ) × (b : List ℕ) × (more : List (List ℕ)) × (slice_split is_dash xs ≡ a ∷ b ∷ more) × (all_ascii_digits xs ≡ false))
cut [] = inl refl
cut (x ∷ xs) = elim (cases_Bool (is_dash x)) [
  | inl dashed ↦
      let none : all_ascii_digits (x ∷ xs) ≡ false = not_digit x dashed (all_ascii_digits xs) in
      elim (cut xs) [
        | inl one ↦ inr ([], xs, [], slice_split-cons_yes is_dash x xs dashed ∙ ap (λ p. [] ∷ p) one, none)
        | inr p ↦ inr ([], p.0, p.1 ∷ p.2, slice_split-cons_yes is_dash x xs dashed ∙ ap (λ p. [] ∷ p) p.3, none)
      ]
  | inr other ↦ elim (cut xs) [
    | inl one ↦ inl (slice_split-cons_no is_dash x xs other ∙ ap (onto_first x) one)
    | inr p ↦ inr (x ∷ p.0, p.1, p.2, slice_split-cons_no is_dash x xs other ∙ ap (onto_first x) p.3, and_no (is_ascii_digit x) (all_ascii_digits xs) p.4)
  ]
]
  where
    and_no : (a b : Bool) → b ≡ false → (a && b) ≡ false
    and_no true b h = h
    and_no false b h = refl

    not_digit : (x : ℕ) → eqb x 45 ≡ true → (rest : Bool) → (is_ascii_digit x && rest) ≡ false
    not_digit x dash rest = let other : is_ascii_digit x ≡ false = grind (arith, nat_tests) in ap (λ t. t && rest) other

no_number : (xs : List ℕ) → all_ascii_digits xs ≡ false → range_number xs ≡ None
no_number [] other = refl
no_number (x ∷ xs) other = rw other refl

no_last : (first : List ℕ) (last : List ℕ) → all_ascii_digits last ≡ false → range_of_parts (first ∷ last ∷ []) ≡ None
no_last [] last other = rw (no_number last other) refl
no_last (d ∷ ds) [] other = absurd cc
no_last (d ∷ ds) (x ∷ last) other = by_first (range_number (d ∷ ds))
  where
    by_first : (o : Option ℕ) → option_and_then (λ first. range_from first (x ∷ last)) o ≡ None
    by_first None = refl
    by_first (Some first) = rw (no_number (x ∷ last) other) refl

many_parts : (a b c : List ℕ) (more : List (List ℕ)) → range_of_parts (a ∷ b ∷ c ∷ more) ≡ None
many_parts [] b c more = refl
many_parts (d ∷ a) b c more = refl

one_part : (a : List ℕ) → range_of_parts (a ∷ []) ≡ None
one_part [] = refl
one_part (d ∷ a) = refl

-- a dash in the last part makes it no number
two_parts : (first last : List ℕ) → range_of_parts (first ∷ slice_split is_dash last) ≡ range_of_parts (first ∷ last ∷ [])
two_parts first last = elim (cut last) [
  | inl one ↦ ap (λ p. range_of_parts (first ∷ p)) one
  | inr p ↦ ap (λ q. range_of_parts (first ∷ q)) p.3 ∙ many_parts first p.0 p.1 p.2 ∙ sym (no_last first last p.4)
]

-- ---- the whole value

-- what a search for the dash says
abbrev Found : List ℕ → Option ℕ → Type 0
Found range r = r ≡ cond (ltb (position_or_len is_dash range) (length range)) (Some (position_or_len is_dash range)) None

pub no_unit : (value : List ℕ) → bytes_eq (take 6 value) (codes "bytes=") ≡ false → None ≡ byte_range value
unfolding byte_range
no_unit value other = rw other refl

by_test : (t : Bool) (p n : ℕ) → ltb p n ≡ t → cond t (Some p) None ≡ None → n ≤ p
by_test true p n is none = absurd cc
by_test false p n is none = grind (arith, nat_tests)

by_place : (t : Bool) (p n k : ℕ) → ltb p n ≡ t → cond t (Some p) None ≡ Some k → (p ≡ k) × (p < n)
by_place true p n k is some = (cc, grind (arith, nat_tests))
by_place false p n k is some = absurd cc

whole_part : (range : List ℕ) → length range ≤ position_or_len is_dash range → slice_split is_dash range ≡ range ∷ []
whole_part range past = slice_split_none is_dash range (λ k d lt. fails_before_first is_dash range k d (omega arith))

pub no_dash : (value range : List ℕ) (r : Option ℕ) → bytes_eq (take 6 value) (codes "bytes=") ≡ true → range ≡ drop 6 value → Found range r → r ≡ None → None ≡ byte_range value
unfolding byte_range
no_dash value range r unit is found none =
    let past : length range ≤ position_or_len is_dash range = by_test (ltb (position_or_len is_dash range) (length range)) (position_or_len is_dash range) (length range) refl (sym found ∙ none) in
    rw unit (sym (ap (λ l. range_of_parts (slice_split is_dash l)) (sym is) ∙ ap range_of_parts (whole_part range past) ∙ one_part range))

pub dash_at : (value range : List ℕ) (r : Option ℕ) (k : ℕ) → bytes_eq (take 6 value) (codes "bytes=") ≡ true → range ≡ drop 6 value → Found range r → r ≡ Some k
    → range_of_parts (take k range ∷ take (length range - (k + 1)) (drop (k + 1) range) ∷ []) ≡ byte_range value
unfolding byte_range
dash_at value range r k unit is found some =
    let place : (position_or_len is_dash range ≡ k) × (position_or_len is_dash range < length range) =
    by_place (ltb (position_or_len is_dash range) (length range)) (position_or_len is_dash range) (length range) k refl (sym found ∙ some) in
    let rest : take (length range - (k + 1)) (drop (k + 1) range) ≡ drop (k + 1) range = take_all (length range - (k + 1)) (drop (k + 1) range) (omega (arith, length-drop (k + 1) range)) in
    rw unit
    (ap (λ l. range_of_parts (take k range ∷ l ∷ [])) rest
    ∙ sym (two_parts (take k range) (drop (k + 1) range))
    ∙ ap (λ j. range_of_parts (take j range ∷ slice_split is_dash (drop (j + 1) range))) (sym place.0)
    ∙ ap range_of_parts (sym (slice_split_first is_dash range 0 place.1))
    ∙ ap (λ l. range_of_parts (slice_split is_dash l)) is)
