-- The values of the fields that name a range.
use Rattle.std.proofs.Common.{◌≡◌, ℕ, suc, ◌+◌, ◌<◌, Bool, true, false, cond, List, [], ◌∷◌, ◌++◌, length, get_or, take, drop, map, codes, Option, Some, None, sym, ap, ◌∙◌}
use Rattle.std.specs.Prelude.{filter, is_some}
use Rattle.std.specs.Borrow.{Bor}
use Rattle.std.proofs.lemmas.List.{take_more, map-append, append-nil}
use Rattle.std.proofs.lemmas.List.Elements.{filter-append}
use Rattle.std.proofs.Math.Seq.{split_at}
use Rattle.httparse.specs.Spans.{span_bytes, header_bytes}
use Rattle.httparse.specs.declared.spans.HeaderSpan.{HeaderSpan}
use Rattle.list_model.specs.Head.{is_named, range_of_fields}

-- the fields that name a range
abbrev pub named : List (List ℕ × List ℕ) → List (List ℕ × List ℕ)
named fields = filter (is_named (codes "Range")) fields

-- the values of such fields are this one, or there are none
abbrev pub AreValues : List (List ℕ × List ℕ) → Option (Bor (List ℕ)) → Type 0
AreValues fields None = fields ≡ []
AreValues fields (Some value) = (name : List ℕ) × (fields ≡ (name, value.now) ∷ [])

-- of the fields that were looked at
abbrev pub HasFound : List ℕ → List HeaderSpan → Option (Bor (List ℕ)) → Type 0
HasFound bytes fields found = AreValues (named (map (header_bytes bytes) fields)) found

named-append : (bytes : List ℕ) (xs ys : List HeaderSpan) → named (map (header_bytes bytes) (xs ++ ys)) ≡ named (map (header_bytes bytes) xs) ++ named (map (header_bytes bytes) ys)
named-append bytes xs ys =
    ap named (map-append (header_bytes bytes) xs ys) ∙ filter-append (is_named (codes "Range")) (map (header_bytes bytes) xs) (map (header_bytes bytes) ys)

named-cons : (field : List ℕ × List ℕ) (fields : List (List ℕ × List ℕ)) (t : Bool) → is_named (codes "Range") field ≡ t → named (field ∷ fields) ≡ cond t (field ∷ named fields) (named fields)
named-cons field fields t is = ap (λ b. cond b (field ∷ named fields) (named fields)) is

empty-append : (xs ys : List (List ℕ × List ℕ)) → ys ≡ [] → xs ++ ys ≡ xs
empty-append xs ys none = ap (λ l. xs ++ l) none ∙ append-nil xs

module _ (bytes : List ℕ) (fields : List HeaderSpan) (i : ℕ) (d : HeaderSpan) (within : i < length fields) where
  next : named (map (header_bytes bytes) (take (i + 1) fields)) ≡ named (map (header_bytes bytes) (take i fields)) ++ named (header_bytes bytes (get_or fields i d) ∷ [])
  next = ap (λ l. named (map (header_bytes bytes) l)) (take_more fields i d within) ∙ named-append bytes (take i fields) (get_or fields i d ∷ [])

  -- the next field doesn't name a range
  pub found_still : (found : Option (Bor (List ℕ))) → is_named (codes "Range") (header_bytes bytes (get_or fields i d)) ≡ false → HasFound bytes (take i fields) found → HasFound bytes (take (i + 1) fields) found
  found_still None other is = next ∙ empty-append _ _ (named-cons (header_bytes bytes (get_or fields i d)) [] false other) ∙ is
  found_still (Some value) other is = (is.0, next ∙ empty-append _ _ (named-cons (header_bytes bytes (get_or fields i d)) [] false other) ∙ is.1)

  -- the next field is the first that does
  pub found_first : (found : Option (Bor (List ℕ))) (value : Bor (List ℕ)) → is_named (codes "Range") (header_bytes bytes (get_or fields i d)) ≡ true → is_some found ≡ false →
      value.now ≡ span_bytes bytes (get_or fields i d).value → HasFound bytes (take i fields) found → HasFound bytes (take (i + 1) fields) (Some value)
  found_first None value names none same is = (
    span_bytes bytes (get_or fields i d).name,
    next
        ∙ ap (λ l. l ++ named (header_bytes bytes (get_or fields i d) ∷ [])) is
        ∙ named-cons (header_bytes bytes (get_or fields i d)) [] true names
        ∙ ap (λ v. (span_bytes bytes (get_or fields i d).name, v) ∷ []) (sym same),
  )
  found_first (Some other) value names none same is = absurd cc

  -- the next field is another
  pub found_again : (found : Option (Bor (List ℕ))) → is_named (codes "Range") (header_bytes bytes (get_or fields i d)) ≡ true → is_some found ≡ true →
      HasFound bytes (take i fields) found → None ≡ range_of_fields (named (map (header_bytes bytes) fields))
  found_again None names some is = absurd cc
  found_again (Some value) names some is =
      let whole : fields ≡ take i fields ++ get_or fields i d ∷ drop (suc i) fields = split_at fields i d within in
      sym (ap range_of_fields (ap (λ l. named (map (header_bytes bytes) l)) whole
      ∙ named-append bytes (take i fields) (get_or fields i d ∷ drop (suc i) fields)
      ∙ ap (λ l. l ++ named (header_bytes bytes (get_or fields i d) ∷ map (header_bytes bytes) (drop (suc i) fields))) is.1
      ∙ ap (λ l. (is.0, value.now) ∷ l) (named-cons (header_bytes bytes (get_or fields i d)) (map (header_bytes bytes) (drop (suc i) fields)) true names)))
