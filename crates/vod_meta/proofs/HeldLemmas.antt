-- The entries of a cache, by the names of their files.
use Rattle.std.proofs.Common.{◌≡◌, ℕ, zero, suc, ◌-◌, Bool, true, false, cond, not, List, [], ◌∷◌, take, Option, Some, None, refl, sym, ap, subst, ◌∙◌}
use Rattle.std.specs.Prelude.{filter, map, bytes_eq, option_map, is_some, is_err, OnOk, MatchResult, Result, Ok, Err, ⊤}
use Rattle.std.specs.List.{AllByRecursion, IsDistinct}
use Rattle.std.specs.Map.{keys_of, lookup, lookup_entry, remove_entry}
use Rattle.std.specs.Option.{option_map_or}
use Rattle.std.proofs.lemmas.Bool.{or_parts, or_from}
use Rattle.std.proofs.lemmas.List.{take-map}
use Rattle.std.proofs.lemmas.Slice.Eq.{bytes_eq-Decides}
use Rattle.lru.specs.LruCache.{promoted}
use Rattle.vod_meta.specs.Held.{HeldMovie, names_held}
use Rattle.vod_meta.specs.Cached.{find_held, is_held, without, IsBrought}

-- ---- names

same_name : (a b : List ℕ) → bytes_eq a b ≡ true → a ≡ b
same_name a b e = (bytes_eq-Decides a b).0 e

one_name : (a b : List ℕ) → a ≡ b → bytes_eq a b ≡ true
one_name a b e = (bytes_eq-Decides a b).1 e

other_name : (a b : List ℕ) → bytes_eq a b ≡ false → bytes_eq b a ≡ false
other_name a b e = by_test (bytes_eq b a) refl
  where
    by_test : (t : Bool) → bytes_eq b a ≡ t → bytes_eq b a ≡ false
    by_test false is = is
    by_test true is = let back : bytes_eq a b ≡ true = one_name a b (sym (same_name b a is)) in absurd cc

-- ---- the movie of a name

-- no two have one name
abbrev AreApart : List HeldMovie → Type 0
AreApart [] = ⊤
AreApart (h ∷ held) = (is_held h.name held ≡ false) × AreApart held

module _ (name : List ℕ) where
  abbrev is_other : List ℕ → Bool
  is_other other = not (bytes_eq other name)

  pub found_held : (held : List HeldMovie) → is_some (find_held name held) ≡ is_held name held
  found_held [] = refl
  found_held (h ∷ held) = go (bytes_eq name h.name) refl (found_held held)
    where
      go : (t : Bool) → bytes_eq name h.name ≡ t → is_some (find_held name held) ≡ is_held name held → is_some (find_held name (h ∷ held)) ≡ is_held name (h ∷ held)
      go true is later = rw is refl
      go false is later = rw is later

  pub found_named : (held : List HeldMovie) (h : HeldMovie) → find_held name held ≡ Some h → h.name ≡ name
  found_named [] h e = absurd cc
  found_named (x ∷ held) h e = go (bytes_eq name x.name) refl e (λ rest. found_named held h rest)
    where
      go : (t : Bool) → bytes_eq name x.name ≡ t → cond t (Some x) (find_held name held) ≡ Some h → (find_held name held ≡ Some h → h.name ≡ name) → h.name ≡ name
      go true is e later = let same : x ≡ h = cc e in subst (λ (y : HeldMovie). y.name ≡ name) same (sym (same_name name x.name is))
      go false is e later = later e

  all_others : (held : List HeldMovie) → is_held name held ≡ false → filter is_other (names_held held) ≡ names_held held
  all_others [] e = refl
  all_others (h ∷ held) e =
      let parts = or_parts (bytes_eq name h.name) (is_held name held) e in
      let differs = other_name name h.name parts.0 in
      rw differs (ap (λ (names : List (List ℕ)). h.name ∷ names) (all_others held parts.1))

  others_of : (held : List HeldMovie) (h : HeldMovie) → AreApart held → find_held name held ≡ Some h → filter is_other (names_held held) ≡ names_held (without name held)
  others_of [] h apart e = absurd cc
  others_of (x ∷ held) h apart e = go (bytes_eq name x.name) refl e (λ rest. others_of held h apart.1 rest)
    where
      go : (t : Bool) → bytes_eq name x.name ≡ t → cond t (Some x) (find_held name held) ≡ Some h → (find_held name held ≡ Some h → filter is_other (names_held held) ≡ names_held (without name held))
          → filter is_other (names_held (x ∷ held)) ≡ names_held (without name (x ∷ held))
      go true is e later =
          let named : x.name ≡ name = sym (same_name name x.name is) in
          let back = one_name x.name name named in
          rw (is, back) (all_others held (subst (λ (n : List ℕ). is_held n held ≡ false) named apart.0))
      go false is e later =
          let differs = other_name name x.name is in
          rw (is, differs) (ap (λ (names : List (List ℕ)). x.name ∷ names) (later e))

  pub was_brought : (held now : List HeldMovie) (h : HeldMovie) → AreApart held → find_held name held ≡ Some h → now ≡ h ∷ without name held → IsBrought name h held now
  was_brought held now h apart found new = record { is = new; named = found_named held h found; others = others_of held h apart found }

-- ---- the entries

module _ {K V : Type 0} (key : K → List ℕ) (see : V → HeldMovie) where
  abbrev pub seen : List (K × V) → List HeldMovie
  seen es = map (λ e. see e.1) es

  -- each stands under the name of its file
  abbrev pub AreNamed : List (K × V) → Type 0
  AreNamed es = map (λ e. key e.0) es ≡ names_held (seen es)

  abbrev pub has : List ℕ → K → Bool
  has name k = bytes_eq name (key k)

  named-head : (e : K × V) (es : List (K × V)) → AreNamed (e ∷ es) → key e.0 ≡ (see e.1).name
  named-head e es named = cc named

  named-tail : (e : K × V) (es : List (K × V)) → AreNamed (e ∷ es) → AreNamed es
  named-tail e es named = cc named

  named-cons : (e : K × V) (es : List (K × V)) → key e.0 ≡ (see e.1).name → AreNamed es → AreNamed (e ∷ es)
  named-cons e es head tail = ap (λ (n : List ℕ). n ∷ map (λ (f : K × V). key f.0) es) head ∙ ap (λ (ns : List (List ℕ)). (see e.1).name ∷ ns) tail

  apart-seen : (es : List (K × V)) → AreNamed es → IsDistinct (λ (a : K) (b : K). bytes_eq (key a) (key b)) (keys_of es) → AreApart (seen es)
  unfolding IsDistinct
  apart-seen [] named distinct = tt
  apart-seen (e ∷ es) named distinct = (
    subst (λ (n : List ℕ). is_held n (seen es) ≡ false) (named-head e es named) (none es (named-tail e es named) distinct.0),
    apart-seen es (named-tail e es named) distinct.1,
  )
    where
      none : (fs : List (K × V)) → AreNamed fs → AllByRecursion (λ (b : K). bytes_eq (key e.0) (key b) ≡ false) (keys_of fs) → is_held (key e.0) (seen fs) ≡ false
      none [] named all = refl
      none (f ∷ fs) named all =
          or_from (bytes_eq (key e.0) (see f.1).name) (is_held (key e.0) (seen fs))
          (subst (λ (n : List ℕ). bytes_eq (key e.0) n ≡ false) (named-head f fs named) all.0)
          (none fs (named-tail f fs named) all.1)

  module _ (name : List ℕ) where
    -- the one with the name, by its key
    record Tests (e : K × V) (t : Bool) : Type 0 where
      of_key : bytes_eq name (key e.0) ≡ t
      of_name : bytes_eq name (see e.1).name ≡ t

    tests : (e : K × V) (es : List (K × V)) → AreNamed (e ∷ es) → Tests e (bytes_eq name (key e.0))
    tests e es named = record { of_key = refl; of_name = ap (bytes_eq name) (sym (named-head e es named)) }

    pub lookup-seen : (es : List (K × V)) → AreNamed es → option_map see (lookup (has name) es) ≡ find_held name (seen es)
    lookup-seen [] named = refl
    lookup-seen (e ∷ es) named = go (bytes_eq name (key e.0)) (tests e es named) (lookup-seen es (named-tail e es named))
      where
        go : (t : Bool) → Tests e t → option_map see (lookup (has name) es) ≡ find_held name (seen es) → option_map see (lookup (has name) (e ∷ es)) ≡ find_held name (seen (e ∷ es))
        go true is later = rw (is.of_key, is.of_name) refl
        go false is later = rw (is.of_key, is.of_name) later

    entry-seen : (es : List (K × V)) → AreNamed es → option_map (λ (e : K × V). see e.1) (lookup_entry (has name) es) ≡ find_held name (seen es)
    entry-seen [] named = refl
    entry-seen (e ∷ es) named = go (bytes_eq name (key e.0)) (tests e es named) (entry-seen es (named-tail e es named))
      where
        go : (t : Bool) → Tests e t → option_map (λ (f : K × V). see f.1) (lookup_entry (has name) es) ≡ find_held name (seen es)
            → option_map (λ (f : K × V). see f.1) (lookup_entry (has name) (e ∷ es)) ≡ find_held name (seen (e ∷ es))
        go true is later = rw (is.of_key, is.of_name) refl
        go false is later = rw (is.of_key, is.of_name) later

    entry-named : (es : List (K × V)) (f : K × V) → AreNamed es → lookup_entry (has name) es ≡ Some f → key f.0 ≡ (see f.1).name
    entry-named [] f named e = absurd cc
    entry-named (x ∷ es) f named e = go (bytes_eq name (key x.0)) e (λ rest. entry-named es f (named-tail x es named) rest)
      where
        go : (t : Bool) → cond t (Some x) (lookup_entry (has name) es) ≡ Some f → (lookup_entry (has name) es ≡ Some f → key f.0 ≡ (see f.1).name) → key f.0 ≡ (see f.1).name
        go true e later = let same : x ≡ f = cc e in subst (λ (y : K × V). key y.0 ≡ (see y.1).name) same (named-head x es named)
        go false e later = later e

    rest-seen : (es : List (K × V)) → AreNamed es → seen (remove_entry (has name) es) ≡ without name (seen es)
    rest-seen [] named = refl
    rest-seen (e ∷ es) named = go (bytes_eq name (key e.0)) (tests e es named) (rest-seen es (named-tail e es named))
      where
        go : (t : Bool) → Tests e t → seen (remove_entry (has name) es) ≡ without name (seen es) → seen (remove_entry (has name) (e ∷ es)) ≡ without name (seen (e ∷ es))
        go true is later = rw (is.of_key, is.of_name) refl
        go false is later = rw (is.of_key, is.of_name) (ap (λ (held : List HeldMovie). see e.1 ∷ held) later)

    rest-named : (es : List (K × V)) → AreNamed es → AreNamed (remove_entry (has name) es)
    rest-named [] named = refl
    rest-named (e ∷ es) named = go (bytes_eq name (key e.0)) (rest-named es (named-tail e es named))
      where
        go : (t : Bool) → AreNamed (remove_entry (has name) es) → AreNamed (cond t es (e ∷ remove_entry (has name) es))
        go true later = named-tail e es named
        go false later = named-cons e (remove_entry (has name) es) (named-head e es named) later

    -- it is brought to the front
    pub promoted-named : (es : List (K × V)) → AreNamed es → AreNamed (promoted (has name) es)
    promoted-named es named = go (lookup_entry (has name) es) refl
      where
        go : (o : Option (K × V)) → lookup_entry (has name) es ≡ o → AreNamed (option_map_or (λ (e : K × V). e ∷ remove_entry (has name) es) o es)
        go None is = named
        go (Some f) is = named-cons f (remove_entry (has name) es) (entry-named es f named is) (rest-named es named)

    promoted-seen : (es : List (K × V)) (h : HeldMovie) → AreNamed es → find_held name (seen es) ≡ Some h → seen (promoted (has name) es) ≡ h ∷ without name (seen es)
    promoted-seen es h named found = go (lookup_entry (has name) es) (entry-seen es named ∙ found)
      where
        go : (o : Option (K × V)) → option_map (λ (e : K × V). see e.1) o ≡ Some h → seen (option_map_or (λ (e : K × V). e ∷ remove_entry (has name) es) o es) ≡ h ∷ without name (seen es)
        go None e = absurd cc
        go (Some f) e =
            let same : see f.1 ≡ h = cc e in
            ap (λ (x : HeldMovie). x ∷ seen (remove_entry (has name) es)) same ∙ ap (λ (held : List HeldMovie). h ∷ held) (rest-seen es named)

    pub promoted-brought : (es : List (K × V)) (h : HeldMovie) → AreNamed es → IsDistinct (λ (a : K) (b : K). bytes_eq (key a) (key b)) (keys_of es) → find_held name (seen es) ≡ Some h
        → IsBrought name h (seen es) (seen (promoted (has name) es))
    promoted-brought es h named distinct found = was_brought name (seen es) (seen (promoted (has name) es)) h (apart-seen es named distinct) found (promoted-seen es h named found)

    -- one that isn't there has no entry
    no_entry : (es : List (K × V)) → AreNamed es → is_held name (seen es) ≡ false → lookup_entry (has name) es ≡ None
    no_entry es named other = go (lookup_entry (has name) es) (ap is_some (entry-seen es named) ∙ found_held name (seen es) ∙ other)
      where
        go : (o : Option (K × V)) → is_some (option_map (λ (e : K × V). see e.1) o) ≡ false → o ≡ None
        go None e = refl
        go (Some f) e = absurd cc

  -- ---- one that is put in front, where so many are kept

  abbrev pub after : List (K × V) → ℕ → K → V → List (K × V)
  after es n k v = option_map_or (λ (e : K × V). (e.0, v) ∷ remove_entry (has (key k)) es) (lookup_entry (has (key k)) es) ((k, v) ∷ take (n - 1) es)

  is_first : (es : List (K × V)) (n : ℕ) (k : K) (v : V) → AreNamed es → is_held (key k) (seen es) ≡ false → after es n k v ≡ (k, v) ∷ take (n - 1) es
  is_first es n k v named other = ap (λ (o : Option (K × V)). option_map_or (λ (e : K × V). (e.0, v) ∷ remove_entry (has (key k)) es) o ((k, v) ∷ take (n - 1) es)) (no_entry (key k) es named other)

  take-named : (n : ℕ) (es : List (K × V)) → AreNamed es → AreNamed (take n es)
  take-named zero es named = refl
  take-named (suc n) [] named = refl
  take-named (suc n) (e ∷ es) named = named-cons e (take n es) (named-head e es named) (take-named n es (named-tail e es named))

  pub put-named : (es : List (K × V)) (n : ℕ) (k : K) (v : V) → AreNamed es → key k ≡ (see v).name → is_held (key k) (seen es) ≡ false → AreNamed (after es n k v)
  put-named es n k v named same other = subst AreNamed (sym (is_first es n k v named other)) (named-cons (k, v) (take (n - 1) es) same (take-named (n - 1) es named))

  pub put-seen : (es : List (K × V)) (n : ℕ) (k : K) (v : V) → n ≡ 16 → AreNamed es → is_held (key k) (seen es) ≡ false → seen (after es n k v) ≡ take 16 (see v ∷ seen es)
  put-seen es n k v most named other =
      ap seen (is_first es n k v named other)
      ∙ ap (λ (m : ℕ). see v ∷ seen (take (m - 1) es)) most
      ∙ ap (λ (held : List HeldMovie). see v ∷ held) (sym (take-map (λ (e : K × V). see e.1) 15 es))

-- what holds on an Ok, where it isn't an error
pub on_ok : {A E : Type 0} (r : Result A E) (P : Type 0) → false ≡ is_err r → OnOk r P → P
on_ok (Ok x) P ok p = p
on_ok (Err e) P ok p = absurd cc

-- one that was found, shared once more
pub found_shared : {X E : Type 0} (see : X → HeldMovie) (r : Result X E) (o : Option HeldMovie) (h : HeldMovie) (Q : E → Type 0) → o ≡ Some h → MatchResult r (λ x. see x ≡ h) Q → MatchResult r (λ x. o ≡ Some (see x)) Q
found_shared see (Ok x) o h Q found same = found ∙ ap Some (sym same)
found_shared see (Err e) o h Q found same = same
