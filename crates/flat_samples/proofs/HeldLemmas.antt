-- The list of movies that are held: no two have one name, and one of them is brought to the front.
use Rattle.std.proofs.Common.{◌≡◌, ℕ, zero, suc, ◌<◌, Bool, true, false, cond, not, List, [], ◌∷◌, length, take, get_or, Some, refl, sym, ap, subst, ◌∙◌, arith}
use Rattle.std.specs.Prelude.{filter, slice_get, bytes_eq, Result, Ok, Err, is_ok, IsOk}
use Rattle.std.specs.List.{remove}
use Rattle.std.proofs.lemmas.Bool.{or_parts, or_from, or_right}
use Rattle.std.proofs.lemmas.Slice.Eq.{bytes_eq-Decides}
use Rattle.flat_samples.specs.Movies.{HeldMovie, names_held}
use Rattle.flat_samples.specs.Held.{is_held, AreApart, IsPlaceOf}

-- ---- names

same_name : (a b : List ℕ) → bytes_eq a b ≡ true → a ≡ b
same_name a b e = (bytes_eq-Decides a b).0 e

one_name : (a b : List ℕ) → a ≡ b → bytes_eq a b ≡ true
one_name a b e = (bytes_eq-Decides a b).1 e

other_name : (a b : List ℕ) → bytes_eq a b ≡ false → bytes_eq b a ≡ false
other_name a b e = by_test (bytes_eq b a) refl
  where
    by_test : (t : Bool) → bytes_eq b a ≡ t → bytes_eq b a ≡ false
    by_test false is = is
    by_test true is = let back : bytes_eq a b ≡ true = one_name a b (sym (same_name b a is)) in absurd cc

-- ---- which names are held

-- none of these has the name, so none of a part has it
pub not_held-take : (name : List ℕ) (n : ℕ) (held : List HeldMovie) → is_held name held ≡ false → is_held name (take n held) ≡ false
not_held-take name zero held e = refl
not_held-take name (suc n) [] e = refl
not_held-take name (suc n) (h ∷ held) e =
    let parts = or_parts (bytes_eq name h.name) (is_held name held) e in
    or_from (bytes_eq name h.name) (is_held name (take n held)) parts.0 (not_held-take name n held parts.1)

not_held-remove : (name : List ℕ) (held : List HeldMovie) (place : ℕ) → is_held name held ≡ false → is_held name (remove held place) ≡ false
not_held-remove name [] zero e = refl
not_held-remove name [] (suc n) e = refl
not_held-remove name (h ∷ held) zero e = (or_parts (bytes_eq name h.name) (is_held name held) e).1
not_held-remove name (h ∷ held) (suc n) e =
    let parts = or_parts (bytes_eq name h.name) (is_held name held) e in
    or_from (bytes_eq name h.name) (is_held name (remove held n)) parts.0 (not_held-remove name held n parts.1)

-- one that is held has another name than one that isn't
held_differs : (name : List ℕ) (place : ℕ) (held : List HeldMovie) (h : HeldMovie) → is_held name held ≡ false → slice_get held place ≡ Some h → bytes_eq name h.name ≡ false
held_differs name place [] h e at = absurd cc
held_differs name zero (x ∷ held) h e at =
    let same : x ≡ h = cc at in
    subst (λ (y : HeldMovie). bytes_eq name y.name ≡ false) same (or_parts (bytes_eq name x.name) (is_held name held) e).0
held_differs name (suc n) (x ∷ held) h e at = held_differs name n held h (or_parts (bytes_eq name x.name) (is_held name held) e).1 at

-- ---- no two have one name

pub apart-take : (n : ℕ) (held : List HeldMovie) → AreApart held → AreApart (take n held)
apart-take zero held apart = tt
apart-take (suc n) [] apart = tt
apart-take (suc n) (h ∷ held) apart = (not_held-take h.name n held apart.0, apart-take n held apart.1)

-- with the one at a place in front
pub apart-brought : (place : ℕ) (held : List HeldMovie) (h : HeldMovie) → AreApart held → slice_get held place ≡ Some h → AreApart (h ∷ remove held place)
apart-brought place [] h apart at = absurd cc
apart-brought zero (x ∷ held) h apart at = let same : x ≡ h = cc at in subst (λ (y : HeldMovie). AreApart (y ∷ held)) same apart
apart-brought (suc n) (x ∷ held) h apart at =
    let later = apart-brought n held h apart.1 at in
    let differs = other_name x.name h.name (held_differs x.name n held h apart.0 at) in
    (or_from (bytes_eq h.name x.name) (is_held h.name (remove held n)) differs later.0, (not_held-remove x.name held n apart.0, later.1))

-- ---- the place of a name

all_others : (name : List ℕ) (held : List HeldMovie) → is_held name held ≡ false → filter (λ (other : List ℕ). not (bytes_eq other name)) (names_held held) ≡ names_held held
all_others name [] e = refl
all_others name (h ∷ held) e =
    let parts = or_parts (bytes_eq name h.name) (is_held name held) e in
    let differs = other_name name h.name parts.0 in
    rw differs (ap (λ (names : List (List ℕ)). h.name ∷ names) (all_others name held parts.1))

others_of : (name : List ℕ) (place : ℕ) (held : List HeldMovie) (h : HeldMovie) → AreApart held → slice_get held place ≡ Some h → h.name ≡ name
    → filter (λ (other : List ℕ). not (bytes_eq other name)) (names_held held) ≡ names_held (remove held place)
others_of name place [] h apart at named = absurd cc
others_of name zero (x ∷ held) h apart at named =
    let same : x ≡ h = cc at in
    let is : x.name ≡ name = ap (λ (y : HeldMovie). y.name) same ∙ named in
    let found = one_name x.name name is in
    rw found (all_others name held (subst (λ (n : List ℕ). is_held n held ≡ false) is apart.0))
others_of name (suc n) (x ∷ held) h apart at named =
    let differs = subst (λ (m : List ℕ). bytes_eq x.name m ≡ false) named (held_differs x.name n held h apart.0 at) in
    rw differs (ap (λ (names : List (List ℕ)). x.name ∷ names) (others_of name n held h apart.1 at named))

held_at : (name : List ℕ) (place : ℕ) (held : List HeldMovie) (h : HeldMovie) → slice_get held place ≡ Some h → h.name ≡ name → is_held name held ≡ true
held_at name place [] h at named = absurd cc
held_at name zero (x ∷ held) h at named =
    let same : x ≡ h = cc at in
    let found = one_name name x.name (sym named ∙ ap (λ (y : HeldMovie). y.name) (sym same)) in
    rw found refl
held_at name (suc n) (x ∷ held) h at named = or_right (bytes_eq name x.name) (is_held name held) (held_at name n held h at named)

pub place_of : (name : List ℕ) (place : ℕ) (held : List HeldMovie) (h : HeldMovie) → AreApart held → slice_get held place ≡ Some h → bytes_eq name h.name ≡ true → IsPlaceOf name held place
place_of name place held h apart at test =
    let named = sym (same_name name h.name test) in
    record { found = h; at = at; named = named; is_held = held_at name place held h at named; others = others_of name place held h apart at named }

-- ---- what the list is afterwards

got : (held : List HeldMovie) (place : ℕ) (h d : HeldMovie) → slice_get held place ≡ Some h → get_or held place d ≡ h
got [] place h d e = absurd cc
got (x ∷ held) zero h d e = cc e
got (x ∷ held) (suc n) h d e = got held n h d e

pub inserted : {A E : Type 0} (r : Result A E) (put rest : List HeldMovie) → IsOk r → cond (is_ok r) put rest ≡ put
inserted (Ok x) put rest ok = refl
inserted (Err e) put rest ok = absurd cc

-- the one at a place was taken out, and put in front
pub brought : (held : List HeldMovie) (place : ℕ) (h x : HeldMovie) (after now : List HeldMovie) → slice_get held place ≡ Some h → x ≡ get_or held place x
    → after ≡ remove held place → now ≡ x ∷ after → now ≡ h ∷ remove held place
brought held place h x after now at is rest new =
    let same : x ≡ h = is ∙ got held place h x at in
    new ∙ ap (λ (y : HeldMovie). y ∷ after) same ∙ ap (λ (ys : List HeldMovie). h ∷ ys) rest

-- there is one at each place
pub found_at : (held : List HeldMovie) (place : ℕ) → place < length held → (h : HeldMovie) × (slice_get held place ≡ Some h)
found_at [] place lt = absurd (omega arith)
found_at (x ∷ held) zero lt = (x, refl)
found_at (x ∷ held) (suc n) lt = found_at held n (omega arith)

pub item_at : (held : List HeldMovie) (place : ℕ) (x : HeldMovie) → place < length held → x ≡ get_or held place x → slice_get held place ≡ Some x
item_at [] place x lt is = absurd (omega arith)
item_at (h ∷ held) zero x lt is = ap Some (sym is)
item_at (h ∷ held) (suc n) x lt is = item_at held n x (omega arith) is
