-- Lists of names that grow, one name or the names of one thing after another.
use Rattle.std.proofs.Common.{◌≡◌, ◌≤◌, ◌<◌, ◌+◌, ℕ, zero, suc, Bool, true, false, List, [], ◌∷◌, ◌++◌, length, get_or, take, map, All, Result, Ok, Err, refl, sym, ap, ◌∙◌, subst, append-nil, append_assoc, arith}
use Rattle.std.specs.Prelude.{IfOk, OnOk, filter, flat_map, if◌then◌else◌}
use Rattle.std.specs.List.{range_with_len}
use Rattle.std.proofs.lemmas.Grind.{flat_map-append}
use Rattle.std.proofs.lemmas.List.{map-append, take_more}
use Rattle.std.proofs.lemmas.List.Elements.{filter-append, All-nil, All-cons, All-append, All-filter, All-head, All-map, All-tail}
use Rattle.vod_types.specs.declared.paths.Leaf.{Leaf}
use Rattle.vod_types.specs.declared.paths.Leaf.TheVariants.{Init}
use Rattle.vod_types.specs.declared.refusal.Refusal.{Refusal}
use Rattle.vod_types.specs.declared.segments.Listed.{Listed}
use Rattle.vod_types.specs.declared.segments.SegmentRow.{SegmentRow}
use Rattle.vod_types.specs.declared.tracks.Asked.{Asked}
use Rattle.vod_types.specs.declared.tracks.Kind.{Kind}
use Rattle.vod_types.specs.declared.tracks.Kind.TheVariants.{Video, Audio}
use Rattle.list_model.specs.declared.Period.{Period}
use Rattle.list_model.specs.declared.Rep.{Rep}
use Rattle.list_model.specs.Manifest.{IsPeriod}
use Rattle.list_model.specs.Names.{IsLeafOf, IsAsked, first_of_kind}
use Rattle.list_model.specs.Pack.{init_leaves, is_listed_of}
use Rattle.list_model.specs.Playlist.{HasRowNumbers}
use Rattle.flat_lists.specs.Listings.{HasPart}
use Rattle.mp4_flat.specs.Packed.{named_inits}

-- ---- what holds of each

pub each_more : (P : Leaf → Type 0) (old more now : List Leaf) → now ≡ old ++ more → All P more → All P old → All P now
each_more P old more now e new all = subst (All P) (sym e) (All-append P old more all new)

pub each_one : (P : Leaf → Type 0) (old now : List Leaf) (leaf : Leaf) → now ≡ old ++ leaf ∷ [] → P leaf → All P old → All P now
each_one P old now leaf e p all = each_more P old (leaf ∷ []) now e (All-cons P leaf [] p (All-nil P)) all

-- ---- what was put, and more

pub both_put : (old middle now first second : List Leaf) → middle ≡ old ++ first → now ≡ middle ++ second → now ≡ old ++ (first ++ second)
both_put old middle now first second e f = f ∙ ap (λ (l : List Leaf). l ++ second) e ∙ append_assoc old first second

module _ {A : Type 0} (xs : List A) (i : ℕ) (d : A) (old names now : List Leaf) (lt : i < length xs) where
  pub mapped_more : (f : A → Leaf) → names ≡ old ++ map f (take i xs) → now ≡ names ++ f (get_or xs i d) ∷ [] → now ≡ old ++ map f (take (i + 1) xs)
  mapped_more f e put =
      both_put old names now (map f (take i xs)) (f (get_or xs i d) ∷ []) e put
      ∙ ap (λ (l : List Leaf). old ++ l) (sym (ap (map f) (take_more xs i d lt) ∙ map-append f (take i xs) (get_or xs i d ∷ [])))

  pub joined_more : (f : A → List Leaf) → names ≡ old ++ flat_map f (take i xs) → now ≡ names ++ f (get_or xs i d) → now ≡ old ++ flat_map f (take (i + 1) xs)
  joined_more f e put =
      both_put old names now (flat_map f (take i xs)) (f (get_or xs i d)) e put
      ∙ ap (λ (l : List Leaf). old ++ l)
      (sym (ap (flat_map f) (take_more xs i d lt) ∙ flat_map-append f (take i xs) (get_or xs i d ∷ []) ∙ ap (λ (l : List Leaf). flat_map f (take i xs) ++ l) (append-nil (f (get_or xs i d)))))

-- the same of an item that a loop is at
module _ {A : Type 0} (xs : List A) (i : ℕ) (item : A) (old names now : List Leaf) (lt : i < length xs) (is : item ≡ get_or xs i item) where
  pub joined_item : (f : A → List Leaf) → names ≡ old ++ flat_map f (take i xs) → now ≡ names ++ f item → now ≡ old ++ flat_map f (take (i + 1) xs)
  joined_item f e put = joined_more xs i item old names now lt f e (put ∙ ap (λ (x : A). names ++ f x) is)

  -- where it is kept by a test
  pub kept_item : (p : A → Bool) (f : A → List Leaf) → names ≡ old ++ flat_map f (filter p (take i xs)) → now ≡ names ++ (if p item then f item else [])
      → now ≡ old ++ flat_map f (filter p (take (i + 1) xs))
  kept_item p f e put =
      both_put old names now (flat_map f (filter p (take i xs))) (if p item then f item else []) e put
      ∙ ap (λ (l : List Leaf). old ++ l)
      (sym (ap (λ (ys : List A). flat_map f (filter p ys)) (take_more xs i item lt ∙ ap (λ (x : A). take i xs ++ x ∷ []) (sym is))
      ∙ ap (flat_map f) (filter-append p (take i xs) (item ∷ []))
      ∙ flat_map-append f (filter p (take i xs)) (filter p (item ∷ []))
      ∙ ap (λ (l : List Leaf). flat_map f (filter p (take i xs)) ++ l) (one_kept (p item))))
    where
      one_kept : (b : Bool) → flat_map f (if b then item ∷ [] else []) ≡ (if b then f item else [])
      one_kept true = append-nil (f item)
      one_kept false = refl

-- numbers from 1 on
range_more : (a n : ℕ) → range_with_len a (n + 1) ≡ range_with_len a n ++ (a + n) ∷ []
range_more a zero = ap (λ k. k ∷ []) (let none : a ≡ a + 0 = omega arith in none)
range_more a (suc n) =
    ap (range_with_len a) (let more : suc n + 1 ≡ suc (n + 1) = omega arith in more)
    ∙ ap (λ ks. a ∷ ks) (range_more (a + 1) n ∙ ap (λ k. range_with_len (a + 1) n ++ k ∷ []) (let same : a + 1 + n ≡ a + suc n = omega arith in same))

pub numbered_more : (f : ℕ → List Leaf) (n next : ℕ) (old names now : List Leaf) → next ≡ n + 1 → names ≡ old ++ flat_map f (range_with_len 1 n) → now ≡ names ++ f next → now ≡ old ++ flat_map f (range_with_len 1 (n + 1))
numbered_more f n next old names now is e put =
    both_put old names now (flat_map f (range_with_len 1 n)) (f next) e put
    ∙ ap (λ (l : List Leaf). old ++ l)
    (sym (ap (flat_map f) (range_more 1 n) ∙ flat_map-append f (range_with_len 1 n) ((1 + n) ∷ []) ∙ ap (λ (l : List Leaf). flat_map f (range_with_len 1 n) ++ l) (append-nil (f (1 + n)) ∙ ap f (let same : 1 + n ≡ next = omega (arith, is) in same))))

-- ---- rows

pub rows_numbered : {V : Type 0} (view : V → List SegmentRow) (r : Result V Refusal) (ls given : List Listed) → given ≡ ls → All HasPart ls → IfOk r (λ v. view v ≡ map (λ l. l.row) given) → IfOk r (λ v. All HasRowNumbers (view v))
rows_numbered view (Ok v) ls given same h is =
    subst (All HasRowNumbers) (sym (is ∙ ap (λ (ls : List Listed). map (λ l. l.row) ls) same)) (All-map HasRowNumbers (λ l. l.row) ls h)
rows_numbered view (Err r) ls given same h is = tt

-- ---- init segments

module _ (dash : Bool) (sequence : ℕ) (asked : Asked) (low : sequence ≤ 9999) (numbers : IsAsked asked) where
  one_init : (part : ℕ) → part ≤ 9999 → IsLeafOf dash (Init part sequence asked)
  one_init part fits = (fits, low, numbers)

  -- those of rows
  rows_named : (rows : List SegmentRow) → All HasRowNumbers rows → All (IsLeafOf dash) (map (λ row. Init row.part sequence asked) rows)
  rows_named [] h = All-nil (IsLeafOf dash)
  rows_named (row ∷ rows) h =
      All-cons (IsLeafOf dash) (Init row.part sequence asked) (map (λ row. Init row.part sequence asked) rows) (one_init row.part (All-head HasRowNumbers row rows h))
      (rows_named rows (All-tail HasRowNumbers row rows h))

  pub inits_named : (fmp4 : Bool) (rows : List SegmentRow) → All HasRowNumbers rows → All (IsLeafOf dash) (named_inits fmp4 sequence asked rows)
  inits_named true rows h = rows_named (filter (λ row. row.first_in_part) rows) (All-filter (λ row. row.first_in_part) HasRowNumbers rows h)
  inits_named false rows h = All-nil (IsLeafOf dash)

  -- those of representations of a part
  reps_named : (part : ℕ) → part ≤ 9999 → (reps : List Rep) → All (IsLeafOf dash) (map (λ rep. Init part sequence asked) reps)
  reps_named part fits [] = All-nil (IsLeafOf dash)
  reps_named part fits (rep ∷ reps) = All-cons (IsLeafOf dash) (Init part sequence asked) (map (λ rep. Init part sequence asked) reps) (one_init part fits) (reps_named part fits reps)

kind_numbers : (kind : Kind) → IsAsked (first_of_kind kind)
kind_numbers Video = (omega arith, omega arith)
kind_numbers Audio = (omega arith, omega arith)

-- those of a track in all periods
module _ (sequence : ℕ) (kind : Kind) (low : sequence ≤ 9999) where
  pub periods_named : (periods : List Period) → All IsPeriod periods → All (IsLeafOf true) (init_leaves sequence kind periods)
  periods_named [] h = All-nil (IsLeafOf true)
  periods_named (period ∷ periods) h =
      All-append (IsLeafOf true) (map (λ rep. Init period.part sequence (first_of_kind kind)) (filter (is_listed_of sequence kind) period.reps)) (init_leaves sequence kind periods)
      (reps_named true sequence (first_of_kind kind) low (kind_numbers kind) period.part (All-head IsPeriod period periods h).part (filter (is_listed_of sequence kind) period.reps))
      (periods_named periods (All-tail IsPeriod period periods h))

-- ---- tail calls

pub on_mapped : {A E X Y : Type 0} (r : Result A E) → (X → Y) → OnOk r X → OnOk r Y
on_mapped (Ok x) f h = f h
on_mapped (Err e) f h = tt

pub on_both : {A E : Type 0} (r : Result A E) (old middle now first second : List Leaf) → middle ≡ old ++ first → OnOk r (now ≡ middle ++ second) → OnOk r (now ≡ old ++ (first ++ second))
on_both r old middle now first second e put = on_mapped r (both_put old middle now first second e) put
