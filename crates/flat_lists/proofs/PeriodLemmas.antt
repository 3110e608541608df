-- The periods over sequences that were looked at: their cells, numbers and lengths.
use Rattle.std.proofs.Common.{◌≡◌, Bool, ℕ, zero, suc, ◌+◌, ◌≤◌, ◌<◌, List, [], ◌∷◌, ◌++◌, length, map, take, drop, get_or, fold, max, Option, Some, None, All, IfSome, refl, sym, ap, ◌∙◌, subst, arith, append_assoc, append-nil}
use Rattle.std.specs.Prelude.{flat_map, option_map, slice_get, sum_by, unwrap_or}
use Rattle.std.specs.List.{enumerate_from}
use Rattle.std.specs.Option.{option_map_or}
use Rattle.std.proofs.lemmas.List.{drop_all}
use Rattle.std.proofs.lemmas.List.Folds.{flat_map-map}
use Rattle.std.proofs.lemmas.List.Elements.{All-head, All-tail, All-nil, All-cons}
use Rattle.std.proofs.lemmas.Option.{slice_get-map}
use Rattle.std.proofs.lemmas.List.Sums.{sum_by-cons, sum_by-take-le, sum_by-le-sum_by}
use Rattle.clip_model.specs.declared.Part.{Part}
use Rattle.clip_model.specs.Mapping.{Mapping}
use Rattle.segment_model.specs.Grid.{SegmentGrid, cells}
use Rattle.flat_lists.specs.CountedCells.{counted, length_seen, part_cells, track_cells}
use Rattle.flat_lists.specs.LookedSequences.{IsLookedSequence, looked_seen, sequence_seen}
use Rattle.flat_lists.specs.PartTracks.{PartSeen, Seen}
use Rattle.flat_lists.specs.Written.{IsOfMapping, declared_cells, first_cell, first_seen, parts_seen, reps_seen, sequence_reps}
use Rattle.flat_lists.specs.declared.looked_sequences.LookedPart.{LookedPart}
use Rattle.flat_lists.specs.declared.looked_sequences.LookedSequence.{LookedSequence}

-- ---- elements

pub all_looked : (m : Mapping) (ss : List LookedSequence) → All (IsOfMapping m) ss → All IsLookedSequence ss
all_looked m [] h = All-nil IsLookedSequence
all_looked m (s ∷ ss) h = let own = All-head (IsOfMapping m) s ss h in All-cons IsLookedSequence s ss own.looked (all_looked m ss (All-tail (IsOfMapping m) s ss h))

pub at_place : {X : Type 0} (P : X → Type 0) (xs : List X) (k : ℕ) (x : X) → slice_get xs k ≡ Some x → All P xs → P x
at_place P [] k x e h = absurd cc
at_place P (y ∷ xs) zero x e h = let same : y ≡ x = cc in subst P same (All-head P y xs h)
at_place P (y ∷ xs) (suc k) x e h = at_place P xs k x e (All-tail P y xs h)

-- an element has no more than the whole sum
pub at_most : {X : Type 0} (f : X → ℕ) (xs : List X) (k : ℕ) (x : X) (n : ℕ) → slice_get xs k ≡ Some x → sum_by f xs ≤ n → f x ≤ n
at_most f [] k x n e h = absurd cc
at_most f (y ∷ xs) zero x n e h =
    let same : y ≡ x = cc in
    let one = ap f same in
    omega (arith, sum_by-cons f y xs, one, h)
at_most f (y ∷ xs) (suc k) x n e h = at_most f xs k x n e (omega (arith, sum_by-cons f y xs, h))

pub at_most_index : {X : Type 0} (f : X → ℕ) (xs : List X) (k : ℕ) (x : X) (n : ℕ) → k < length xs → x ≡ get_or xs k x → sum_by f xs ≤ n → f x ≤ n
at_most_index f [] k x n lt e h = absurd (omega (arith, lt))
at_most_index f (y ∷ xs) zero x n lt e h = let one = ap f e in omega (arith, sum_by-cons f y xs, one, h)
at_most_index f (y ∷ xs) (suc k) x n lt e h = at_most_index f xs k x n (omega (arith, lt)) e (omega (arith, sum_by-cons f y xs, h))

-- ---- the number of a first cell

no_cells : (g : SegmentGrid) → cells g 0 ≡ 0
unfolding cells
no_cells g = refl

low_counted : (once n : ℕ) (video audio : Option ℕ) → n ≤ once → IfSome video (λ v. n ≤ v) → IfSome audio (λ a. n ≤ a) → n ≤ counted once video audio
low_counted once n None None h v a = h
low_counted once n None (Some x) h v a = a
low_counted once n (Some x) audio h v a = omega (arith, v)

-- a part has at least the cells that its declared length says
pub declared_few : (g : SegmentGrid) (p : Part × PartSeen) → declared_cells g p.0 ≤ part_cells g p
declared_few g (part, seen) = by part.length_ms refl
  where
    each : (n : ℕ) (track : Option Seen) → part.length_ms ≡ Some n → IfSome (option_map (track_cells g part) track) (λ v. cells g n ≤ v)
    each n None e = tt
    each n (Some s) e = rw e (omega arith)

    by : (declared : Option ℕ) → part.length_ms ≡ declared → declared_cells g part ≤ part_cells g (part, seen)
    by None e = let none = ap (λ (o : Option ℕ). cells g (unwrap_or o 0)) e ∙ no_cells g in omega (arith, none)
    by (Some n) e =
        let own = ap (λ (o : Option ℕ). cells g (unwrap_or o 0)) e in
        let low = low_counted (cells g (length_seen part [])) (cells g n) (option_map (track_cells g part) seen.video) (option_map (track_cells g part) seen.audio) (rw e (omega arith)) (each n seen.video e) (each n seen.audio e) in
        omega (arith, own, low)

-- the declared cells of the parts before one are few
pub before_few : (g : SegmentGrid) (ps : List LookedPart) (k : ℕ) → sum_by (λ p. part_cells g (looked_seen p)) ps ≤ 100000 → 1 + sum_by (λ p. declared_cells g p.part) (take k ps) ≤ 100001
before_few g ps k h =
    let front = sum_by-take-le (λ (p : LookedPart). declared_cells g p.part) ps k in
    let low = sum_by-le-sum_by (λ (p : LookedPart). declared_cells g p.part) (λ (p : LookedPart). part_cells g (looked_seen p)) ps (λ p. declared_few g (looked_seen p)) in
    omega (arith, front, low, h)

taken_sum : (g : SegmentGrid) (ps : List LookedPart) (k : ℕ) → sum_by (declared_cells g) (take k (map (λ (p : Part × PartSeen). p.0) (map looked_seen ps))) ≡ sum_by (λ p. declared_cells g p.part) (take k ps)
taken_sum g [] zero = refl
taken_sum g [] (suc k) = refl
taken_sum g (p ∷ ps) zero = refl
taken_sum g (p ∷ ps) (suc k) =
    let ih = taken_sum g ps k in
    omega (arith, sum_by-cons (declared_cells g) p.part (take k (map (λ (p : Part × PartSeen). p.0) (map looked_seen ps))), sum_by-cons (λ (p : LookedPart). declared_cells g p.part) p (take k ps), ih)

pub first_is : (g : SegmentGrid) (ps : List LookedPart) (k : ℕ) → 1 + sum_by (λ p. declared_cells g p.part) (take k ps) ≡ first_cell g (map (λ (p : Part × PartSeen). p.0) (map looked_seen ps)) k
first_is g ps k = ap (λ (n : ℕ). 1 + n) (sym (taken_sum g ps k))

-- ---- what is put behind others

-- one more list is put behind others
pub joined_on : {X Y : Type 0} (f : X → List Y) (xs : List X) (i : ℕ) (x : X) (all now : List Y) → drop i xs ≡ x ∷ drop (i + 1) xs → now ≡ all ++ f x → all ++ flat_map f (drop i xs) ≡ flat_map f xs → now ++ flat_map f (drop (i + 1) xs) ≡ flat_map f xs
joined_on {X = X} {Y = Y} f xs i x all now next is left =
    ap (λ (ys : List Y). ys ++ flat_map f (drop (i + 1) xs)) is ∙ append_assoc all (f x) (flat_map f (drop (i + 1) xs)) ∙ sym (ap (λ (zs : List X). all ++ flat_map f zs) next) ∙ left

-- when all were put
pub joined_all : {X Z Y : Type 0} (h : Z → List Y) (v : X → Z) (xs : List X) (i : ℕ) (all : List Y) → length xs ≤ i → all ++ flat_map (λ x. h (v x)) (drop i xs) ≡ flat_map (λ x. h (v x)) xs → all ≡ flat_map h (map v xs)
joined_all {X = X} h v xs i all past left =
    sym (append-nil all) ∙ sym (ap (λ (zs : List X). all ++ flat_map (λ x. h (v x)) zs) (drop_all i xs past)) ∙ left ∙ sym (flat_map-map h v xs)

-- one more element, whose number is its place
pub listed_on : {X Z Y : Type 0} (h : X → Z) (f : ℕ × Z → Y) (xs : List X) (i : ℕ) (x : X) (all now whole : List Y) → drop i xs ≡ x ∷ drop (i + 1) xs → now ≡ all ++ f (i, h x) ∷ []
    → all ++ map f (enumerate_from i (map h (drop i xs))) ≡ whole → now ++ map f (enumerate_from (i + 1) (map h (drop (i + 1) xs))) ≡ whole
listed_on {X = X} {Y = Y} h f xs i x all now whole next is left =
    ap (λ (ys : List Y). ys ++ map f (enumerate_from (i + 1) (map h (drop (i + 1) xs)))) is ∙ append_assoc all (f (i, h x) ∷ []) (map f (enumerate_from (i + 1) (map h (drop (i + 1) xs))))
    ∙ sym (ap (λ (zs : List X). all ++ map f (enumerate_from i (map h zs))) next) ∙ left

-- one more length
pub longest_on : {X : Type 0} (f : X → ℕ) (xs : List X) (i : ℕ) (x : X) (longest now whole : ℕ) → drop i xs ≡ x ∷ drop (i + 1) xs → now ≡ max longest (f x)
    → fold max longest (map f (drop i xs)) ≡ whole → fold max now (map f (drop (i + 1) xs)) ≡ whole
longest_on {X = X} f xs i x longest now whole next is left =
    ap (λ (n : ℕ). fold max n (map f (drop (i + 1) xs))) is ∙ sym (ap (λ (zs : List X). fold max longest (map f zs)) next) ∙ left

-- ---- the part at a place

module _ (m : Mapping) (g : SegmentGrid) (align : Bool) (place : ℕ) (s : LookedSequence) where
  pub reps_there : (p : LookedPart) (first : ℕ) → slice_get s.parts.items place ≡ Some p → first ≡ 1 + sum_by (λ p. declared_cells g p.part) (take place s.parts.items)
      → reps_seen m g align s.number (place + 1) first (looked_seen p) ≡ sequence_reps m g align place (sequence_seen s)
  reps_there p first at is =
      ap (λ (n : ℕ). reps_seen m g align s.number (place + 1) n (looked_seen p)) (is ∙ first_is g s.parts.items place)
      ∙ sym (ap (λ (o : Option (Part × PartSeen)). option_map_or (reps_seen m g align s.number (place + 1) (first_cell g (parts_seen (sequence_seen s)) place)) o [])
      (slice_get-map looked_seen s.parts.items place ∙ ap (option_map looked_seen) at))

  pub reps_nowhere : slice_get s.parts.items place ≡ None → sequence_reps m g align place (sequence_seen s) ≡ []
  reps_nowhere none =
      ap (λ (o : Option (Part × PartSeen)). option_map_or (reps_seen m g align s.number (place + 1) (first_cell g (parts_seen (sequence_seen s)) place)) o [])
      (slice_get-map looked_seen s.parts.items place ∙ ap (option_map looked_seen) none)

-- ---- the parts of the first sequence

parts_looked : (ps : List LookedPart) → map (λ (p : LookedPart). p.part) ps ≡ map (λ (p : Part × PartSeen). p.0) (map looked_seen ps)
parts_looked [] = refl
parts_looked (p ∷ ps) = ap (λ (parts : List Part). p.part ∷ parts) (parts_looked ps)

pub first_are : (ss : List LookedSequence) (s : LookedSequence) (rest : List LookedSequence) (ps : List LookedPart) → ss ≡ s ∷ rest → ps ≡ s.parts.items → map (λ (p : LookedPart). p.part) ps ≡ first_seen (map sequence_seen ss)
first_are ss s rest ps begins are = ap (map (λ (p : LookedPart). p.part)) are ∙ parts_looked s.parts.items ∙ sym (ap (λ (ss : List LookedSequence). first_seen (map sequence_seen ss)) begins)
