-- Parts of a clip: ranges, faults and reads.
use Rattle.std.proofs.Common.{◌≡◌, ℕ, ◌+◌, ◌<◌, ◌≤◌, suc, List, [], ◌∷◌, ◌++◌, length, drop, get_or, map, flat_map, Option, Some, None, Err, refl, sym, ap, ◌∙◌, subst, append_assoc, append-nil, inl, inr, arith}
use Rattle.std.specs.Prelude.{◌⊎◌, ◌≢◌}
use Rattle.std.proofs.lemmas.Bool.{lt-ltb, le-ltb}
use Rattle.std.proofs.lemmas.List.{drop_all}
use Rattle.std.proofs.Math.Seq.{drop-cons}
use Rattle.vod_types.specs.declared.paths.ByteRange.{ByteRange}
use Rattle.vod_types.specs.declared.refusal.Refusal.{Refusal}
use Rattle.vod_types.specs.declared.refusal.Refusal.TheVariants.{NoMemory, OutOfFile, SampleTooLong, StoreFailed}
use Rattle.list_model.specs.Ranges.{range_first, range_last, taken_range}
use Rattle.media_model.specs.Clip.{PlacedRow}
use Rattle.vod_source.specs.Calls.{LogsReads}
use Rattle.vod_source.specs.Stored.{Read}
use Rattle.vod_source.specs.Told.{told_with}
use Rattle.vod_source.proofs.ToldLemmas.{GrewByPrefix-after, GrewByPrefix-more}
use Rattle.flat_clip.specs.Parts.{row_fault}

-- ---- ranges

pub taken-some : (range : ByteRange) (n first last : ℕ) → first ≡ range_first range n → last ≡ range_last range n → first < n → Some (first, last) ≡ taken_range range n
unfolding taken_range
taken-some range n first last f l within = rw (f, l, lt-ltb (range_first range n) n (subst (λ (a : ℕ). a < n) f within)) refl

pub taken-none : (range : ByteRange) (n first : ℕ) → first ≡ range_first range n → n ≤ first → None ≡ taken_range range n
unfolding taken_range
taken-none range n first f past = rw (le-ltb (range_first range n) n (subst (λ (a : ℕ). n ≤ a) f past)) refl

-- ---- faults

module _ (name : List ℕ) (size : ℕ) (r : PlacedRow) where
  pub row-long : 16777216 < r.row.row.sample.size → row_fault name size r ≡ Some (SampleTooLong name r.row.row.number r.row.row.sample.size)
  unfolding row_fault
  row-long long = rw (lt-ltb 16777216 r.row.row.sample.size long) refl

  module _ (short : r.row.row.sample.size ≤ 16777216) where
    pub row-out : size < r.row.row.sample.at + r.row.row.sample.size → row_fault name size r ≡ Some (OutOfFile name r.row.row.number)
    unfolding row_fault
    row-out out = rw (le-ltb 16777216 r.row.row.sample.size short, lt-ltb size (r.row.row.sample.at + r.row.row.sample.size) out) refl

    pub row-sound : r.row.row.sample.at + r.row.row.sample.size ≤ size → row_fault name size r ≡ None
    unfolding row_fault
    row-sound within = rw (le-ltb 16777216 r.row.row.sample.size short, le-ltb size (r.row.row.sample.at + r.row.row.sample.size) within) refl

-- ---- lists

pub list_left : {X : Type 0} (xs : List X) (i : ℕ) (x : X) → i < length xs → x ≡ get_or xs i x → drop i xs ≡ x ∷ drop (i + 1) xs
list_left {X = X} xs i x within is =
    drop-cons xs i x within
    ∙ ap (λ (y : X). y ∷ drop (suc i) xs) (sym is)
    ∙ ap (λ (n : ℕ). x ∷ drop n xs) (let more : suc i ≡ i + 1 = omega arith in more)

-- what is left of lists that are made of elements, one more of which is put behind those before
pub more-left : {X A : Type 0} (f : X → List A) (xs : List X) (i : ℕ) (x : X) (before now all : List A) → drop i xs ≡ x ∷ drop (i + 1) xs
    → before ++ flat_map f (drop i xs) ≡ all → now ≡ before ++ f x → now ++ flat_map f (drop (i + 1) xs) ≡ all
more-left {X = X} {A = A} f xs i x before now all left was is =
    ap (λ (l : List A). l ++ flat_map f (drop (i + 1) xs)) is
    ∙ append_assoc before (f x) (flat_map f (drop (i + 1) xs))
    ∙ ap (λ (l : List X). before ++ flat_map f l) (sym left)
    ∙ was

-- none is left
pub all-left : {X A : Type 0} (f : X → List A) (xs : List X) (i : ℕ) (before all : List A) → length xs ≤ i → before ++ flat_map f (drop i xs) ≡ all → before ≡ all
all-left {X = X} f xs i before all past was = sym (append-nil before) ∙ ap (λ (l : List X). before ++ flat_map f l) (sym (drop_all i xs past)) ∙ was

pub flat_map-shown : {X Y A : Type 0} (f : Y → List A) (g : X → Y) (xs : List X) → flat_map f (map g xs) ≡ flat_map (λ x. f (g x)) xs
flat_map-shown f g [] = refl
flat_map-shown f g (x ∷ xs) = ap (λ (l : List _). f (g x) ++ l) (flat_map-shown f g xs)

-- ---- reads

-- some reads were made, and then some of the next before the store failed or memory ran out
pub logs-cut : (e : Refusal) (all done here later : List Read) (before middle now : Option (List Read)) → all ≡ done ++ (here ++ later) → middle ≡ told_with before done
    → LogsReads {X = Unit {0}} (Err e) here middle now → (e ≡ NoMemory) ⊎ (e ≡ StoreFailed) → LogsReads {X = Unit {0}} (Err e) all before now
logs-cut e all done here later before middle now is was h only =
    subst (λ (reads : List Read). LogsReads {X = Unit {0}} (Err e) reads before now) (sym is)
    (GrewByPrefix-after done was (GrewByPrefix-more later h.0), λ known_memory known_store. absurd (neither only known_memory known_store))
  where
    neither : (e ≡ NoMemory) ⊎ (e ≡ StoreFailed) → e ≢ NoMemory → e ≢ StoreFailed → ⊥
    neither (inl m) no_memory no_store = no_memory m
    neither (inr s) no_memory no_store = no_store s
