-- The rows of both kinds in their order, cut in two.
use Rattle.std.proofs.Common.{◌≡◌, ℕ, zero, suc, ◌+◌, Bool, true, false, cond, List, [], ◌∷◌, ◌++◌, map, take, drop, Some, refl, sym, ap, ap₂, ◌∙◌, append_assoc, subst, arith}
use Rattle.std.specs.Prelude.{slice_get, ℤ, int_lt, ◌≤ℤ◌}
use Rattle.std.specs.List.{prefix_len}
use Rattle.std.proofs.lemmas.Int.{ints}
use Rattle.vod_types.specs.declared.segments.Row.{Row}
use Rattle.vod_types.specs.declared.tracks.Kind.{Kind}
use Rattle.vod_types.specs.declared.tracks.Kind.TheVariants.{Video, Audio}
use Rattle.vod_types.specs.Tracks.{same_kind}
use Rattle.media_model.specs.Fragment.{sizes}
use Rattle.media_model.specs.WritingOrder.{TrackRow, of_track, is_before, writing_order}
use Rattle.media_model.proofs.ClipSizes.{kind_rows, ordered_size}
use Rattle.mp4_clip.specs.Cuts.{Cut, RowsRise}

-- ---- lists

take-plus : {X : Type 0} (n m : ℕ) (xs : List X) → take (n + m) xs ≡ take n xs ++ take m (drop n xs)
take-plus zero m xs = let e : 0 + m ≡ m = omega arith in ap (λ (k : ℕ). take k xs) e
take-plus (suc n) m [] = empty m
  where
    empty : {X : Type 0} (m : ℕ) → take {A = X} (suc n + m) [] ≡ take m []
    empty zero = let e : suc n + 0 ≡ suc n = omega arith in ap (λ (k : ℕ). take k []) e
    empty (suc m) = let e : suc n + suc m ≡ suc (n + suc m) = omega arith in ap (λ (k : ℕ). take k []) e
take-plus (suc n) m (x ∷ xs) = let e : suc n + m ≡ suc (n + m) = omega arith in ap (λ (k : ℕ). take k (x ∷ xs)) e ∙ ap (λ (ys : List _). x ∷ ys) (take-plus n m xs)

drop-plus : {X : Type 0} (n m : ℕ) (xs : List X) → drop (n + m) xs ≡ drop m (drop n xs)
drop-plus zero m xs = let e : 0 + m ≡ m = omega arith in ap (λ (k : ℕ). drop k xs) e
drop-plus (suc n) m [] = empty m
  where
    empty : {X : Type 0} (m : ℕ) → drop {A = X} (suc n + m) [] ≡ drop m []
    empty zero = let e : suc n + 0 ≡ suc n = omega arith in ap (λ (k : ℕ). drop k []) e
    empty (suc m) = let e : suc n + suc m ≡ suc (n + suc m) = omega arith in ap (λ (k : ℕ). drop k []) e
drop-plus (suc n) m (x ∷ xs) = let e : suc n + m ≡ suc (n + m) = omega arith in ap (λ (k : ℕ). drop k (x ∷ xs)) e ∙ drop-plus n m xs

-- what passes one test and then another, which passes no less
prefix-more : {X : Type 0} (p q : X → Bool) → ((x : X) → p x ≡ true → q x ≡ true) → (xs : List X) → prefix_len q xs ≡ prefix_len p xs + prefix_len q (drop (prefix_len p xs) xs)
prefix-more p q more [] = refl
prefix-more p q more (x ∷ xs) = go (p x) refl (prefix-more p q more xs)
  where
    n : ℕ
    n = prefix_len p xs

    go : (a : Bool) → p x ≡ a → prefix_len q xs ≡ n + prefix_len q (drop n xs)
        → cond (q x) (1 + prefix_len q xs) 0 ≡ cond a (1 + n) 0 + prefix_len q (drop (cond a (1 + n) 0) (x ∷ xs))
    go true e later =
        let next : 1 + n ≡ suc n = omega arith in
        let behind : prefix_len q (drop (1 + n) (x ∷ xs)) ≡ prefix_len q (drop n xs) = ap (λ (m : ℕ). prefix_len q (drop m (x ∷ xs))) next in
        ap (λ (b : Bool). cond b (1 + prefix_len q xs) 0) (more x e) ∙ (let all : 1 + prefix_len q xs ≡ 1 + n + prefix_len q (drop (1 + n) (x ∷ xs)) = omega (arith, later, behind) in all)
    go false e later = let same : cond (q x) (1 + prefix_len q xs) 0 ≡ 0 + cond (q x) (1 + prefix_len q xs) 0 = omega arith in same

prefix-none : {X : Type 0} (p : X → Bool) (xs : List X) → prefix_len p (drop (prefix_len p xs) xs) ≡ 0
prefix-none p xs = let e = prefix-more p p (λ x h. h) xs in omega (arith, e)

-- ---- rows of a kind

kinds-audio : (rows : List Row) → kind_rows Audio (map (of_track Audio) rows) ≡ rows
kinds-audio [] = refl
kinds-audio (row ∷ rows) = ap (λ (xs : List Row). row ∷ xs) (kinds-audio rows)

kinds-none : (rows : List Row) → kind_rows Video (map (of_track Audio) rows) ≡ []
kinds-none [] = refl
kinds-none (row ∷ rows) = kinds-none rows

kinds-append : (kind : Kind) (xs ys : List TrackRow) → kind_rows kind (xs ++ ys) ≡ kind_rows kind xs ++ kind_rows kind ys
kinds-append kind [] ys = refl
kinds-append kind (x ∷ xs) ys =
    ap (λ (rows : List Row). cond (same_kind x.kind kind) (x.row ∷ []) [] ++ rows) (kinds-append kind xs ys)
    ∙ sym (append_assoc (cond (same_kind x.kind kind) (x.row ∷ []) []) (kind_rows kind xs) (kind_rows kind ys))

-- ---- cuts

pub cut-none : (video audio : List Row) → Cut video audio 0 0
cut-none video audio = record { front = []; order = refl; of_video = refl; of_audio = refl }

-- how many bytes stand before the others
pub cut-size : (video audio : List Row) (v a : ℕ) (c : Cut video audio v a) → ordered_size c.front ≡ sizes (take v video) + sizes (take a audio)
cut-size video audio v a c = ap₂ (λ (xs ys : List Row). sizes xs + sizes ys) c.of_video c.of_audio

before-later : (v w : Row) → v.sample.dts ≤ℤ w.sample.dts → (x : Row) → is_before v x ≡ true → is_before w x ≡ true
before-later v w h x e = later v.sample.dts w.sample.dts x.sample.dts h e
  where
    later : (a b c : ℤ) → a ≤ℤ b → int_lt c a ≡ true → int_lt c b ≡ true
    later a b c h e = grind (arith, ints)

rise-at : (time : ℤ) (rows : List Row) (i : ℕ) (w : Row) → RowsRise time rows → slice_get rows i ≡ Some w → time ≤ℤ w.sample.dts
rise-at time [] i w rise e = absurd cc
rise-at time (r ∷ rows) zero w rise e = let same : r ≡ w = cc e in subst (λ (x : Row). time ≤ℤ x.sample.dts) same rise.0
rise-at time (r ∷ rows) (suc i) w rise e = trans time r.sample.dts w.sample.dts rise.0 (rise-at r.sample.dts rows i w rise.1 e)
  where
    trans : (a b c : ℤ) → a ≤ℤ b → b ≤ℤ c → a ≤ℤ c
    trans a b c h k = grind (arith, ints)

-- before a video row stand the audio rows that are decoded before it
pub cut-video : (time : ℤ) (video audio : List Row) (i : ℕ) (w : Row) → RowsRise time video → slice_get video i ≡ Some w → Cut video audio i (prefix_len (is_before w) audio)
cut-video time [] audio i w rise e = absurd cc
cut-video time (v ∷ video) audio zero w rise e =
    let same : v ≡ w = cc e in
    let n : ℕ = prefix_len (is_before v) audio in
    let rest : List Row = drop n audio in
    let none : prefix_len (is_before v) rest ≡ 0 = prefix-none (is_before v) audio in
    let again : writing_order (v ∷ video) rest ≡ of_track Video v ∷ writing_order video rest =
    ap (λ (m : ℕ). map (of_track Audio) (take m rest) ++ of_track Video v ∷ writing_order video (drop m rest)) none in
    subst (λ (x : Row). Cut (v ∷ video) audio 0 (prefix_len (is_before x) audio)) same (record {
      front = map (of_track Audio) (take n audio);
      order = ap (λ (rows : List TrackRow). map (of_track Audio) (take n audio) ++ rows) (sym again);
      of_video = kinds-none (take n audio);
      of_audio = kinds-audio (take n audio);
    })
cut-video time (v ∷ video) audio (suc i) w rise e =
    let n : ℕ = prefix_len (is_before v) audio in
    let rest : List Row = drop n audio in
    let later : Cut video rest i (prefix_len (is_before w) rest) = cut-video v.sample.dts video rest i w rise.1 e in
    let m : ℕ = prefix_len (is_before w) rest in
    let all : prefix_len (is_before w) audio ≡ n + m = prefix-more (is_before v) (is_before w) (before-later v w (rise-at v.sample.dts video i w rise.1 e)) audio in
    subst (Cut (v ∷ video) audio (suc i)) (sym all) (record {
      front = map (of_track Audio) (take n audio) ++ of_track Video v ∷ later.front;
      order =
          ap (λ (rows : List TrackRow). map (of_track Audio) (take n audio) ++ of_track Video v ∷ rows) (later.order ∙ ap (λ (xs : List Row). later.front ++ writing_order (drop i video) xs) (sym (drop-plus n m audio)))
          ∙ sym (append_assoc (map (of_track Audio) (take n audio)) (of_track Video v ∷ later.front) (writing_order (drop i video) (drop (n + m) audio)));
      of_video =
          kinds-append Video (map (of_track Audio) (take n audio)) (of_track Video v ∷ later.front)
          ∙ ap (λ (xs : List Row). xs ++ v ∷ kind_rows Video later.front) (kinds-none (take n audio))
          ∙ ap (λ (xs : List Row). v ∷ xs) later.of_video;
      of_audio =
          kinds-append Audio (map (of_track Audio) (take n audio)) (of_track Video v ∷ later.front)
          ∙ ap₂ (λ (xs ys : List Row). xs ++ ys) (kinds-audio (take n audio)) later.of_audio
          ∙ sym (take-plus n m audio);
    })
