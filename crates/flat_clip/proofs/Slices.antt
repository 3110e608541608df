-- The bytes of a part: those of the front, and those of each row that has bytes in it.
use Rattle.std.proofs.Common.{◌≡◌, ℕ, zero, suc, ◌+◌, ◌-◌, ◌<◌, ◌≤◌, min, Bool, true, false, ◌&&◌, cond, List, [], ◌∷◌, ◌++◌, length, take, drop, slice_range, flat_map, All, Some, refl, sym, ap, ap₂, ◌∙◌, append-nil, length-append, length-drop, take_all, inl, inr, arith}
use Rattle.std.specs.Prelude.{◌⊎◌, nat_le, nat_lt}
use Rattle.std.proofs.lemmas.Bool.{le-ltb, lt-ltb, le-leb, lt-leb}
use Rattle.std.proofs.lemmas.List.{drop-drop, drop-take, drop_all, length-replicate, length-take}
use Rattle.std.proofs.lemmas.List.Elements.{All-head, All-tail}
use Rattle.vod_types.specs.declared.segments.Row.{Row}
use Rattle.vod_bytes.specs.Fields.{zeros}
use Rattle.media_model.specs.Clip.{ClipTrack, PlacedRow, clip, clip_front, media_start, meets, met_bytes, ordered_rows, placed_from, placed_rows}
use Rattle.media_model.specs.WritingOrder.{TrackRow}
use Rattle.media_model.proofs.ClipSizes.{HasReferences, HaveOrderedSizes, HaveSizes, length-clip_front}
use Rattle.media_model.proofs.Stream.{writing_order-all}
use Rattle.vod_source.specs.Stored.{Files, bytes_at, bytes_of}
use Rattle.flat_clip.specs.Parts.{LiesIf, bytes_in, row_part}

-- ---- lists

le_or_lt : (a b : ℕ) → (a ≤ b) ⊎ (b < a)
le_or_lt zero b = inl (omega arith)
le_or_lt (suc a) zero = inr (omega arith)
le_or_lt (suc a) (suc b) = more (le_or_lt a b)
  where
    more : (a ≤ b) ⊎ (b < a) → (suc a ≤ suc b) ⊎ (suc b < suc a)
    more (inl h) = inl (omega (arith, h))
    more (inr h) = inr (omega (arith, h))

drop-split : (n : ℕ) (xs ys : List ℕ) → drop n (xs ++ ys) ≡ drop n xs ++ drop (n - length xs) ys
drop-split zero xs ys = ap (λ (k : ℕ). xs ++ drop k ys) (let none : 0 ≡ 0 - length xs = omega arith in none)
drop-split (suc n) [] ys = ap (λ (k : ℕ). drop k ys) (let same : suc n ≡ suc n - 0 = omega arith in same)
drop-split (suc n) (x ∷ xs) ys = drop-split n xs ys ∙ ap (λ (k : ℕ). drop n xs ++ drop k ys) (let same : n - length xs ≡ suc n - suc (length xs) = omega arith in same)

take-split : (n : ℕ) (xs ys : List ℕ) → take n (xs ++ ys) ≡ take n xs ++ take (n - length xs) ys
take-split zero xs ys = ap (λ (k : ℕ). take k ys) (let none : 0 ≡ 0 - length xs = omega arith in none)
take-split (suc n) [] ys = ap (λ (k : ℕ). take k ys) (let same : suc n ≡ suc n - 0 = omega arith in same)
take-split (suc n) (x ∷ xs) ys =
    ap (λ (l : List ℕ). x ∷ l) (take-split n xs ys ∙ ap (λ (k : ℕ). take n xs ++ take k ys) (let same : n - length xs ≡ suc n - suc (length xs) = omega arith in same))

take-none : (k : ℕ) → take {A = ℕ} k [] ≡ []
take-none k = take_all k [] (omega arith)

-- a part of two lists
range-split : (xs ys : List ℕ) (a b : ℕ) → slice_range (xs ++ ys) a b ≡ slice_range xs a b ++ slice_range ys (a - length xs) (b - length xs)
range-split xs ys a b =
    ap (take (b - a)) (drop-split a xs ys)
    ∙ take-split (b - a) (drop a xs) (drop (a - length xs) ys)
    ∙ ap (λ (n : ℕ). take (b - a) (drop a xs) ++ take n (drop (a - length xs) ys)) (
    let size = length-drop a xs in
    let same : (b - a) - length (drop a xs) ≡ (b - length xs) - (a - length xs) = omega (arith, size) in
    same
    )

-- as many elements, or all of them
take-same : (n m : ℕ) (xs : List ℕ) → min n (length xs) ≡ min m (length xs) → take n xs ≡ take m xs
take-same n m xs e = by (le_or_lt (length xs) n) (le_or_lt (length xs) m)
  where
    by : (length xs ≤ n) ⊎ (n < length xs) → (length xs ≤ m) ⊎ (m < length xs) → take n xs ≡ take m xs
    by (inl h) (inl i) = take_all n xs h ∙ sym (take_all m xs i)
    by (inl h) (inr i) = absurd (omega (arith, h, i, e))
    by (inr h) (inl i) = absurd (omega (arith, h, i, e))
    by (inr h) (inr i) = ap (λ (k : ℕ). take k xs) (let same : n ≡ m = omega (arith, h, i, e) in same)

-- a part of a part
sub : (file : List ℕ) (at n from count : ℕ) → from + count ≤ n → take count (drop from (take n (drop at file))) ≡ take count (drop (at + from) file)
sub file at n from count fits =
    let more : n ≡ from + (n - from) = omega (arith, fits) in
    ap (λ (k : ℕ). take count (drop from (take k (drop at file)))) more
    ∙ ap (take count) (drop-take from (n - from) (drop at file))
    ∙ take-take count (n - from) (drop from (drop at file)) (omega (arith, fits))
    ∙ ap (take count) (drop-drop from at file)
  where
    take-take : (a b : ℕ) (xs : List ℕ) → a ≤ b → take a (take b xs) ≡ take a xs
    take-take zero b xs h = refl
    take-take (suc a) zero xs h = absurd (omega (arith, h))
    take-take (suc a) (suc b) [] h = refl
    take-take (suc a) (suc b) (x ∷ xs) h = ap (λ (l : List ℕ). x ∷ l) (take-take a b xs (omega (arith, h)))

-- ---- one row

module _ (first last : ℕ) where
  abbrev part : ℕ × ℕ
  part = (first, last)

  -- its bytes in the part
  abbrev met_part : List ℕ → PlacedRow → List ℕ
  met_part bytes r = cond (meets part r) (take (met_bytes part r).1 (drop (met_bytes part r).0 bytes)) []

  row-slice : (bytes : List ℕ) (r : PlacedRow) → length bytes ≡ r.row.row.sample.size → slice_range bytes (first - r.place) (last + 1 - r.place) ≡ met_part bytes r
  row-slice bytes r size = by (le_or_lt r.row.row.sample.size 0) (le_or_lt r.place last) (le_or_lt (r.place + r.row.row.sample.size) first)
    where
      by : (r.row.row.sample.size ≤ 0) ⊎ (0 < r.row.row.sample.size) → (r.place ≤ last) ⊎ (last < r.place) → (r.place + r.row.row.sample.size ≤ first) ⊎ (first < r.place + r.row.row.sample.size) → slice_range bytes (first - r.place) (last + 1 - r.place) ≡ met_part bytes r
      by (inl h) c d =
          let off : nat_lt 0 r.row.row.sample.size ≡ false = le-ltb 0 r.row.row.sample.size h in
          rw off (ap (take ((last + 1 - r.place) - (first - r.place))) (drop_all (first - r.place) bytes (omega (arith, h, size))) ∙ take-none ((last + 1 - r.place) - (first - r.place)))
      by (inr h) (inr i) d =
          let on : nat_lt 0 r.row.row.sample.size ≡ true = lt-ltb 0 r.row.row.sample.size h in
          let off : nat_le r.place last ≡ false = lt-leb r.place last i in
          rw (on, off) (ap (λ (k : ℕ). take k (drop (first - r.place) bytes)) (let none : (last + 1 - r.place) - (first - r.place) ≡ 0 = omega (arith, i) in none))
      by (inr h) (inl i) (inl j) =
          let on : nat_lt 0 r.row.row.sample.size ≡ true = lt-ltb 0 r.row.row.sample.size h in
          let also : nat_le r.place last ≡ true = le-leb r.place last i in
          let off : nat_lt first (r.place + r.row.row.sample.size) ≡ false = le-ltb first (r.place + r.row.row.sample.size) j in
          rw (on, also, off) (ap (take ((last + 1 - r.place) - (first - r.place))) (drop_all (first - r.place) bytes (omega (arith, j, size))) ∙ take-none ((last + 1 - r.place) - (first - r.place)))
      by (inr h) (inl i) (inr j) =
          let on : nat_lt 0 r.row.row.sample.size ≡ true = lt-ltb 0 r.row.row.sample.size h in
          let also : nat_le r.place last ≡ true = le-leb r.place last i in
          let too : nat_lt first (r.place + r.row.row.sample.size) ≡ true = lt-ltb first (r.place + r.row.row.sample.size) j in
          rw (on, also, too)
          (take-same ((last + 1 - r.place) - (first - r.place)) (met_bytes part r).1 (drop (first - r.place) bytes) (
          let left = length-drop (first - r.place) bytes in
          omega (arith, left, size, i, j)
          ))

  -- what is read of a row is within it
  met-within : (r : PlacedRow) → meets part r ≡ true → (met_bytes part r).0 + (met_bytes part r).1 ≤ r.row.row.sample.size
  met-within r e = by (le_or_lt (r.place + r.row.row.sample.size) first) e
    where
      last-of : (b c d : Bool) → (b && c && d) ≡ true → d ≡ true
      last-of true true d e = e
      last-of true false d e = absurd cc
      last-of false c d e = absurd cc

      by : (r.place + r.row.row.sample.size ≤ first) ⊎ (first < r.place + r.row.row.sample.size) → meets part r ≡ true → (met_bytes part r).0 + (met_bytes part r).1 ≤ r.row.row.sample.size
      by (inl h) e =
          let past : nat_lt first (r.place + r.row.row.sample.size) ≡ false = le-ltb first (r.place + r.row.row.sample.size) h in
          let met : nat_lt first (r.place + r.row.row.sample.size) ≡ true = last-of (nat_lt 0 r.row.row.sample.size) (nat_le r.place last) (nat_lt first (r.place + r.row.row.sample.size)) e in
          absurd (let both = sym past ∙ met in cc)
      by (inr h) e = omega (arith, h)

  -- ---- all rows

  rows-slice : (bytes : Row → List ℕ) (rows : List TrackRow) (place : ℕ) → HaveOrderedSizes bytes rows
      → slice_range (flat_map (λ r. bytes r.row) rows) (first - place) (last + 1 - place) ≡ flat_map (λ r. met_part (bytes r.row.row) r) (placed_from place rows)
  rows-slice bytes [] place h = empty (first - place) (last + 1 - place)
    where
      empty : (a b : ℕ) → slice_range {X = ℕ} [] a b ≡ []
      empty a b = ap (take (b - a)) (drop_all a [] (omega arith)) ∙ take_all (b - a) [] (omega arith)
  rows-slice bytes (r ∷ rows) place h =
      let own : List ℕ = bytes r.row in
      let rest : List ℕ = flat_map (λ r. bytes r.row) rows in
      let next : ℕ = place + r.row.sample.size in
      let from : (first - place) - length own ≡ first - next = omega (arith, h.0) in
      let until : (last + 1 - place) - length own ≡ last + 1 - next = omega (arith, h.0) in
      range-split own rest (first - place) (last + 1 - place)
      ∙ ap (λ (l : List ℕ). l ++ slice_range rest ((first - place) - length own) ((last + 1 - place) - length own)) (row-slice own (record { place = place; row = r }) h.0)
      ∙ ap₂ (λ (a b : ℕ). met_part own (record { place = place; row = r }) ++ slice_range rest a b) from until
      ∙ ap (λ (l : List ℕ). met_part own (record { place = place; row = r }) ++ l) (rows-slice bytes rows next h.1)

  -- ---- the bytes of a file

  module _ (files : Files) (name : List ℕ) where
    pub sizes-are : (rows : List Row) → HaveSizes (bytes_in files name) rows
    sizes-are [] = tt
    sizes-are (row ∷ rows) =
        let bytes : List ℕ = bytes_at files name row.sample.at row.sample.size in (
          omega (
            arith,
            length-append bytes (zeros (row.sample.size - length bytes)),
            length-replicate {A = ℕ} (row.sample.size - length bytes) 0,
            length-take row.sample.size (drop row.sample.at (bytes_of files name)),
          ),
          sizes-are rows,
        )

    -- a row that lies in the file: what is read of it is its part
    row-read : (r : PlacedRow) → LiesIf name part (Some files) r → met_part (bytes_in files name r.row.row) r ≡ row_part name part files r
    row-read r lies = by (meets part r) refl
      where
        by : (b : Bool) → meets part r ≡ b
            → cond b (take (met_bytes part r).1 (drop (met_bytes part r).0 (bytes_in files name r.row.row))) [] ≡ cond b (bytes_at files name (r.row.row.sample.at + (met_bytes part r).0) (met_bytes part r).1) []
        by false e = refl
        by true e =
            let file : List ℕ = bytes_of files name in
            let within : r.row.row.sample.at + r.row.row.sample.size ≤ length file = lies.within e in
            let bytes : List ℕ = bytes_at files name r.row.row.sample.at r.row.row.sample.size in
            let size : length bytes ≡ r.row.row.sample.size = omega (arith, within, length-drop r.row.row.sample.at file, length-take r.row.row.sample.size (drop r.row.row.sample.at file)) in
            let missing : r.row.row.sample.size - length bytes ≡ 0 = omega (arith, size) in
            let whole : bytes_in files name r.row.row ≡ bytes = ap (λ (k : ℕ). bytes ++ zeros k) missing ∙ append-nil bytes in
            ap (λ (l : List ℕ). take (met_bytes part r).1 (drop (met_bytes part r).0 l)) whole ∙ sub file r.row.row.sample.at r.row.row.sample.size (met_bytes part r).0 (met_bytes part r).1 (met-within r e)

    rows-read : (rows : List PlacedRow) → All (LiesIf name part (Some files)) rows → flat_map (λ r. met_part (bytes_in files name r.row.row) r) rows ≡ flat_map (row_part name part files) rows
    rows-read [] lies = refl
    rows-read (r ∷ rows) lies =
        ap₂ (λ (xs ys : List ℕ). xs ++ ys) (row-read r (All-head (LiesIf name part (Some files)) r rows lies)) (rows-read rows (All-tail (LiesIf name part (Some files)) r rows lies))

    -- the bytes of a part of the clip
    pub part-bytes : (video audio : ClipTrack) → HasReferences video audio → All (LiesIf name part (Some files)) (placed_rows video audio)
        → slice_range (clip video audio (bytes_in files name)) first (last + 1) ≡ slice_range (clip_front video audio) first (last + 1) ++ flat_map (row_part name part files) (placed_rows video audio)
    unfolding clip
    part-bytes video audio h lies =
        let bytes : Row → List ℕ = bytes_in files name in
        let media : List ℕ = flat_map (λ r. bytes r.row) (ordered_rows video audio) in
        range-split (clip_front video audio) media first (last + 1)
        ∙ ap (λ (n : ℕ). slice_range (clip_front video audio) first (last + 1) ++ slice_range media (first - n) (last + 1 - n)) (length-clip_front video audio h)
        ∙ ap (λ (l : List ℕ). slice_range (clip_front video audio) first (last + 1) ++ l)
        (rows-slice bytes (ordered_rows video audio) (media_start video audio) (writing_order-all (λ r. length (bytes r.row) ≡ r.row.sample.size) video.rows audio.rows (sizes-are video.rows) (sizes-are audio.rows))
        ∙ rows-read (placed_rows video audio) lies)
