-- The sample that comes next.
use Rattle.std.proofs.Common.{◌≡◌, ℕ, zero, suc, ◌+◌, ◌<◌, ◌≤◌, cond, List, [], ◌∷◌, ◌++◌, length, take, Some, None, sym, ap, ◌∙◌, inl, inr, drop, ◌-◌, length-append, length-drop, add-one, drop-cons, arith}
use Rattle.std.specs.Prelude.{slice_get, Contains}
use Rattle.std.proofs.lemmas.Option.{slice_get_within, get_or_from_slice_get}
use Rattle.std.proofs.lemmas.List.{drop_all, drop-drop}
use Rattle.std.proofs.lemmas.Bool.{le-ltb, lt-ltb, cases_lt}
use Rattle.vod_types.specs.declared.tracks.Kind.TheVariants.{Video, Audio}
use Rattle.vod_types.specs.declared.segments.Row.{Row}
use Rattle.vod_types.specs.SegmentRows.{SegmentRows, Places, at_front, next_row, rows_left, moved}
use Rattle.fmp4_writer.specs.Samples.{samples_left, next_kind, IsRow}
use Rattle.fmp4_writer.proofs.RowsLemmas.{rows_left-next, none_left}

Contains-slice_get : (rows : List Row) (k : ℕ) (row : Row) → slice_get rows k ≡ Some row → Contains rows row
Contains-slice_get rows k row is = (k, slice_get_within rows k row is, get_or_from_slice_get rows k row row is)

past-slice_get : {A : Type 0} (xs : List A) (k : ℕ) → slice_get xs k ≡ None → length xs ≤ k
past-slice_get [] k is = omega arith
past-slice_get (x ∷ xs) zero is = cc
past-slice_get (x ∷ xs) (suc k) is = omega (arith, past-slice_get xs k is)

module _ (rows : SegmentRows) (places : Places) (row : Row) where
  -- a video row that comes next
  pub first-video : Some row ≡ next_row Video rows places → take 1 (samples_left rows places) ≡ row ∷ []
  first-video is = ap (λ (left : List Row). take 1 (left ++ rows_left Audio rows places)) (rows_left-next Video rows places row (sym is))

  pub IsRow-video : Some row ≡ next_row Video rows places → IsRow row rows
  IsRow-video is = inl (Contains-slice_get rows.video places.video row (sym is))

  module _ (rows' : SegmentRows) (places' : Places) (same : rows' ≡ rows) (stays : places' ≡ places) where
    -- an audio row that comes next, where no video row is left
    pub first-audio : None ≡ next_row Video rows places → Some row ≡ next_row Audio rows' places' → take 1 (samples_left rows places) ≡ row ∷ []
    first-audio none is =
        let left : rows_left Video rows places ≡ [] = none_left Video rows places none in
        let next : Some row ≡ next_row Audio rows places = is ∙ ap (λ (r : SegmentRows). next_row Audio r places') same ∙ ap (next_row Audio rows) stays in
        ap (λ (video : List Row). take 1 (video ++ rows_left Audio rows places)) left
        ∙ ap (λ (audio : List Row). take 1 audio) (rows_left-next Audio rows places row (sym next))

    pub IsRow-audio : Some row ≡ next_row Audio rows' places' → IsRow row rows
    IsRow-audio is = inr (Contains-slice_get rows.audio places.audio row (sym (is ∙ ap (λ (r : SegmentRows). next_row Audio r places') same ∙ ap (next_row Audio rows) stays)))

-- where no video row comes next, the next one is of audio
pub next_kind-audio : (rows : SegmentRows) (places : Places) → None ≡ next_row Video rows places → next_kind rows places ≡ Audio
next_kind-audio rows places none =
    ap (λ b. cond b Video Audio) (le-ltb places.video (length rows.video) (past-slice_get rows.video places.video (sym none)))

-- ---- what is left after a step

next_kind-video : (rows : SegmentRows) (places : Places) → places.video < length rows.video → next_kind rows places ≡ Video
next_kind-video rows places more = ap (λ b. cond b Video Audio) (lt-ltb places.video (length rows.video) more)

next_kind-none : (rows : SegmentRows) (places : Places) → length rows.video ≤ places.video → next_kind rows places ≡ Audio
next_kind-none rows places end = ap (λ b. cond b Video Audio) (le-ltb places.video (length rows.video) end)

first_dropped : {A : Type 0} (xs ys : List A) (i : ℕ) → i < length xs → drop (i + 1) xs ++ ys ≡ drop 1 (drop i xs ++ ys)
first_dropped [] ys i within = absurd (omega arith)
first_dropped (x ∷ xs) ys i within = rw add-one (sym (ap (λ l. drop 1 (l ++ ys)) (drop-cons (x ∷ xs) i x within)))

-- all but the first of what was left is left
pub samples_left-moved : (rows : SegmentRows) (places : Places) → samples_left rows (moved (next_kind rows places) places) ≡ drop 1 (samples_left rows places)
samples_left-moved rows places = elim (cases_lt places.video (length rows.video)) [
  | inl more ↦
      ap (λ kind. samples_left rows (moved kind places)) (next_kind-video rows places more)
      ∙ first_dropped rows.video (drop places.audio rows.audio) places.video more
  | inr end ↦
      let none : drop places.video rows.video ≡ [] = drop_all places.video rows.video end in
      ap (λ kind. samples_left rows (moved kind places)) (next_kind-none rows places end)
      ∙ ap (λ (video : List Row). video ++ drop (places.audio + 1) rows.audio) none
      ∙ sym (ap (λ (video : List Row). drop 1 (video ++ drop places.audio rows.audio)) none ∙ drop-drop 1 places.audio rows.audio)
]

-- nothing was written yet, so all is left at the front
pub length-samples_front : (rows : SegmentRows) → length (samples_left rows at_front) ≡ length rows.video + length rows.audio
length-samples_front rows = length-append rows.video rows.audio

pub length-samples_moved : (rows rows' : SegmentRows) (places places' : Places) → rows' ≡ rows → places' ≡ moved (next_kind rows places) places
    → length (samples_left rows' places') ≡ length (samples_left rows places) - 1
length-samples_moved rows rows' places places' same moves =
    rw (same, moves) (ap length (samples_left-moved rows places) ∙ length-drop 1 (samples_left rows places))

pub length-samples_at : (rows rows' : SegmentRows) (places' : Places) → rows' ≡ rows → places' ≡ at_front
    → length (samples_left rows' places') ≡ length rows.video + length rows.audio
length-samples_at rows rows' places' same front = rw (same, front) (length-samples_front rows)
