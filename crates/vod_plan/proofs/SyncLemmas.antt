-- Sync rows of joined lists, and of the first rows of a list.
use Rattle.std.proofs.Common.{◌≡◌, ℕ, zero, suc, ◌+◌, ◌-◌, ◌<◌, ◌≤◌, Bool, true, false, cond, List, [], ◌∷◌, ◌++◌, length, take, drop, ℤ, get_or, Option, Some, None, Result, Ok, Err, ◌^◌, refl, sym, ap, ap₂, subst, ◌∙◌, arith, length-append}
use Rattle.std.specs.Prelude.{slice_get, slice_range, IfErr, IfOk}
use Rattle.std.specs.Option.{option_map_or}
use Rattle.std.proofs.lemmas.List.Elements.{filter-append}
use Rattle.std.proofs.lemmas.Option.{same_Some, slice_get_within}
use Rattle.vod_types.specs.declared.tracks.Kind.{Kind}
use Rattle.mp4_model.specs.Samples.{flat_row, is_sync}
use Rattle.mp4_model.specs.Tables.{SampleTables}
use Rattle.segment_model.specs.Iframes.{sync_rows}
use Rattle.segment_model.specs.Rows.{TimedRow, timed_row}
use Rattle.vod_plan.specs.Ranges.{PlannedPiece, RowRange, range_of, range_rows}
use Rattle.vod_types.specs.Lists.{nth_from_one}
use Rattle.vod_plan.specs.declared.spans.PlanPiece.{PlanPiece}
use Rattle.vod_plan.specs.Spans.{piece_view, rows_in, IsPlanPiece, IsRange}
use Rattle.vod_plan.specs.Syncs.{rows_at, IsSyncAt}
use Rattle.vod_plan.proofs.JoinLemmas.{get-within, get-past}
use Rattle.vod_plan.proofs.PlaceLemmas.{rest}
use Rattle.vod_plan.proofs.RangeLemmas.{part_length, planned_from, row_at, row_of}
use Rattle.vod_plan.proofs.SoundLemmas.{good_view, view_item}

-- ---- joined rows

pub syncs-join : (xs ys : List TimedRow) → sync_rows (xs ++ ys) ≡ sync_rows xs ++ sync_rows ys
syncs-join xs ys = filter-append (λ (r : TimedRow). r.sync) xs ys

pub sync-here : (xs ys : List TimedRow) (index place : ℕ) → IsSyncAt xs index place → IsSyncAt (xs ++ ys) index place
sync-here xs ys index place is = (
  is.0,
  get-within xs ys place (slice_get_within xs place is.0 is.1) ∙ is.1,
  ap (λ (rows : List TimedRow). slice_get rows index) (syncs-join xs ys) ∙ get-within (sync_rows xs) (sync_rows ys) index (slice_get_within (sync_rows xs) index is.0 is.2) ∙ is.2,
)

pub sync-later : (xs ys : List TimedRow) (index place : ℕ) → IsSyncAt ys index place → IsSyncAt (xs ++ ys) (length (sync_rows xs) + index) (length xs + place)
sync-later xs ys index place is = (
  is.0,
  get-past xs ys (length xs + place) (omega arith) ∙ ap (slice_get ys) (let e : length xs + place - length xs ≡ place = omega arith in e) ∙ is.1,
  ap (λ (rows : List TimedRow). slice_get rows (length (sync_rows xs) + index)) (syncs-join xs ys)
      ∙ get-past (sync_rows xs) (sync_rows ys) (length (sync_rows xs) + index) (omega arith)
      ∙ ap (slice_get (sync_rows ys)) (let e : length (sync_rows xs) + index - length (sync_rows xs) ≡ index = omega arith in e)
      ∙ is.2,
)

pub syncs-few : (xs : List TimedRow) → length (sync_rows xs) ≤ length xs
syncs-few [] = omega arith
syncs-few (x ∷ xs) = go x.sync (syncs-few xs)
  where
    go : (b : Bool) → length (sync_rows xs) ≤ length xs → length (cond b (x ∷ sync_rows xs) (sync_rows xs)) ≤ suc (length xs)
    go true h = omega (arith, h)
    go false h = omega (arith, h)

-- ---- the first rows of a list

pub one_most : (b : Bool) → cond {A = ℕ} b 1 0 ≤ 1
one_most true = omega arith
one_most false = omega arith

front : (xs : List TimedRow) (i : ℕ) (x : TimedRow) → slice_get xs i ≡ Some x → length (sync_rows (take (suc i) xs)) ≡ length (sync_rows (take i xs)) + cond x.sync 1 0
front [] i x e = absurd cc
front (y ∷ ys) zero x e =
    let same : y ≡ x = same_Some y x e in
    ap (λ (r : TimedRow). length (cond r.sync (y ∷ []) [])) same ∙ go x.sync
  where
    go : (b : Bool) → length (cond b (y ∷ []) []) ≡ 0 + cond b 1 0
    go true = refl
    go false = refl
front (y ∷ ys) (suc i) x e = go y.sync (front ys i x e)
  where
    go : (b : Bool) → length (sync_rows (take (suc i) ys)) ≡ length (sync_rows (take i ys)) + cond x.sync 1 0
        → length (cond b (y ∷ sync_rows (take (suc i) ys)) (sync_rows (take (suc i) ys))) ≡ length (cond b (y ∷ sync_rows (take i ys)) (sync_rows (take i ys))) + cond x.sync 1 0
    go true h = omega (arith, h)
    go false h = h

pub front_more : (xs : List TimedRow) (i n : ℕ) (x : TimedRow) (b : Bool) → slice_get xs i ≡ Some x → b ≡ x.sync → n ≡ length (sync_rows (take i xs)) → n + cond b 1 0 ≡ length (sync_rows (take (i + 1) xs))
front_more xs i n x b at sync count =
    ap₂ (λ (m : ℕ) (s : Bool). m + cond s 1 0) count sync
    ∙ sym (front xs i x at)
    ∙ ap (λ (m : ℕ). length (sync_rows (take m xs))) (let e : suc i ≡ i + 1 = omega arith in e)

take_whole : {X : Type 0} (n : ℕ) (xs : List X) → length xs ≤ n → take n xs ≡ xs
take_whole zero [] le = refl
take_whole zero (x ∷ xs) le = absurd (omega arith)
take_whole (suc n) [] le = refl
take_whole {X} (suc n) (x ∷ xs) le = ap (λ (ys : List X). x ∷ ys) (take_whole n xs (omega arith))

pub front_all : (xs : List TimedRow) (i n : ℕ) → length xs ≤ i → n ≡ length (sync_rows (take i xs)) → n ≡ length (sync_rows xs)
front_all xs i n le count = count ∙ ap (λ (ys : List TimedRow). length (sync_rows ys)) (take_whole i xs le)

found_front : (xs : List TimedRow) (i : ℕ) (x : TimedRow) → slice_get xs i ≡ Some x → x.sync ≡ true → slice_get (sync_rows xs) (length (sync_rows (take i xs))) ≡ Some x
found_front [] i x e sync = absurd cc
found_front (y ∷ ys) zero x e sync =
    let same : y ≡ x = same_Some y x e in
    ap (λ (b : Bool). slice_get (cond b (y ∷ sync_rows ys) (sync_rows ys)) 0) (ap (λ (r : TimedRow). r.sync) same ∙ sync) ∙ ap (λ (r : TimedRow). Some r) same
found_front (y ∷ ys) (suc i) x e sync = go y.sync (found_front ys i x e sync)
  where
    go : (b : Bool) → slice_get (sync_rows ys) (length (sync_rows (take i ys))) ≡ Some x
        → slice_get (cond b (y ∷ sync_rows ys) (sync_rows ys)) (length (cond b (y ∷ sync_rows (take i ys)) (sync_rows (take i ys)))) ≡ Some x
    go true h = h
    go false h = h

pub sync_found : (xs : List TimedRow) (i n : ℕ) (x : TimedRow) → slice_get xs i ≡ Some x → true ≡ x.sync → n ≡ length (sync_rows (take i xs)) → IsSyncAt xs n i
sync_found xs i n x at sync count = (x, at, ap (slice_get (sync_rows xs)) count ∙ found_front xs i x at (sym sync))

-- one row alone
pub row_alone : (xs : List TimedRow) (i : ℕ) (x : TimedRow) → slice_get xs i ≡ Some x → slice_range xs i (i + 1) ≡ x ∷ []
row_alone xs i x at = ap (λ (n : ℕ). take n (drop i xs)) (let e : i + 1 - i ≡ 1 = omega arith in e) ∙ go xs i at
  where
    go : (ys : List TimedRow) (j : ℕ) → slice_get ys j ≡ Some x → take 1 (drop j ys) ≡ x ∷ []
    go [] j e = absurd cc
    go (y ∷ ys) zero e = ap (λ (r : TimedRow). r ∷ []) (same_Some y x e)
    go (y ∷ ys) (suc j) e = go ys j e

-- ---- the rows of a range

-- what a cursor tells of a row
pub told_sync : (t u : SampleTables) (i j time : ℕ) (offset : ℤ) (delta : ℕ) (v : ℕ × ℤ × ℕ × Bool) (b : Bool) → v ≡ (time, offset, delta, is_sync t i) → t ≡ u → i ≡ j → b ≡ is_sync u j → v.3 ≡ b
told_sync t u i j time offset delta v b is same at row = ap (λ (x : ℕ × ℤ × ℕ × Bool). x.3) is ∙ ap₂ is_sync same at ∙ sym row

pub range_row : (kind : Kind) (file : ℕ) (base : ℤ) (r : RowRange) (j : ℕ) → IsRange r → j < r.to - r.from → (row : TimedRow) × (slice_get (range_rows kind file base r) j ≡ Some row) × (row.sync ≡ is_sync r.track.tables (r.from + j))
unfolding timed_row flat_row
range_row kind file base r j good h = (row_of kind file base r (r.from + j), row_at kind file base r j good h, refl)

-- the rows of a piece are those of its range
pub found_in : (kind : Kind) (file : ℕ) (p : PlannedPiece) (r : RowRange) (index place : ℕ) → range_of kind p ≡ Some r → IsSyncAt (range_rows kind file p.base r) index place → IsSyncAt (rows_at kind file p) index place
found_in kind file p r index place e is = subst (λ (o : Option RowRange). IsSyncAt (option_map_or (range_rows kind file p.base) o []) index place) (sym e) is

pub count_in : (kind : Kind) (file : ℕ) (p : PlannedPiece) (r : RowRange) (n : ℕ) → range_of kind p ≡ Some r → n ≡ length (sync_rows (range_rows kind file p.base r)) → n ≡ length (sync_rows (rows_at kind file p))
count_in kind file p r n e is = subst (λ (o : Option RowRange). n ≡ length (sync_rows (option_map_or (range_rows kind file p.base) o []))) (sym e) is

pub none_in : (kind : Kind) (file : ℕ) (p : PlanPiece) → IsPlanPiece p → rows_in kind (piece_view p) ≤ 0 → 0 ≡ length (sync_rows (rows_at kind file (piece_view p)))
none_in kind file p good none = omega (arith, none, syncs-few (rows_at kind file (piece_view p)), part_length kind file (piece_view p) (good_view kind p good))

pub syncs_within : (kind : Kind) (file : ℕ) (p : PlanPiece) → IsPlanPiece p → (n : ℕ) → n ≡ length (sync_rows (rows_at kind file (piece_view p))) → n ≤ rows_in kind (piece_view p)
syncs_within kind file p good n count = omega (arith, count, syncs-few (rows_at kind file (piece_view p)), part_length kind file (piece_view p) (good_view kind p good))

pub rows_counted : (kind : Kind) (p : PlannedPiece) (r : RowRange) → range_of kind p ≡ Some r → rows_in kind p ≡ r.to - r.from
rows_counted kind p r e = ap (λ (o : Option RowRange). option_map_or (λ (q : RowRange). q.to - q.from) o 0) e

-- ---- the rows from a piece on

module _ (kind : Kind) (ps : List PlanPiece) (i : ℕ) (p : PlanPiece) (lt : i < length ps) (is : p ≡ get_or ps i p) (good : IsPlanPiece p) where
  rest_is : rest kind i ps ≡ rows_at kind i (piece_view p) ++ rest kind (i + 1) ps
  rest_is = ap (planned_from kind i) (view_item ps i p lt is)

  count_is : length (rows_at kind i (piece_view p)) ≡ rows_in kind (piece_view p)
  count_is = part_length kind i (piece_view p) (good_view kind p good)

  pub rows_rest : length (rest kind i ps) ≡ rows_in kind (piece_view p) + length (rest kind (i + 1) ps)
  rows_rest = ap length rest_is ∙ omega (arith, length-append (rows_at kind i (piece_view p)) (rest kind (i + 1) ps), count_is)

  pub rest_here : (index place : ℕ) → IsSyncAt (rows_at kind i (piece_view p)) index place → IsSyncAt (rest kind i ps) index place
  rest_here index place found = subst (λ (rows : List TimedRow). IsSyncAt rows index place) (sym rest_is) (sync-here (rows_at kind i (piece_view p)) (rest kind (i + 1) ps) index place found)

  module _ (n : ℕ) (count : n ≡ length (sync_rows (rows_at kind i (piece_view p)))) where
    pub syncs_rest : length (sync_rows (rest kind i ps)) ≡ n + length (sync_rows (rest kind (i + 1) ps))
    syncs_rest =
        ap (λ (rows : List TimedRow). length (sync_rows rows)) rest_is
        ∙ ap length (syncs-join (rows_at kind i (piece_view p)) (rest kind (i + 1) ps))
        ∙ omega (arith, length-append (sync_rows (rows_at kind i (piece_view p))) (sync_rows (rest kind (i + 1) ps)), count)

    pub rest_later : (index place a b : ℕ) → n + index ≡ a → rows_in kind (piece_view p) + place ≡ b → IsSyncAt (rest kind (i + 1) ps) index place → IsSyncAt (rest kind i ps) a b
    rest_later index place a b e f found =
        let later = sync-later (rows_at kind i (piece_view p)) (rest kind (i + 1) ps) index place found in
        subst (λ (rows : List TimedRow). IsSyncAt rows a b) (sym rest_is)
        (subst (λ (x : ℕ). IsSyncAt (rows_at kind i (piece_view p) ++ rest kind (i + 1) ps) x b) (ap (λ (m : ℕ). m + index) (sym count) ∙ e)
        (subst (λ (y : ℕ). IsSyncAt (rows_at kind i (piece_view p) ++ rest kind (i + 1) ps) (length (sync_rows (rows_at kind i (piece_view p))) + index) y) (ap (λ (m : ℕ). m + place) count_is ∙ f) later))

pub sync_same : (rows : List TimedRow) (a b c d : ℕ) → a ≡ c → b ≡ d → IsSyncAt rows a b → IsSyncAt rows c d
sync_same rows a b c d e f is = subst (λ (x : ℕ). IsSyncAt rows x d) e (subst (λ (y : ℕ). IsSyncAt rows a y) f is)

-- ---- what a search gives

pub never_found : (P : ℕ → Type 0) (r : Result ℕ ℕ) (index : ℕ) → 2 ^ 44 ≤ index → IfOk r (λ place. index < 2 ^ 44) → IfOk r P
never_found P (Ok place) index past low = absurd (omega (arith, past, low))
never_found P (Err n) index past low = tt

no_element : (rows : List TimedRow) (i : ℕ) → length rows ≤ i → slice_get rows i ≡ None
no_element [] i le = refl
no_element (x ∷ xs) zero le = absurd (omega arith)
no_element (x ∷ xs) (suc i) le = no_element xs i (omega arith)

nth_none : (rows : List TimedRow) (n : ℕ) → length rows ≤ n - 1 → nth_from_one rows n ≡ None
nth_none rows zero le = refl
nth_none rows (suc i) le = no_element rows i (omega (arith, le))

pub none_found : (rows : List TimedRow) (r : Result ℕ ℕ) (n index : ℕ) → index ≡ n - 1 → IfErr r (λ count. (count ≤ index) × (count ≡ length rows))
    → IfErr r (λ count. (nth_from_one rows n ≡ None) × (count ≡ length rows))
none_found rows (Ok place) n index e h = tt
none_found rows (Err count) n index e h = (nth_none rows n (omega (arith, e, h.0, h.1)), h.1)
