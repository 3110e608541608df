-- Sync rows among the rows of several pieces, found from a row on.
use Rattle.std.proofs.Common.{◌≡◌, ℕ, ◌+◌, ◌-◌, ◌<◌, ◌≤◌, min, Bool, List, [], ◌++◌, length, map, drop, get_or, ℤ, Option, Some, sym, ap, ◌∙◌, arith, drop-drop}
use Rattle.std.specs.List.{position_or_len, range_with_len}
use Rattle.std.specs.Option.{option_map_or}
use Rattle.std.proofs.lemmas.List.{drop_all, drop-append-le, length-drop, take_all}
use Rattle.vod_types.specs.declared.tracks.Kind.{Kind}
use Rattle.mp4_model.specs.Samples.{first_sync_from, flat_row, is_sync, sample_count}
use Rattle.segment_model.specs.Rows.{TimedRow, timed_row}
use Rattle.segment_model.specs.Timeline.{placed}
use Rattle.segment_model.proofs.RowNumbers.{map_twice, number_row, position_of_map}
use Rattle.vod_plan.specs.declared.reach.Reach.{Reach}
use Rattle.vod_plan.specs.declared.spans.PlanPiece.{PlanPiece}
use Rattle.vod_plan.specs.ListingReach.{place_of, IsFront}
use Rattle.vod_plan.specs.Narrowed.{narrow_range, IsSound}
use Rattle.vod_plan.specs.Ranges.{RowRange, planned_of, range_of, range_rows}
use Rattle.vod_plan.specs.Spans.{piece_view, rows_in, IsRange}
use Rattle.vod_plan.proofs.JoinLemmas.{position-within, position-past}
use Rattle.vod_plan.proofs.NarrowLemmas.{narrow_rows}
use Rattle.vod_plan.proofs.PlaceLemmas.{rest, rest_end}
use Rattle.vod_plan.proofs.RangeLemmas.{numbers, part, part_length, planned_from, rows_are, rows_length, source}
use Rattle.vod_plan.proofs.SeekLemmas.{position_in_front}
use Rattle.vod_plan.proofs.SoundLemmas.{good_part, view_item}

abbrev pub in_sync : TimedRow → Bool
in_sync r = r.sync

abbrev pub first_sync : List TimedRow → ℕ
first_sync rows = position_or_len in_sync rows

-- ---- in one range

module _ (kind : Kind) (file : ℕ) (base : ℤ) (r : RowRange) (good : IsRange r) where
  range_sync : first_sync (range_rows kind file base r) ≡ min (first_sync_from r.track.tables r.from) r.to - r.from
  unfolding numbers first_sync_from timed_row flat_row
  range_sync =
      let t = r.track.tables in
      let rows : List ℕ = range_with_len r.from (sample_count t - r.from) in
      ap first_sync (rows_are kind file base r good ∙ map_twice (placed file base) (number_row (source kind r) t) (numbers kind r))
      ∙ position_of_map in_sync (λ (i : ℕ). placed file base (number_row (source kind r) t i)) (numbers kind r)
      ∙ position_in_front (is_sync t) (r.to - r.from) rows
      ∙ omega (arith, good.from)

-- from an index on
pub sync_behind : (kind : Kind) (file : ℕ) (base : ℤ) (r : RowRange) (i : ℕ) → IsRange r → i ≤ r.to - r.from
    → i + first_sync (drop i (range_rows kind file base r)) ≡ min (first_sync_from r.track.tables (r.from + i)) r.to - r.from
unfolding first_sync_from
sync_behind kind file base r i good within =
    let n = r.to - r.from in
    let q : RowRange = narrow_range i n r in
    let narrow : IsRange q = record { usable = good.usable; from = omega arith; to = omega (arith, good.from, good.to, within); delay = good.delay; skip = good.skip } in
    let rows = range_rows kind file base r in
    let many : length (drop i rows) ≤ n - i = omega (arith, length-drop i rows, rows_length kind file base r good) in
    let same : range_rows kind file base q ≡ drop i rows = narrow_rows kind file base r i n (omega arith) ∙ take_all (n - i) (drop i rows) many in
    let found = range_sync kind file base q narrow in
    let e : first_sync (drop i rows) ≡ first_sync (range_rows kind file base q) = ap first_sync (sym same) in
    omega (arith, e, found, good.from, within)

-- ---- in a piece

pub piece_sync : (kind : Kind) (file : ℕ) (p : PlanPiece) (r : RowRange) (i n : ℕ) → range_of kind (piece_view p) ≡ Some r → IsRange r → i ≤ r.to - r.from → n ≡ min (first_sync_from r.track.tables (r.from + i)) r.to - r.from
    → n ≡ i + first_sync (drop i (part kind file (piece_view p)))
piece_sync kind file p r i n e good within is =
    is ∙ sym (sync_behind kind file p.base r i good within) ∙ ap (λ (o : Option RowRange). i + first_sync (drop i (option_map_or (range_rows kind file p.base) o []))) (sym e)

pub piece_ended : (kind : Kind) (file : ℕ) (p : PlanPiece) (i : ℕ) → IsSound p → rows_in kind (piece_view p) ≤ i → i ≡ i + first_sync (drop i (part kind file (piece_view p)))
piece_ended kind file p i sound past =
    let none = ap first_sync (drop_all i (part kind file (piece_view p)) (omega (arith, past, part_length kind file (piece_view p) (good_part kind p sound)))) in
    omega (arith, none)

-- ---- from piece to piece

module _ (kind : Kind) (ps : List PlanPiece) (i : ℕ) (p : PlanPiece) (lt : i < length ps) (is : p ≡ get_or ps i p) (sound : IsSound p) (index at : ℕ) (within : index ≤ rows_in kind (piece_view p))
    (found : at ≡ index + first_sync (drop index (part kind i (piece_view p)))) where
  own : List TimedRow
  own = part kind i (piece_view p)

  split : drop index (rest kind i ps) ≡ drop index (part kind i (piece_view p)) ++ rest kind (i + 1) ps
  split =
      ap (λ (rows : List TimedRow). drop index rows) (ap (planned_from kind i) (view_item ps i p lt is))
      ∙ drop-append-le index (part kind i (piece_view p)) (rest kind (i + 1) ps) (omega (arith, within, part_length kind i (piece_view p) (good_part kind p sound)))

  left_rows : length (drop index (part kind i (piece_view p))) ≡ rows_in kind (piece_view p) - index
  left_rows = length-drop index (part kind i (piece_view p)) ∙ ap (λ (n : ℕ). n - index) (part_length kind i (piece_view p) (good_part kind p sound))

  pub sync_here : at < rows_in kind (piece_view p) → index + first_sync (drop index (rest kind i ps)) ≡ at
  sync_here some =
      let e = ap first_sync split ∙ position-within in_sync (drop index (part kind i (piece_view p))) (rest kind (i + 1) ps) (omega (arith, found, left_rows, some, within)) in
      omega (arith, e, found)

  pub sync_later : rows_in kind (piece_view p) ≤ at → index + first_sync (drop index (rest kind i ps)) ≡ rows_in kind (piece_view p) + first_sync (drop 0 (rest kind (i + 1) ps))
  sync_later past =
      let e = ap first_sync split ∙ position-past in_sync (drop index (part kind i (piece_view p))) (rest kind (i + 1) ps) (omega (arith, found, left_rows, past, within)) in
      omega (arith, e, left_rows, within)

-- the rows before the given one are passed already
pub sync_begin : (kind : Kind) (ps : List PlanPiece) (r : Reach) → IsFront kind ps r
    → r.before + (r.index + first_sync (drop r.index (rest kind r.piece ps))) ≡ place_of r + first_sync (drop (place_of r) (planned_of kind (map piece_view ps)))
sync_begin kind ps r front =
    let all = planned_of kind (map piece_view ps) in
    let swapped : r.index + r.before ≡ place_of r = omega arith in
    let e : first_sync (drop r.index (rest kind r.piece ps)) ≡ first_sync (drop (place_of r) all) =
    ap (λ (rows : List TimedRow). first_sync (drop r.index rows)) front.before
    ∙ ap first_sync (drop-drop r.index r.before all) ∙ ap (λ (n : ℕ). first_sync (drop n all)) (let e : r.before + r.index ≡ place_of r = omega arith in e) in
    omega (arith, e)

pub sync_ended : (kind : Kind) (ps : List PlanPiece) (i index : ℕ) → length ps ≤ i → first_sync (drop index (rest kind i ps)) ≡ 0
sync_ended kind ps i index past = ap (λ (rows : List TimedRow). first_sync (drop index rows)) (rest_end kind ps i past) ∙ ap first_sync (drop_all index (let none : List TimedRow = [] in none) (omega arith))
