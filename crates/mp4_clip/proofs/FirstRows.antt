-- The range of a kind, and its first row.
use Rattle.std.proofs.Common.{◌≡◌, ℕ, ◌+◌, ◌<◌, Bool, true, false, List, [], ◌∷◌, length, map, ℤ, Option, Some, None, refl, sym, ap, ap₂, ◌∙◌, arith}
use Rattle.std.specs.Prelude.{is_some, nat_lt, slice_get, if◌then◌else◌}
use Rattle.std.specs.Int.{int_gap}
use Rattle.std.specs.Option.{option_map_or}
use Rattle.vod_types.specs.declared.segments.Form.TheVariants.{Fmp4}
use Rattle.vod_types.specs.declared.segments.Row.{Row}
use Rattle.vod_types.specs.declared.tracks.Kind.{Kind}
use Rattle.vod_types.specs.declared.tracks.Kind.TheVariants.{Video, Audio}
use Rattle.segment_model.specs.Rows.{TimedRow, written_row}
use Rattle.media_model.specs.Clip.{begins_after, lead_rows}
use Rattle.vod_plan.specs.declared.spans.PlanPiece.{PlanPiece}
use Rattle.vod_plan.specs.Needed.{piece_rows}
use Rattle.vod_plan.specs.Ranges.{RowRange, range_of, range_rows}
use Rattle.vod_plan.specs.Spans.{piece_view, rows_in, IsPlanPiece, IsRange}
use Rattle.vod_plan.proofs.RangeLemmas.{row_at, row_of}
use Rattle.vod_plan.proofs.SeekLemmas.{rows_count}
use Rattle.vod_plan.proofs.SpotLemmas.{good_range, range_there}
use Rattle.mp4_clip.specs.Kept.{kept_lead, kept_rows, lead_kind_of}
use Rattle.mp4_clip.proofs.KeptRows.{kept-length}

-- ---- a range

pub record HasRange (kind : Kind) (p : PlanPiece) : Type 0 where
  pub range : RowRange
  pub is : range_of kind (piece_view p) ≡ Some range
  pub good : IsRange range

some_is : {X : Type 0} (o : Option X) → is_some o ≡ true → (x : X) × (o ≡ Some x)
some_is None e = absurd cc
some_is (Some x) e = (x, refl)

pub has-range : (kind : Kind) (p : PlanPiece) → IsPlanPiece p → is_some (range_of kind (piece_view p)) ≡ true → HasRange kind p
has-range kind p good e =
    let found = some_is (range_of kind (piece_view p)) e in
    record { range = found.0; is = found.1; good = good_range kind p found.0 good found.1 }

pub has-no-range : (kind : Kind) (p : PlanPiece) → is_some (range_of kind (piece_view p)) ≡ false → range_of kind (piece_view p) ≡ None
has-no-range kind p e = go (range_of kind (piece_view p)) e
  where
    go : {X : Type 0} (o : Option X) → is_some o ≡ false → o ≡ None
    go None e = refl
    go (Some x) e = absurd cc

pub range-of-rows : (kind : Kind) (p : PlanPiece) → IsPlanPiece p → 0 < rows_in kind (piece_view p) → HasRange kind p
range-of-rows kind p good some =
    let found = range_there kind (piece_view p) some in
    record { range = found.0; is = found.1; good = good_range kind p found.0 good found.1 }

-- ---- the first row

pub record First (rows : List Row) (time : ℤ) : Type 0 where
  pub row : Row
  pub rest : List Row
  pub is : rows ≡ row ∷ rest
  pub at : row.sample.dts ≡ time

pub first-kept : (kind : Kind) (p : PlanPiece) (time : ℤ) → IsPlanPiece p → 0 < rows_in kind (piece_view p)
    → ((file : ℕ) (r : RowRange) (row : TimedRow) → range_of kind (piece_view p) ≡ Some r → slice_get (range_rows kind file p.base r) 0 ≡ Some row → time ≡ row.place)
    → First (kept_rows kind p) time
unfolding written_row
first-kept kind p time good some timed =
    let has : HasRange kind p = range-of-rows kind p good some in
    let r : RowRange = has.range in
    let count = rows_count kind (piece_view p) r has.is in
    let at = row_at kind 0 p.base r 0 has.good (omega (arith, count, some)) in
    let same : piece_rows kind 0 (piece_view p) ≡ range_rows kind 0 p.base r = ap (λ (o : Option RowRange). option_map_or (range_rows kind 0 p.base) o []) has.is in
    go (piece_rows kind 0 (piece_view p)) (row_of kind 0 p.base r (r.from + 0)) (ap (λ (rows : List TimedRow). slice_get rows 0) same ∙ at) (timed 0 r (row_of kind 0 p.base r (r.from + 0)) has.is at)
  where
    go : (rows : List TimedRow) (w : TimedRow) → slice_get rows 0 ≡ Some w → time ≡ w.place → First (map (written_row Fmp4) rows) time
    go [] w e t = absurd cc
    go (x ∷ xs) w e t =
        let same : x ≡ w = cc e in
        record { row = written_row Fmp4 x; rest = map (written_row Fmp4) xs; is = refl; at = ap (λ (y : TimedRow). y.place) same ∙ sym t }

-- the lead is that of its kind
pub lead-kept : (p : PlanPiece) → IsPlanPiece p → kept_lead p ≡ kept_rows (lead_kind_of p) p
lead-kept p good = go (kept_rows Video p) refl
  where
    pick : (b : Bool) (rows : List Row) → b ≡ nat_lt 0 (rows_in Video (piece_view p)) → rows ≡ kept_rows (if b then Video else Audio) p → rows ≡ kept_rows (lead_kind_of p) p
    pick b rows e is = is ∙ ap (λ (c : Bool). kept_rows (if c then Video else Audio) p) e

    go : (rows : List Row) → kept_rows Video p ≡ rows → lead_rows (kept_rows Video p) (kept_rows Audio p) ≡ kept_rows (lead_kind_of p) p
    go [] e =
        let none : 0 ≡ rows_in Video (piece_view p) = ap (λ (xs : List Row). length xs) (sym e) ∙ kept-length Video p good in
        ap (λ (xs : List Row). lead_rows xs (kept_rows Audio p)) e ∙ pick false (kept_rows Audio p) (ap (nat_lt 0) none) refl
    go (row ∷ rows) e =
        let some : rows_in Video (piece_view p) ≡ length (row ∷ rows) = sym (kept-length Video p good) ∙ ap (λ (xs : List Row). length xs) e in
        let test : true ≡ nat_lt 0 (rows_in Video (piece_view p)) = grind (arith, some) in
        ap (λ (xs : List Row). lead_rows xs (kept_rows Audio p)) e ∙ sym e ∙ pick true (kept_rows Video p) test refl

-- how long after the lead rows begin
pub begins-is : (p : PlanPiece) (kind : Kind) (lead first : ℤ) → IsPlanPiece p → First (kept_rows (lead_kind_of p) p) lead → First (kept_rows kind p) first → int_gap lead first ≡ begins_after (kept_lead p) (kept_rows kind p)
begins-is p kind lead first good a b =
    sym (ap₂ (λ (xs ys : List Row). begins_after xs ys) (lead-kept p good ∙ a.is) b.is ∙ ap₂ int_gap a.at b.at)

-- the lead has rows where a kind has
pub lead-some : (kind : Kind) (p : PlanPiece) → 0 < rows_in kind (piece_view p) → 0 < rows_in (lead_kind_of p) (piece_view p)
lead-some kind p some = go kind (nat_lt 0 (rows_in Video (piece_view p))) refl some
  where
    go : (k : Kind) (b : Bool) → nat_lt 0 (rows_in Video (piece_view p)) ≡ b → 0 < rows_in k (piece_view p) → 0 < rows_in (if b then Video else Audio) (piece_view p)
    go k true e some = grind (arith, e)
    go Audio false e some = some
    go Video false e some = absurd (grind (arith, e, some))
