-- Ranges of pieces, and where cursors stand in them.
use Rattle.std.proofs.Common.{◌≡◌, ℕ, ◌+◌, ◌-◌, ◌<◌, ◌≤◌, List, length, take, get_or, sum, ℤ, Bool, Option, Some, None, Result, Ok, Err, refl, sym, ap, subst, ◌∙◌, arith}
use Rattle.std.specs.Prelude.{option_map, option_and_then, map, slice_get, slice_index, unwrap_or, All, IsSome}
use Rattle.std.specs.Rc.{rc_value}
use Rattle.std.specs.Result.{result_ok}
use Rattle.std.proofs.lemmas.List.Sums.{sum_by_more, sum_by_more_le}
use Rattle.std.proofs.lemmas.Option.{slice_get-map, slice_get_read, slice_get_within, unwrap_or-slice_get}
use Rattle.std.proofs.lemmas.List.{length-map}
use Rattle.std.specs.Option.{option_map_or}
use Rattle.vod_types.specs.declared.tracks.Kind.{Kind}
use Rattle.vod_types.specs.declared.tracks.Kind.TheVariants.{Video, Audio}
use Rattle.mp4_model.specs.declared.TrackFault.{TrackFault}
use Rattle.mp4_model.specs.GoodTracks.{GoodTrack, track_view}
use Rattle.mp4_model.specs.Movie.{Movie}
use Rattle.mp4_model.specs.Samples.{FlatRow, composition_offset, decode_time, is_sync, sample_deltas, sample_offset, sample_sizes, flat_row}
use Rattle.mp4_model.specs.Tables.{SampleTables}
use Rattle.mp4_model.proofs.GoodTables.{good_tables, one_for_each}
use Rattle.mp4_model.proofs.OffsetLemmas.{offset_near}
use Rattle.segment_model.proofs.Timelines.{to_units_rises}
use Rattle.time_runs.specs.declared.cursor.TimeCursor.{TimeCursor}
use Rattle.time_runs.specs.Cursors.{StandsAt as times_stand_at}
use Rattle.chunk_runs.specs.declared.cursor.PlaceCursor.{PlaceCursor}
use Rattle.chunk_runs.specs.Cursors.{StandsAt as places_stand_at}
use Rattle.vod_plan.specs.declared.spans.PlanPiece.{PlanPiece}
use Rattle.vod_plan.specs.declared.spans.RowSpan.{RowSpan}
use Rattle.vod_plan.specs.Cuts.{IsTimely}
use Rattle.vod_plan.specs.Ranges.{PlannedPiece, RowRange, range_of}
use Rattle.vod_plan.specs.Spans.{piece_view, range_in, range_with, rows_before, rows_in, span_of, AreRangesIn, IsPlanPiece, IsRange}
use Rattle.vod_plan.specs.Walks.{IsIn}

-- ---- the range of a kind of a piece

pub one_value : {X : Type 0} (o : Option X) (x y : X) → o ≡ Some x → o ≡ Some y → x ≡ y
one_value o x y a b = let same : Some x ≡ Some y = sym a ∙ b in cc same

good_in : (m : Movie) (o : Option RowSpan) (r : RowRange) → AreRangesIn m o → option_and_then (range_in m) o ≡ Some r → IsRange r
good_in m None r is e = absurd cc
good_in m (Some s) r is e = subst IsRange (one_value (range_in m s) is.range r is.is e) is.good

pub good_range : (kind : Kind) (p : PlanPiece) (r : RowRange) → IsPlanPiece p → range_of kind (piece_view p) ≡ Some r → IsRange r
good_range Video p r is e = good_in (rc_value p.meta).movie p.video r is.video e
good_range Audio p r is e = good_in (rc_value p.meta).movie p.audio r is.audio e

pub spanned : (kind : Kind) (p : PlanPiece) (s : RowSpan) (r : RowRange) → span_of kind p ≡ Some s → range_of kind (piece_view p) ≡ Some r → range_in (rc_value p.meta).movie s ≡ Some r
spanned Video p s r a e = ap (option_and_then (range_in (rc_value p.meta).movie)) (sym a) ∙ e
spanned Audio p s r a e = ap (option_and_then (range_in (rc_value p.meta).movie)) (sym a) ∙ e

-- the track of its span
pub track_of_range : (kind : Kind) (p : PlanPiece) (s : RowSpan) (r : RowRange) → span_of kind p ≡ Some s → range_of kind (piece_view p) ≡ Some r → track_view (rc_value p.meta).movie.tracks s.track ≡ Ok r.track
track_of_range kind p s r a e = go (track_view (rc_value p.meta).movie.tracks s.track) (spanned kind p s r a e)
  where
    go : (v : Result GoodTrack TrackFault) → option_map (range_with s) (result_ok v) ≡ Some r → v ≡ Ok r.track
    go (Ok t) e = let same : range_with s t ≡ r = cc e in ap (λ (q : RowRange). Ok q.track) same
    go (Err fault) e = absurd cc

-- ---- cursors

pub times_row : (t : SampleTables) (i : ℕ) (c : TimeCursor) → times_stand_at t i c → c.row ≡ i
unfolding times_stand_at
times_row t i c stands = stands.0

pub places_row : (t : SampleTables) (i : ℕ) (c : PlaceCursor) → places_stand_at t i c → c.row ≡ i
unfolding places_stand_at
places_row t i c stands = stands.0

-- they stand at the row that the first of them names
pub stand_in : (r : RowRange) (i : ℕ) (times : TimeCursor) (places : PlaceCursor) → r.from ≤ i → i ≤ r.to → times_stand_at r.track.tables i times → places_stand_at r.track.tables i places → IsIn r times places
stand_in r i times places from to in_times in_places =
    let same : i ≡ times.row = sym (times_row r.track.tables i times in_times) in
    record {
      from = subst (λ (n : ℕ). r.from ≤ n) same from;
      to = subst (λ (n : ℕ). n ≤ r.to) same to;
      in_times = subst (λ (n : ℕ). times_stand_at r.track.tables n times) same in_times;
      in_places = subst (λ (n : ℕ). places_stand_at r.track.tables n places) same in_places;
    }

-- ---- samples

-- each is timely
pub timely : (r : RowRange) (i : ℕ) → IsRange r → i < r.to → IsTimely r.track.timescale (flat_row r.track.tables i)
unfolding flat_row
timely r i is h =
    let t : SampleTables = r.track.tables in
    let each = one_for_each t r.track.timescale (good_tables t r.track.timescale is.usable.none_broken) in
    let deltas : List ℕ = sample_deltas t in
    let within : i < length deltas = omega (arith, each.deltas, is.to) in
    let le = to_units_rises r.track.timescale (sum (take i deltas) + get_or deltas i 0) (sum deltas) (sum_by_more_le (λ x. x) deltas i 0 within) in
    record {
      short = omega (arith, le, is.usable.short);
      near = offset_near t r.track.timescale i is.usable.none_broken;
    }

-- a sample by what both cursors say of it
pub sample_is : (t : SampleTables) (i : ℕ) (v : ℕ × ℤ × ℕ × Bool) (p : ℕ × ℕ) (shown : ℤ) → v ≡ (decode_time t i, composition_offset t i, slice_index (sample_deltas t) i, is_sync t i) → p ≡ (sample_offset t i, slice_index (sample_sizes t) i)
    → shown ≡ v.1 → record { offset = p.0; size = p.1; decode_time = v.0; delta = v.2; composition_offset = shown; sync = v.3 } ≡ flat_row t i
unfolding flat_row
sample_is t i v p shown e f g =
    let with : ℕ × ℕ → ℕ × ℤ × ℕ × Bool → ℤ → FlatRow = λ q u z. record { offset = q.0; size = q.1; decode_time = u.0; delta = u.2; composition_offset = z; sync = u.3 } in
    let place : ℕ × ℕ = (sample_offset t i, slice_index (sample_sizes t) i) in
    let times : ℕ × ℤ × ℕ × Bool = (decode_time t i, composition_offset t i, slice_index (sample_deltas t) i, is_sync t i) in
    ap (λ q. with q v shown) f ∙ ap (λ u. with place u shown) e ∙ ap (with place times) (g ∙ ap (λ (u : ℕ × ℤ × ℕ × Bool). u.1) e)

-- ---- pieces of a list

pub view_at : (pieces : List PlanPiece) (i : ℕ) (p : PlanPiece) → slice_get pieces i ≡ Some p → slice_get (map piece_view pieces) i ≡ Some (piece_view p)
view_at pieces i p e = slice_get-map piece_view pieces i ∙ ap (option_map piece_view) e

pub piece_at : (pieces : List PlanPiece) (i : ℕ) (p : PlanPiece) → i < length pieces → p ≡ get_or pieces i p → slice_get pieces i ≡ Some p
piece_at pieces i p h e = slice_get_read pieces (length pieces) i p refl h e

-- the view of a piece that was found
pub view_found : (pieces : List PlanPiece) (i : ℕ) (p : PlanPiece) (found : PlannedPiece) → slice_get pieces i ≡ Some p → slice_get (map piece_view pieces) i ≡ Some found → piece_view p ≡ found
view_found pieces i p found e at = one_value (slice_get (map piece_view pieces) i) (piece_view p) found (view_at pieces i p e) at

pub within : (pieces : List PlanPiece) (i : ℕ) (found : PlannedPiece) → slice_get (map piece_view pieces) i ≡ Some found → i < length pieces
within pieces i found at = omega (arith, slice_get_within (map piece_view pieces) i found at, length-map pieces piece_view)

-- the rows before the next piece
pub rows_before-more : (kind : Kind) (pieces : List PlanPiece) (i : ℕ) (p : PlanPiece) → slice_get pieces i ≡ Some p
    → rows_before kind (map piece_view pieces) (i + 1) ≡ rows_before kind (map piece_view pieces) i + rows_in kind (piece_view p)
rows_before-more kind pieces i p e =
    let views : List PlannedPiece = map piece_view pieces in
    let v : PlannedPiece = piece_view p in
    let at = view_at pieces i p e in
    let got : get_or views i v ≡ v = sym (unwrap_or-slice_get views i v) ∙ ap (λ (o : Option PlannedPiece). unwrap_or o v) at in
    sum_by_more (rows_in kind) views i v (slice_get_within views i v at)
    ∙ ap (λ (q : PlannedPiece). rows_before kind views i + rows_in kind q) got

-- a piece of a plan
pub plan_piece : (pieces : List PlanPiece) (i : ℕ) (p : PlanPiece) → All IsPlanPiece pieces → slice_get pieces i ≡ Some p → IsPlanPiece p
plan_piece pieces i p all e =
    let got : get_or pieces i p ≡ p = sym (unwrap_or-slice_get pieces i p) ∙ ap (λ (o : Option PlanPiece). unwrap_or o p) e in
    subst IsPlanPiece got (all i p (slice_get_within pieces i p e))

-- a piece that has rows of a kind has a range
pub range_there : (kind : Kind) (p : PlannedPiece) → 0 < rows_in kind p → (r : RowRange) × (range_of kind p ≡ Some r) × (r.from < r.to)
range_there kind p some = go (range_of kind p) some
  where
    go : (o : Option RowRange) → 0 < option_map_or (λ (r : RowRange). r.to - r.from) o 0 → (r : RowRange) × (o ≡ Some r) × (r.from < r.to)
    go None some = absurd (omega arith)
    go (Some r) some = (r, refl, omega arith)

pub range_some : (kind : Kind) (p : PlannedPiece) → IsSome (range_of kind p) → (r : RowRange) × (range_of kind p ≡ Some r)
range_some kind p some = go (range_of kind p) some
  where
    go : (o : Option RowRange) → IsSome o → (r : RowRange) × (o ≡ Some r)
    go None some = absurd cc
    go (Some r) some = (r, refl)

-- a span is one of a track without a fault
pub none_faulty : (m : Movie) (o : Option RowSpan) (s : RowSpan) → AreRangesIn m o → o ≡ Some s → result_ok (track_view m.tracks s.track) ≡ None → ⊥
none_faulty m o s are e faulty =
    let is = subst (AreRangesIn m) e are in
    let none : option_map (range_with s) (result_ok (track_view m.tracks s.track)) ≡ None = ap (option_map (range_with s)) faulty in
    let due = is.is in
    absurd cc
