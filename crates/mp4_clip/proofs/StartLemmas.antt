-- Where the first row of a clip stands, by the rows that are kept.
use Rattle.std.proofs.Common.{◌≡◌, ℕ, ◌+◌, ◌*◌, ◌<◌, List, [], ◌∷◌, length, map, Option, Some, None, refl, sym, ap, ap₂, ◌∙◌, arith}
use Rattle.std.specs.Prelude.{option_map}
use Rattle.std.specs.Option.{option_map_or}
use Rattle.vod_types.specs.declared.segments.Form.TheVariants.{Fmp4}
use Rattle.vod_types.specs.declared.segments.Row.{Row}
use Rattle.segment_model.specs.Rows.{written_row}
use Rattle.vod_types.specs.declared.tracks.Kind.{Kind}
use Rattle.vod_types.specs.declared.tracks.Kind.TheVariants.{Video, Audio}
use Rattle.media_model.specs.Clip.{ClipTrack, begins_after, edits_size, if_rows, lead_rows, media_start, movie_size, track_rest_size, track_size}
use Rattle.origin_model.specs.Clips.{clip_track}
use Rattle.vod_plan.specs.declared.spans.PlanPiece.{PlanPiece}
use Rattle.vod_plan.specs.Ranges.{RowRange, range_of, range_rows}
use Rattle.vod_plan.specs.Spans.{piece_view, rows_in, IsPlanPiece}
use Rattle.mp4_clip.specs.Kept.{kept_lead, kept_rows, track_with_rows}
use Rattle.mp4_clip.proofs.KeptRows.{kept-length}

pub track-rows : (kind : Kind) (p : PlanPiece) → (track_with_rows kind p).rows ≡ kept_rows kind p
track-rows kind p = go (range_of kind (piece_view p))
  where
    go : (o : Option RowRange) → (clip_track (option_map (λ r. r.track) o) (map (written_row Fmp4) (option_map_or (range_rows kind 0 p.base) o []))).rows ≡ map (written_row Fmp4) (option_map_or (range_rows kind 0 p.base) o [])
    go None = refl
    go (Some r) = refl

if-none : (rows : List Row) (n : ℕ) → length rows ≡ 0 → 0 ≡ if_rows rows 0 n
if-none [] n e = refl
if-none (row ∷ rows) n e = absurd (omega (arith, e))

if-some : (rows : List Row) (n : ℕ) → 0 < length rows → n ≡ if_rows rows 0 n
if-some [] n h = absurd (omega (arith, h))
if-some (row ∷ rows) n h = refl

module _ (kind : Kind) (p : PlanPiece) (good : IsPlanPiece p) where
  pub given-none : (n : ℕ) → rows_in kind (piece_view p) ≡ 0 → 0 ≡ if_rows (kept_rows kind p) 0 n
  given-none n e = if-none (kept_rows kind p) n (kept-length kind p good ∙ e)

  pub given-some : (rest edits entry count : ℕ) → 0 < rows_in kind (piece_view p) → rest ≡ track_rest_size kind (kept_rows kind p) → edits ≡ edits_size (begins_after (kept_lead p) (kept_rows kind p))
      → entry ≡ length (track_with_rows kind p).entry → count ≡ rows_in kind (piece_view p)
      → rest + edits + entry + 28 * count ≡ if_rows (kept_rows kind p) 0 (track_size kind (kept_lead p) (track_with_rows kind p))
  unfolding track_size
  given-some rest edits entry count some r d e n =
      let t : ClipTrack = track_with_rows kind p in
      let rows : t.rows ≡ kept_rows kind p = track-rows kind p in
      let many = kept-length kind p good in
      let all : rest + edits + entry + 28 * count ≡ track_size kind (kept_lead p) t =
      omega (
        arith,
        r,
        d,
        e,
        n,
        many,
        ap (λ (xs : List Row). track_rest_size kind xs) rows,
        ap (λ (xs : List Row). edits_size (begins_after (kept_lead p) xs)) rows,
        ap (λ (xs : List Row). length xs) rows,
      ) in
      all ∙ if-some (kept_rows kind p) (track_size kind (kept_lead p) t) (omega (arith, many, some))

-- behind both tracks
pub start-is : (p : PlanPiece) (video audio : ℕ) → video ≡ if_rows (kept_rows Video p) 0 (track_size Video (kept_lead p) (track_with_rows Video p))
    → audio ≡ if_rows (kept_rows Audio p) 0 (track_size Audio (kept_lead p) (track_with_rows Audio p)) → 152 + video + audio + 16 ≡ media_start (track_with_rows Video p) (track_with_rows Audio p)
unfolding movie_size
start-is p video audio v a =
    let tv : ClipTrack = track_with_rows Video p in
    let ta : ClipTrack = track_with_rows Audio p in
    let vrows : kept_rows Video p ≡ tv.rows = sym (track-rows Video p) in
    let arows : kept_rows Audio p ≡ ta.rows = sym (track-rows Audio p) in
    let lead : kept_lead p ≡ lead_rows tv.rows ta.rows = ap₂ lead_rows vrows arows in
    let one : video ≡ if_rows tv.rows 0 (track_size Video (lead_rows tv.rows ta.rows) tv) = v ∙ ap₂ (λ (xs ys : List Row). if_rows xs 0 (track_size Video ys tv)) vrows lead in
    let two : audio ≡ if_rows ta.rows 0 (track_size Audio (lead_rows tv.rows ta.rows) ta) = a ∙ ap₂ (λ (xs ys : List Row). if_rows xs 0 (track_size Audio ys ta)) arows lead in
    omega (arith, one, two)
