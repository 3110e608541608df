-- Samples as they are placed one after another.
use Rattle.std.proofs.Common.{◌≡◌, ℕ, ◌+◌, ◌<◌, suc, List, [], ◌∷◌, ◌++◌, length, get_or, take, drop, map, sym, ap, ◌∙◌, append_assoc, arith}
use Rattle.std.specs.List.{prefix_len}
use Rattle.std.proofs.lemmas.List.{take-append-drop}
use Rattle.std.proofs.lemmas.List.Sums.{sum_by-append}
use Rattle.std.proofs.Math.Seq.{drop-cons}
use Rattle.vod_types.specs.declared.segments.Row.{Row}
use Rattle.vod_types.specs.declared.tracks.Kind.{Kind}
use Rattle.vod_types.specs.declared.tracks.Kind.TheVariants.{Video, Audio}
use Rattle.media_model.specs.Fragment.{sizes}
use Rattle.media_model.proofs.Sizes.{sizes-cons}
use Rattle.media_model.specs.WritingOrder.{TrackRow, of_track, is_before, writing_order}
use Rattle.media_model.specs.Clip.{PlacedRow, placed_from}

pub rows_left : (rows : List Row) (i : ℕ) (row : Row) → i < length rows → row ≡ get_or rows i row → drop i rows ≡ row ∷ drop (i + 1) rows
rows_left rows i row within is =
    drop-cons rows i row within
    ∙ ap (λ (r : Row). r ∷ drop (suc i) rows) (sym is)
    ∙ ap (λ (n : ℕ). row ∷ drop n rows) (let more : suc i ≡ i + 1 = omega arith in more)

placed-kind : (place : ℕ) (kind : Kind) (xs : List Row) (ys : List TrackRow) → placed_from place (map (of_track kind) xs ++ ys) ≡ placed_from place (map (of_track kind) xs) ++ placed_from (place + sizes xs) ys
placed-kind place kind [] ys = ap (λ (n : ℕ). placed_from n ys) (let same : place ≡ place + 0 = omega arith in same)
placed-kind place kind (x ∷ xs) ys =
    let next : ℕ = place + x.sample.size in
    let far : next + sizes xs ≡ place + sizes (x ∷ xs) = omega (arith, sizes-cons x xs) in
    ap (λ (rest : List PlacedRow). record { place = place; row = of_track kind x } ∷ rest)
    (placed-kind next kind xs ys ∙ ap (λ (n : ℕ). placed_from next (map (of_track kind) xs) ++ placed_from n ys) far)

-- the audio samples before a video sample and that sample are placed, and the rest is left
pub placed-step : (video left : List Row) (i : ℕ) (row : Row) (before after : List Row) (count place place_audio place_video : ℕ) (done done_audio done_video all : List PlacedRow)
    → drop i video ≡ row ∷ drop (i + 1) video → count ≡ prefix_len (is_before row) left → before ≡ take count left → after ≡ drop count left
    → done ++ placed_from place (writing_order (drop i video) left) ≡ all
    → done_audio ≡ done ++ placed_from place (map (of_track Audio) before) → place_audio ≡ place + sizes before
    → done_video ≡ done_audio ++ placed_from place_audio (of_track Video row ∷ []) → place_video ≡ place_audio + row.sample.size
    → done_video ++ placed_from place_video (writing_order (drop (i + 1) video) after) ≡ all
placed-step video left i row before after count place place_audio place_video done done_audio done_video all within counted front back was audio audio_place is is_place =
    let rest : List TrackRow = writing_order (drop (i + 1) video) after in
    let head : PlacedRow = record { place = place_audio; row = of_track Video row } in
    let order : writing_order (drop i video) left ≡ map (of_track Audio) before ++ of_track Video row ∷ rest =
    ap (λ (rows : List Row). writing_order rows left) within
    ∙ ap (λ (n : ℕ). map (of_track Audio) (take n left) ++ of_track Video row ∷ writing_order (drop (i + 1) video) (drop n left)) (sym counted)
    ∙ ap (λ (rows : List Row). map (of_track Audio) rows ++ of_track Video row ∷ writing_order (drop (i + 1) video) (drop count left)) (sym front)
    ∙ ap (λ (rows : List Row). map (of_track Audio) before ++ of_track Video row ∷ writing_order (drop (i + 1) video) rows) (sym back) in
    ap (λ (l : List PlacedRow). l ++ placed_from place_video rest) is
    ∙ append_assoc done_audio (head ∷ []) (placed_from place_video rest)
    ∙ ap (λ (n : ℕ). done_audio ++ head ∷ placed_from n rest) is_place
    ∙ ap (λ (l : List PlacedRow). l ++ placed_from place_audio (of_track Video row ∷ rest)) audio
    ∙ append_assoc done (placed_from place (map (of_track Audio) before)) (placed_from place_audio (of_track Video row ∷ rest))
    ∙ ap (λ (n : ℕ). done ++ (placed_from place (map (of_track Audio) before) ++ placed_from n (of_track Video row ∷ rest))) audio_place
    ∙ ap (λ (l : List PlacedRow). done ++ l) (sym (placed-kind place Audio before (of_track Video row ∷ rest)))
    ∙ ap (λ (rows : List TrackRow). done ++ placed_from place rows) (sym order)
    ∙ was

-- and so is how many bytes are left
pub sizes-step : (video left : List Row) (i : ℕ) (row : Row) (before after : List Row) (count place place_audio place_video all : ℕ)
    → drop i video ≡ row ∷ drop (i + 1) video → before ≡ take count left → after ≡ drop count left
    → place + sizes (drop i video) + sizes left ≡ all → place_audio ≡ place + sizes before → place_video ≡ place_audio + row.sample.size
    → place_video + sizes (drop (i + 1) video) + sizes after ≡ all
sizes-step video left i row before after count place place_audio place_video all within front back was audio is =
    let first : sizes (drop i video) ≡ row.sample.size + sizes (drop (i + 1) video) = ap sizes within ∙ sizes-cons row (drop (i + 1) video) in
    let both : sizes left ≡ sizes before + sizes after =
    ap sizes (sym (take-append-drop count left)) ∙ sum_by-append (λ (row : Row). row.sample.size) (take count left) (drop count left)
    ∙ ap (λ (rows : List Row). sizes rows + sizes (drop count left)) (sym front) ∙ ap (λ (rows : List Row). sizes before + sizes rows) (sym back) in
    omega (arith, first, both, was, audio, is)
