use Rattle.std.proofs.Common.{◌≡◌, ℕ, ◌+◌, refl, sym, ap, ◌∙◌, subst}
use Rattle.std.proofs.lemmas.Result.{err_from_is_err_and}
use Rattle.vod_source.specs.Told.{GrewByPrefix, Grows}
use Rattle.vod_source.proofs.ToldLemmas.{GrewByPrefix-after, GrewByPrefix-more}
use Rattle.vod_types.specs.SegmentRows.{SegmentRows}
use Rattle.media_model.specs.Fragment.{sizes}
use Rattle.fmp4_writer.proofs.FrontLemmas.{fragment_front-pieces, movie_size-is}
use Rattle.fmp4_writer.proofs.GrowthLemmas.{Grows-after}
use Rattle.fmp4_writer.proofs.front.put_front.Goals as goal

-- sums of equal numbers
cong_sum : (a b x y : ℕ) → a ≡ x → b ≡ y → a + b ≡ x + y
cong_sum a b x y e f = cc

pub returns-in_err-put-clause-written : goal.returns-in_err-put-clause-written
returns-in_err-put-clause-written g c =
    let same = c.sizes-audio_bytes.ensures.rows ∙ c.sizes-video_bytes.ensures.rows in
    let size = movie_size-is _ _ _ c.movie_size-size.ensures.size same in
    let head = c.as_slice.ensures.value ∙ c.segment_head.ensures in
    let pieces = fragment_front-pieces _ _ _ _ _ (g.R.Rows.rows c.args.rows.now) _ _ _ _ head size refl refl refl refl refl refl in
    let p = err_from_is_err_and c.from_residual.result c.from_residual.ensures.1 in
    rw p.1 (subst (GrewByPrefix _ _) (sym pieces) (GrewByPrefix-more _ c.in_err-put.ensures.written))

pub returns-in_err-put_track-clause-written : goal.returns-in_err-put_track-clause-written
returns-in_err-put_track-clause-written g c =
    let same = c.sizes-audio_bytes.ensures.rows ∙ c.sizes-video_bytes.ensures.rows in
    let size = movie_size-is _ _ _ c.movie_size-size.ensures.size same in
    let head = c.as_slice.ensures.value ∙ c.segment_head.ensures in
    let pieces = fragment_front-pieces _ _ _ _ _ (g.R.Rows.rows c.args.rows.now) _ _ _ _ head size refl refl refl refl same refl in
    let p = err_from_is_err_and c.from_residual-in_err-put_track.result c.from_residual-in_err-put_track.ensures.1 in
    rw p.1 (subst (GrewByPrefix _ _) (sym pieces) (GrewByPrefix-after _ c.in_ok-put.ensures.written (GrewByPrefix-more _ c.in_err-put_track.ensures.written)))

pub returns-in_err-put_track-2-clause-written : goal.returns-in_err-put_track-2-clause-written
returns-in_err-put_track-2-clause-written g c =
    let same = c.sizes-audio_bytes.ensures.rows ∙ c.sizes-video_bytes.ensures.rows in
    let size = movie_size-is _ _ _ c.movie_size-size.ensures.size same in
    let head = c.as_slice.ensures.value ∙ c.segment_head.ensures in
    let pieces = fragment_front-pieces _ _ _ _ _ (g.R.Rows.rows c.args.rows.now) _ _ _ _ head size refl (ap (λ (n : ℕ). c.movie_size-size.result + 8 + n) c.sizes-video_bytes.ensures.sizes) refl refl same (c.in_ok-put_track.ensures.rows ∙ same) in
    let p = err_from_is_err_and c.from_residual-in_err-put_track-2.result c.from_residual-in_err-put_track-2.ensures.1 in
    rw p.1 (subst (GrewByPrefix _ _) (sym pieces) (GrewByPrefix-after _ c.in_ok-put.ensures.written (GrewByPrefix-after _ c.in_ok-put_track.ensures.written (GrewByPrefix-more _ c.in_err-put_track-2.ensures.written))))

pub returns-clause-written : goal.returns-clause-written
returns-clause-written g c =
    let same = c.sizes-audio_bytes.ensures.rows ∙ c.sizes-video_bytes.ensures.rows in
    let size = movie_size-is _ _ _ c.movie_size-size.ensures.size same in
    let head = c.as_slice.ensures.value ∙ c.segment_head.ensures in
    let audio = c.sizes-audio_bytes.ensures.sizes ∙ ap (λ (r : SegmentRows). sizes r.audio) c.sizes-video_bytes.ensures.rows in
    let pieces = fragment_front-pieces _ _ _ _ _ (g.R.Rows.rows c.args.rows.now) _ _ _ _ head size refl (ap (λ (n : ℕ). c.movie_size-size.result + 8 + n) c.sizes-video_bytes.ensures.sizes) (cong_sum _ _ _ _ c.sizes-video_bytes.ensures.sizes audio) (c.as_slice-2.ensures.value ∙ c.media_data_head.ensures) same (c.in_ok-put_track.ensures.rows ∙ same) in
    subst (Grows _ _ c.put-2.result) (sym pieces) (Grows-after _ _ _ _ _ _ c.in_ok-put.ensures.written (Grows-after _ _ _ _ _ _ c.in_ok-put_track.ensures.written (Grows-after _ _ _ _ _ _ c.in_ok-put_track-2.ensures.written c.put-2.ensures.written)))
