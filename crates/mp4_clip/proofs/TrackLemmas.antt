-- The track of a range as its file's metadata show it.
use Rattle.std.proofs.Common.{◌≡◌, Some, None, Result, Ok, Err, sym, ap, ◌∙◌}
use Rattle.std.specs.Rc.{rc_value}
use Rattle.std.specs.Result.{result_ok}
use Rattle.vod_types.specs.declared.tracks.Kind.{Kind}
use Rattle.mp4_model.specs.declared.TrackFault.{TrackFault}
use Rattle.mp4_model.specs.GoodTracks.{GoodTrack, track_view}
use Rattle.vod_meta.specs.Held.{HeldMovie}
use Rattle.vod_meta.specs.Shown.{view_in_file}
use Rattle.vod_meta.proofs.ShownLemmas.{shown-good, shown-faulty}
use Rattle.vod_plan.specs.declared.spans.PlanPiece.{PlanPiece}
use Rattle.vod_plan.specs.declared.spans.RowSpan.{RowSpan}
use Rattle.vod_plan.specs.Ranges.{RowRange, range_of}
use Rattle.vod_plan.specs.Spans.{piece_view, span_of}
use Rattle.vod_plan.proofs.SpotLemmas.{track_of_range}

module _ (kind : Kind) (p : PlanPiece) (s : RowSpan) (r : RowRange) (h : HeldMovie) (span : span_of kind p ≡ Some s) (is : range_of kind (piece_view p) ≡ Some r) (same : h ≡ rc_value p.meta) where
  -- it is the one that is shown
  pub track-shown : (t : GoodTrack) → view_in_file h.movie s.track ≡ Ok t → t ≡ r.track
  track-shown t e =
      let shown = shown-good h.movie s.track t e in
      let at = ap (λ (m : HeldMovie). track_view m.movie.tracks s.track) same in
      let both : Ok t ≡ Ok r.track = sym shown ∙ at ∙ track_of_range kind p s r span is in
      cc both

  -- and one is shown
  pub track-there : (fault : TrackFault) → view_in_file h.movie s.track ≡ Err fault → ⊥
  track-there fault e =
      let shown = shown-faulty h.movie s.track fault e in
      let at = ap (λ (m : HeldMovie). result_ok (track_view m.movie.tracks s.track)) same in
      let both : None ≡ Some r.track = sym shown ∙ at ∙ ap (λ (v : Result GoodTrack TrackFault). result_ok v) (track_of_range kind p s r span is) in
      cc both
