-- The configuration of the track that the range is of.
use Rattle.std.proofs.Common.{[], Option, Result, sym, ap, ◌∙◌}
use Rattle.std.specs.Prelude.{option_and_then, option_map}
use Rattle.std.specs.Option.{option_map_or}
use Rattle.std.specs.Rc.{rc_value}
use Rattle.std.specs.Result.{result_ok}
use Rattle.mp4_model.specs.declared.TrackFault.{TrackFault}
use Rattle.mp4_model.specs.GoodTracks.{GoodTrack, track_view}
use Rattle.mp4_tracks.specs.Views.{good_of}
use Rattle.vod_meta.specs.Held.{HeldMovie}
use Rattle.vod_meta.proofs.ShownLemmas.{shown-good, shown-faulty}
use Rattle.vod_plan.specs.declared.spans.RowSpan.{RowSpan}
use Rattle.vod_plan.specs.Ranges.{RowRange}
use Rattle.vod_plan.specs.Spans.{range_in, range_with}
use Rattle.vod_plan.proofs.PlanLemmas.{range_by}
use Rattle.vod_plan.proofs.spans.PlanPiece.config.Goals as goal

pub returns-in-Ok : goal.returns-in-Ok
returns-in-Ok c =
    let movie = (rc_value c.args.self.now.meta).movie in
    let s : RowSpan = c.in-Some.span in
    let shown = ap (λ (m : HeldMovie). track_view m.movie.tracks s.track) (sym c.deref.ensures) ∙ shown-good c.deref.result.now.movie s.track (good_of c.in-Ok.view) c.in-Ok.ensures.view.0 in
    let range = range_by c.args.kind c.args.self.now ∙ ap (option_and_then (range_in movie)) (sym c.in-Some.ensures) ∙ ap (λ (r : Result GoodTrack TrackFault). option_map (range_with s) (result_ok r)) shown in
    ap (λ (o : Option RowRange). option_map_or (λ (r : RowRange). r.track.config) o []) (sym range)

pub returns-in-Err : goal.returns-in-Err
returns-in-Err c =
    let movie = (rc_value c.args.self.now.meta).movie in
    let s : RowSpan = c.in-Some.span in
    let shown = ap (λ (m : HeldMovie). result_ok (track_view m.movie.tracks s.track)) (sym c.deref.ensures) ∙ shown-faulty c.deref.result.now.movie s.track c.in-Err.field-0 c.in-Err.ensures.view in
    let range = range_by c.args.kind c.args.self.now ∙ ap (option_and_then (range_in movie)) (sym c.in-Some.ensures) ∙ ap (λ (o : Option GoodTrack). option_map (range_with s) o) shown in
    ap (λ (o : Option RowRange). option_map_or (λ (r : RowRange). r.track.config) o []) (sym range)
