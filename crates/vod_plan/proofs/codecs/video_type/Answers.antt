-- The type of the entry of the track that the span is of.
use Rattle.std.proofs.Common.{[], Option, Result, sym, ap, ◌∙◌}
use Rattle.std.specs.Prelude.{option_and_then, option_map}
use Rattle.std.specs.Option.{option_map_or}
use Rattle.std.specs.Rc.{rc_value}
use Rattle.std.specs.Result.{result_ok}
use Rattle.mp4_model.specs.declared.TrackFault.{TrackFault}
use Rattle.mp4_model.specs.Entries.{entry_type}
use Rattle.mp4_model.specs.GoodTracks.{GoodTrack, track_view}
use Rattle.mp4_tracks.specs.Views.{good_of}
use Rattle.vod_meta.specs.Held.{HeldMovie}
use Rattle.vod_meta.proofs.ShownLemmas.{shown-good, shown-faulty}
use Rattle.vod_plan.specs.declared.spans.RowSpan.{RowSpan}
use Rattle.vod_plan.specs.Ranges.{RowRange}
use Rattle.vod_plan.specs.Spans.{range_in, range_with}
use Rattle.vod_plan.proofs.SpotLemmas.{none_faulty}
use Rattle.vod_plan.proofs.codecs.video_type.Goals as goal

pub returns-in-Ok-clause-value : goal.returns-in-Ok-clause-value
returns-in-Ok-clause-value c =
    let movie = (rc_value c.args.piece.now.meta).movie in
    let s : RowSpan = c.in-Some.span in
    let shown = ap (λ (m : HeldMovie). track_view m.movie.tracks s.track) (sym c.deref.ensures) ∙ shown-good c.deref.result.now.movie s.track (good_of c.in-Ok.view) c.in-Ok.ensures.view.0 in
    let range = ap (option_and_then (range_in movie)) c.in-Some.is ∙ ap (λ (r : Result GoodTrack TrackFault). option_map (range_with s) (result_ok r)) shown in
    c.in-Ok.ensures.view.2 ∙ ap (λ (o : Option RowRange). option_map_or (λ (r : RowRange). entry_type r.track.entry) o []) (sym range)

pub returns-in-Err-clause-value : goal.returns-in-Err-clause-value
returns-in-Err-clause-value c =
    let movie = (rc_value c.args.piece.now.meta).movie in
    let s : RowSpan = c.in-Some.span in
    let shown = ap (λ (m : HeldMovie). result_ok (track_view m.movie.tracks s.track)) (sym c.deref.ensures) ∙ shown-faulty c.deref.result.now.movie s.track c.in-Err.field-0 c.in-Err.ensures.view in
    absurd (none_faulty movie c.args.piece.now.video s c.requires.good.video c.in-Some.is shown)

pub returns-in-Err-clause-there : goal.returns-in-Err-clause-there
returns-in-Err-clause-there c =
    let movie = (rc_value c.args.piece.now.meta).movie in
    let s : RowSpan = c.in-Some.span in
    let shown = ap (λ (m : HeldMovie). result_ok (track_view m.movie.tracks s.track)) (sym c.deref.ensures) ∙ shown-faulty c.deref.result.now.movie s.track c.in-Err.field-0 c.in-Err.ensures.view in
    absurd (none_faulty movie c.args.piece.now.video s c.requires.good.video c.in-Some.is shown)
