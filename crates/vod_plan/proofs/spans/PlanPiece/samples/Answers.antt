-- The number of rows of the track that the range is of.
use Rattle.std.proofs.Common.{◌≡◌, sym, ap, ◌∙◌}
use Rattle.std.specs.Result.{result_ok}
use Rattle.mp4_model.specs.GoodTracks.{GoodTrack, track_view}
use Rattle.mp4_model.specs.Samples.{sample_count}
use Rattle.mp4_tracks.specs.Views.{good_of}
use Rattle.vod_meta.proofs.ShownLemmas.{shown-good, shown-faulty}
use Rattle.vod_plan.proofs.SpotLemmas.{track_of_range}
use Rattle.vod_plan.proofs.spans.PlanPiece.samples.Goals as goal

pub returns-in-Ok : goal.returns-in-Ok
returns-in-Ok c = λ r e.
    let due = track_of_range c.args.kind c.args.self.now c.range.result r c.range.ensures.span e in
    let shown = shown-good c.deref.result.now.movie c.range.result.track (good_of c.in-Ok.view) c.in-Ok.ensures.view.0 in
    let at = ap (λ m. track_view m.movie.tracks c.range.result.track) c.deref.ensures in
    let same = sym shown ∙ at ∙ due in
    let is : good_of c.in-Ok.view ≡ r.track = cc same in
    c.in-Ok.ensures.view.1 ∙ ap (λ (t : GoodTrack). sample_count t.tables) is

pub returns-in-Err : goal.returns-in-Err
returns-in-Err c = λ r e.
    let due = track_of_range c.args.kind c.args.self.now c.range.result r c.range.ensures.span e in
    let shown = shown-faulty c.deref.result.now.movie c.range.result.track c.in-Err.field-0 c.in-Err.ensures.view in
    let at = ap (λ m. result_ok (track_view m.movie.tracks c.range.result.track)) c.deref.ensures in
    let same = sym shown ∙ at ∙ ap (λ v. result_ok v) due in
    absurd cc
