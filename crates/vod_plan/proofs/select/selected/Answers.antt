-- The ranges that were found are the selected rows.
use Rattle.std.proofs.Common.{ap, ap₂, ◌∙◌}
use Rattle.std.specs.Rc.{rc_value}
use Rattle.vod_meta.specs.Held.{HeldMovie}
use Rattle.vod_plan.specs.Seeks.{audio_range, video_range}
use Rattle.vod_plan.specs.Tracks.{checked_view}
use Rattle.vod_plan.proofs.FoundSpans.{found-usable}
use Rattle.vod_plan.proofs.SelectLemmas.{are_selected}
use Rattle.vod_plan.proofs.select.selected.Goals as goal

pub returns-clause-selected : goal.returns-clause-selected
returns-clause-selected g c =
    let tracks = c.args.tracks in
    let piece = c.args.piece.now in
    let m = (rc_value tracks.meta).movie in
    are_selected (checked_view piece tracks) _ (found-usable m tracks.video c.requires.found.video) (found-usable m tracks.audio c.requires.found.audio)
    (ap (λ (h : HeldMovie). h.name) c.whole-selected.ensures.meta ∙ c.requires.named)
    c.whole-selected.ensures.base
    (c.ranges-video.ensures.video ∙ ap (video_range piece) c.whole-selected.ensures.video)
    (c.ranges-video.ensures.audio ∙ ap₂ (audio_range piece) c.whole-selected.ensures.video c.whole-selected.ensures.audio)
