-- The tables of a track without a fault are those at its places.
use Rattle.std.proofs.Common.{ap, sym, ◌∙◌}
use Rattle.mp4_tracks.specs.Views.{outcome_at}
use Rattle.mp4_tracks.proofs.MovieLemmas.{view-kept}
use Rattle.mp4_tracks.proofs.TrackAt.{track_at-good}
use Rattle.mp4_tracks.proofs.kept.Tracks.tables.Goals as goal

pub returns-in-Ok-clause-tables : goal.returns-in-Ok-clause-tables
returns-in-Ok-clause-tables c = λ ts t e good.
    let kept = view-kept c.args.moov.now c.args.self.now ts c.args.track c.requires e ∙ ap (λ o. outcome_at c.args.moov.now c.args.track.kind o) (sym c.in-Ok.ensures) in
    let at = track_at-good c.args.moov.now c.args.track.kind c.in-Ok.places t (sym kept ∙ good) in
    (sym at.0, c.view.ensures ∙ sym at.1)

pub returns-in-Err-clause-tables : goal.returns-in-Err-clause-tables
returns-in-Err-clause-tables c = λ ts t e good.
    let kept = view-kept c.args.moov.now c.args.self.now ts c.args.track c.requires e ∙ ap (λ o. outcome_at c.args.moov.now c.args.track.kind o) (sym c.in-Err.ensures) in
    let never = sym kept ∙ good in
    absurd cc
