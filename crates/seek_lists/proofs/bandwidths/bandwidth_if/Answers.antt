-- Those of the view of the track, if it is there.
use Rattle.std.proofs.Common.{Option, ap, ◌∙◌}
use Rattle.std.specs.Option.{option_map_or}
use Rattle.mp4_model.specs.GoodTracks.{GoodTrack}
use Rattle.mp4_tracks.specs.Views.{good_of}
use Rattle.flat_lists.specs.Shown.{bandwidth_in}
use Rattle.vod_meta.proofs.ShownLemmas.{shown-good}
use Rattle.seek_lists.proofs.ViewLemmas.{seen_good, seen_faulty}
use Rattle.seek_lists.proofs.bandwidths.bandwidth_if.Goals as goal

pub bandwidth_by-requires-clause-track : goal.bandwidth_by-requires-clause-track
bandwidth_by-requires-clause-track g c = shown-good c.args.meta.now.movie c.in-Some.asked.track (good_of c.in-Ok.view) c.in-Ok.ensures.view.0

pub returns-in-Ok-clause-value : goal.returns-in-Ok-clause-value
returns-in-Ok-clause-value g c =
    c.bandwidth_by.ensures.value
    ∙ ap (λ (o : Option GoodTrack). option_map_or (bandwidth_in c.args.mapping.now c.args.sequence c.args.kind) o 0)
    (seen_good c.args.meta.now.movie c.args.track c.in-Some.asked c.in-Some.is (good_of c.in-Ok.view) c.in-Ok.ensures.view.0)

pub returns-in-Err-clause-value : goal.returns-in-Err-clause-value
returns-in-Err-clause-value g c =
    ap (λ (o : Option GoodTrack). option_map_or (bandwidth_in c.args.mapping.now c.args.sequence c.args.kind) o 0)
    (seen_faulty c.args.meta.now.movie c.args.track c.in-Some.asked c.in-Some.is c.in-Err.field-0 c.in-Err.ensures.view)
