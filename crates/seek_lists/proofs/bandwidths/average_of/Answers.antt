-- The bytes and the time behind the last sample.
use Rattle.std.proofs.Common.{◌≡◌, ap, ◌∙◌}
use Rattle.mp4_model.specs.GoodTracks.{GoodTrack}
use Rattle.mp4_model.specs.Samples.{bytes_before, decode_time}
use Rattle.mp4_tracks.specs.Views.{good_of}
use Rattle.chunk_runs.specs.Placed.{Placed}
use Rattle.time_runs.specs.Timed.{Timed}
use Rattle.vod_meta.specs.Shown.{places_of, times_of}
use Rattle.seek_lists.proofs.BandwidthLemmas.{average_is}
use Rattle.seek_lists.proofs.ViewLemmas.{found_as}
use Rattle.seek_lists.proofs.bandwidths.average_of.Goals as goal

pub returns-clause-value : goal.returns-clause-value
returns-clause-value g c =
    let good : GoodTrack = good_of c.args.view.now in
    let m = c.args.meta.now.movie in
    let placed : c.in-Some.places ≡ places_of good = found_as places_of m c.args.track good c.in-Some.places c.in-Some.ensures c.requires.track in
    let timed : c.in-Some-times.times ≡ times_of good = found_as times_of m c.args.track good c.in-Some-times.times c.in-Some-times.ensures c.requires.track in
    average_is good c.requires.usable c.from-samples.result (c.from-samples.ensures ∙ c.requires.samples) c.bytes_before-bytes.result c.from.result c.average.result
    (c.bytes_before-bytes.ensures.value ∙ ap (λ (p : Placed). bytes_before p.tables c.from-samples.result) placed)
    (c.from.ensures ∙ ap (λ r. r.0) c.times-time.ensures.value ∙ ap (λ (t : Timed). decode_time t.tables c.from-samples.result) timed)
    c.average.ensures.value
