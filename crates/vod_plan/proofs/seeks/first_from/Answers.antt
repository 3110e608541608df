-- A number of a row fits 32 bits, as the number of all does.
use Rattle.std.proofs.Common.{◌≡◌, w64, ap, ◌∙◌, arith}
use Rattle.std.proofs.lemmas.Int.{to_z-of_z}
use Rattle.mp4_model.specs.Samples.{first_sample_at}
use Rattle.time_runs.specs.Timed.{Timed}
use Rattle.vod_plan.specs.Ranges.{range_of}
use Rattle.vod_plan.specs.Seeks.{first_from}
use Rattle.vod_plan.specs.Spans.{piece_view}
use Rattle.vod_plan.proofs.SeekLemmas.{first_within, some_of}
use Rattle.vod_plan.proofs.seeks.first_from.Goals as goal

pub overflow_cast-result : goal.overflow_cast-result
overflow_cast-result g c =
    let r = some_of (range_of c.args.kind (piece_view c.args.piece.now)) c.requires in
    let times = c.times.ensures r.0 r.1 in
    let found : c.first_at.result ≡ first_from r.0 c.args.time =
    c.first_at.ensures.value
    ∙ ap (first_sample_at c.times.result.tables c.times.result.timescale) (to_z-of_z w64 c.args.time c.ranges.time)
    ∙ ap (λ (x : Timed). first_sample_at x.tables x.timescale c.args.time) times in
    let rows = c.samples-rows.ensures r.0 r.1 in
    let within = first_within r.0 c.args.time in
    omega (arith, found, within, rows)
