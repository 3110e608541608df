-- A track without a fault isn't long.
use Rattle.std.proofs.Common.{◌≡◌, ℕ, ℤ, ap, ap₂, ◌∙◌, arith}
use Rattle.mp4_model.specs.Clock.{to_units}
use Rattle.mp4_model.specs.Samples.{decode_time}
use Rattle.time_runs.specs.Timed.{Timed}
use Rattle.vod_plan.specs.Ranges.{range_of}
use Rattle.vod_plan.specs.Seeks.{units_at}
use Rattle.vod_plan.specs.Spans.{piece_view}
use Rattle.vod_plan.proofs.SeekLemmas.{some_of, units_short}
use Rattle.vod_plan.proofs.SpotLemmas.{good_range}
use Rattle.vod_plan.proofs.seeks.units_at.Goals as goal

pub to_units-requires-clause-short : goal.to_units-requires-clause-short
to_units-requires-clause-short g c =
    let r = some_of (range_of c.args.kind (piece_view c.args.piece.now)) c.requires.some in
    let good = good_range c.args.kind c.args.piece.now r.0 c.requires.piece r.1 in
    let time : c.times-time.result.0 ≡ decode_time r.0.track.tables c.args.row =
    ap (λ (p : ℕ × ℤ). p.0) c.times-time.ensures.value
    ∙ ap₂ (λ (x : Timed) (row : ℕ). decode_time x.tables row) (c.times.ensures r.0 r.1) c.from.ensures in
    let is : to_units c.timescale.result c.from-2.result ≡ units_at r.0 c.args.row = ap₂ to_units (c.timescale.ensures r.0 r.1) (c.from-2.ensures ∙ time) in
    omega (arith, is, units_short r.0 c.args.row good)
