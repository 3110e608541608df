-- The row of the sample at a spot.
use Rattle.std.proofs.Common.{ℕ, ℤ, SFits, w64, ap, ◌∙◌, arith}
use Rattle.std.proofs.lemmas.Int.{ints, to_z-of_z}
use Rattle.mp4_model.specs.Samples.{FlatRow, flat_row}
use Rattle.segment_model.specs.Rows.{TimedRow, lead_in_of, timed_row}
use Rattle.segment_model.specs.Timeline.{placed}
use Rattle.vod_plan.specs.Cuts.{cut_of, timed_view}
use Rattle.vod_plan.proofs.SpotLemmas.{good_range, timely}
use Rattle.vod_plan.proofs.TimeLemmas.{timed_row-of}
use Rattle.vod_plan.proofs.walk.row_at.Goals as goal

pub new-requires-clause-timely : goal.new-requires-clause-timely
new-requires-clause-timely g c =
    let next = c.requires.next in
    let good = good_range c.args.kind c.args.piece.now next.range c.requires.piece next.is_range in
    let timescale = c.sample_at-timescale.ensures.timescale next.range next.is_range in
    let sample = c.sample_at-timescale.ensures.sample next.range next.is_range in
    rw (timescale, sample) (timely next.range c.args.spot.now.times.row good next.left)

pub returns-clause-row : goal.returns-clause-row
returns-clause-row g c = λ r e.
    let file : ℕ = c.args.spot.now.piece in
    let i : ℕ = c.args.spot.now.times.row in
    let base : ℤ = c.args.piece.now.base in
    let sample = c.sample_at-timescale.ensures.sample r e in
    let timescale = c.sample_at-timescale.ensures.timescale r e in
    let edit = c.new-cut.ensures.edit ∙ c.range.ensures.edit r e in
    let lead_in = c.new-cut.ensures.lead_in ∙ ap (lead_in_of c.args.kind) (c.range.ensures.edit r e) in
    let fits : SFits w64 base = omega (arith, ints, c.requires.piece.base) in
    ap (λ (b : ℤ). placed file b (timed_view c.new.result)) (to_z-of_z w64 base fits)
    ∙ ap (λ (t : TimedRow). placed file base t)
    (c.new.ensures.row
    ∙ ap (λ (f : FlatRow). timed_row (cut_of c.new-cut.result c.sample_at-timescale.result.0) (i, f)) sample
    ∙ timed_row-of c.args.kind c.new-cut.result c.sample_at-timescale.result.0 r (i, flat_row r.track.tables i) edit lead_in timescale)
