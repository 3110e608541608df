-- Both numbers are within the track.
use Rattle.std.proofs.Common.{◌≤◌, ◌^◌, w64, ap, arith}
use Rattle.std.specs.Prelude.{unsigned_abs}
use Rattle.std.proofs.lemmas.Int.{ints, to_z-of_z}
use Rattle.mp4_model.specs.Edits.{Edit}
use Rattle.std.specs.Rc.{rc_value}
use Rattle.vod_plan.specs.Ranges.{range_of}
use Rattle.vod_plan.specs.Spans.{piece_view}
use Rattle.vod_plan.proofs.FoundSpans.{rows-in}
use Rattle.vod_plan.proofs.SeekLemmas.{some_of}
use Rattle.vod_plan.proofs.SpotLemmas.{good_range, spanned}
use Rattle.vod_plan.proofs.select.rows_from.Goals as goal

pub returns-clause-kept : goal.returns-clause-kept
returns-clause-kept c =
    let kind = c.args.kind in
    let p = c.args.whole.now in
    let r = some_of (range_of kind (piece_view p)) c.requires.some in
    let good = good_range kind p r.0 c.requires.whole r.1 in
    let span = c.range-span.result in
    let delay : unsigned_abs span.delay ≤ 2 ^ 40 = omega (arith, ap (λ (e : Edit). e.delay) (c.range-span.ensures.edit r.0 r.1), good.delay) in
    let skip : unsigned_abs span.skip ≤ 2 ^ 40 = omega (arith, ap (λ (e : Edit). e.skip) (c.range-span.ensures.edit r.0 r.1), good.skip) in
    rw (to_z-of_z w64 span.delay (omega (arith, ints, delay)), to_z-of_z w64 span.skip (omega (arith, ints, skip)))
    (rows-in (rc_value p.meta).movie span r.0 c.args.from c.args.to c.max.result (spanned kind p span r.0 c.range-span.ensures.span r.1) good (c.requires.from r.0 r.1) (c.requires.to r.0 r.1) c.max.ensures)
