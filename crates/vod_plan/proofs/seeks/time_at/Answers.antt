-- The row of an index stands that far behind the first one.
use Rattle.std.proofs.Common.{◌≡◌, ◌+◌, ◌-◌, ◌<◌, sym, ap, ◌∙◌, arith}
use Rattle.std.proofs.lemmas.Int.{ints}
use Rattle.vod_plan.specs.Seeks.{place_at}
use Rattle.vod_plan.specs.Spans.{piece_view}
use Rattle.vod_plan.proofs.SeekLemmas.{row_time, rows_count}
use Rattle.vod_plan.proofs.SpotLemmas.{good_range}
use Rattle.vod_plan.proofs.seeks.time_at.Goals as goal

pub returns-clause-time : goal.returns-clause-time
returns-clause-time g c = λ file r row e at.
    let kind = c.args.kind in
    let good = good_range kind c.args.piece.now r c.requires.piece e in
    let within : c.args.index < r.to - r.from = omega (arith, c.requires.within, rows_count kind (piece_view c.args.piece.now) r e) in
    let due = row_time kind file c.args.piece.now.base r c.args.index row good within at in
    let place = c.place_at.ensures.value r e ∙ ap (place_at kind r) (let same : c.range.result.from + c.args.index ≡ r.from + c.args.index = omega (arith, c.range.ensures.from r e) in same) in
    omega (arith, ints, place, c.place_at.ensures.bound, c.requires.piece.base) ∙ sym due
