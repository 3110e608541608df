-- The last row ends where the next one would be decoded.
use Rattle.std.proofs.Common.{◌≡◌, ◌-◌, ◌+◌, ◌<◌, pos, sym, ap, ◌∙◌, arith}
use Rattle.std.proofs.lemmas.Int.{ints}
use Rattle.segment_model.specs.Rows.{lead_in_of}
use Rattle.vod_plan.specs.Seeks.{units_at}
use Rattle.vod_plan.specs.Spans.{piece_view}
use Rattle.vod_plan.proofs.SeekLemmas.{place_is, rows_count, rows_end, units_later}
use Rattle.vod_plan.proofs.SpotLemmas.{good_range, range_there}
use Rattle.vod_plan.proofs.seeks.end_of_rows.Goals as goal

pub overflow_sub-result : goal.overflow_sub-result
overflow_sub-result g c =
    let kind = c.args.kind in
    let found = range_there kind (piece_view c.args.piece.now) c.requires.some in
    let r = found.0 in
    let good = good_range kind c.args.piece.now r c.requires.piece found.1 in
    let to = c.range-span.ensures.to r found.1 in
    let begin = c.units_at-begin.ensures.value r found.1 ∙ ap (units_at r) (let e : c.range-span.result.to - 1 ≡ r.to - 1 = omega (arith, to) in e) in
    let end = c.units_at-end.ensures.value r found.1 ∙ ap (units_at r) (let e : c.range-span.result.to ≡ r.to - 1 + 1 = omega (arith, to, found.2) in e) in
    omega (arith, begin, end, units_later kind r (r.to - 1) good)

pub returns-clause-end : goal.returns-clause-end
returns-clause-end g c = λ file start r e.
    let kind = c.args.kind in
    let cut = c.new.result in
    let good = good_range kind c.args.piece.now r c.requires.piece e in
    let some : r.from < r.to = omega (arith, c.requires.some, rows_count kind (piece_view c.args.piece.now) r e) in
    let to = c.range-span.ensures.to r e in
    let last : c.range-span.result.to - 1 ≡ r.to - 1 = omega (arith, to) in
    let begin = c.units_at-begin.ensures.value r e ∙ ap (units_at r) last in
    let end = c.units_at-end.ensures.value r e ∙ ap (units_at r) to in
    let edit = c.new.ensures.edit ∙ c.range-span.ensures.edit r e in
    let lead_in = c.new.ensures.lead_in ∙ ap (lead_in_of kind) (c.range-span.ensures.edit r e) in
    let place = c.place_of.ensures.value ∙ place_is kind cut r (r.to - 1) c.units_at-begin.result edit lead_in begin in
    let due = rows_end kind file c.args.piece.now.base (pos start) r good some in
    omega (arith, ints, begin, end, place, c.place_of.ensures.bound, c.units_at-begin.ensures.bound, c.units_at-end.ensures.bound, c.requires.piece.base) ∙ sym due
