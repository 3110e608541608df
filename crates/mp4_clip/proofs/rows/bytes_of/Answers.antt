-- The bytes of a range are those through its last row, without those before its first.
use Rattle.std.proofs.Common.{◌≡◌, sym, ◌∙◌, arith}
use Rattle.mp4_model.specs.Samples.{bytes_before}
use Rattle.mp4_clip.proofs.FirstRows.{has-range}
use Rattle.mp4_clip.proofs.KeptRows.{kept-sizes}
use Rattle.mp4_clip.proofs.rows.bytes_of.Goals as goal

pub overflow_sub-result : goal.overflow_sub-result
overflow_sub-result g c =
    let p = c.args.rows.now in
    let has = has-range c.args.kind p c.requires.rows (sym c.has.ensures ∙ cc) in
    let all = kept-sizes c.args.kind p has.range has.is has.good in
    let placed = c.places-places.ensures has.range has.is in
    let before : c.bytes_before-before.result ≡ bytes_before has.range.track.tables has.range.from = rw (placed, c.from.ensures, c.range-span.ensures.from has.range has.is) at c.bytes_before-before.ensures.value in
    let through : c.bytes_before-through.result ≡ bytes_before has.range.track.tables has.range.to = rw (placed, c.from-2.ensures, c.range-span.ensures.to has.range has.is) at c.bytes_before-through.ensures.value in
    omega (arith, all, before, through)

pub returns-clause-bytes : goal.returns-clause-bytes
returns-clause-bytes g c =
    let p = c.args.rows.now in
    let has = has-range c.args.kind p c.requires.rows (sym c.has.ensures ∙ cc) in
    let all = kept-sizes c.args.kind p has.range has.is has.good in
    let placed = c.places-places.ensures has.range has.is in
    let before : c.bytes_before-before.result ≡ bytes_before has.range.track.tables has.range.from = rw (placed, c.from.ensures, c.range-span.ensures.from has.range has.is) at c.bytes_before-before.ensures.value in
    let through : c.bytes_before-through.result ≡ bytes_before has.range.track.tables has.range.to = rw (placed, c.from-2.ensures, c.range-span.ensures.to has.range has.is) at c.bytes_before-through.ensures.value in
    omega (arith, all, before, through)
