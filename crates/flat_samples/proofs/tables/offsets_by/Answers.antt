use Rattle.std.proofs.Common.{rules, ◌≡◌, ◌<◌, ◌^◌, get_or, length, refl, arith}
use Rattle.flat_samples.proofs.ListLemmas.{next_none, next_more, offsets_more}
use Rattle.flat_samples.proofs.tables.offsets_by.Goals as goal

pub loop-i-init : goal.loop-i-init
loop-i-init c = record { offsets = c.new-list.ensures.items; next = next_none c.args.chunks.now c.args.sizes.now c.args.next.now c.requires.fits }

pub loop-i-preserved : goal.loop-i-preserved
loop-i-preserved c =
    let chunks = c.args.chunks.now in
    let sizes = c.args.sizes.now in
    let first = c.args.next.now in
    let i = c.loop-i.i in
    let of_chunks : i < length chunks = omega arith in
    let of_sizes : i < length sizes = omega arith in
    let within : get_or chunks i 0 < length first = c.requires.within i 0 of_chunks in
    let same : length c.loop-i.next ≡ length first = omega arith in
    let small : get_or sizes i 0 < 2 ^ 32 = search rules in
    record {
      offsets = offsets_more chunks sizes first c.loop-i.next c.loop-i.list.items _ i _ within c.loop-i.invariant.next c.loop-i.invariant.offsets c.in_ok-push.ensures.items refl;
      next = rw c.from.ensures (next_more chunks sizes first c.loop-i.next i of_chunks of_sizes within same small c.loop-i.invariant.next);
    }
