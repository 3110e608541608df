use Rattle.std.proofs.Common.{◌<◌, ◌^◌, length, arith}
use Rattle.mp4_tables.specs.Views.{chunks_entries}
use Rattle.flat_samples.proofs.ListLemmas.{entry_pushed, small_pushed}
use Rattle.flat_samples.proofs.tables.chunk_offsets.Goals as goal

pub loop-i-preserved : goal.loop-i-preserved
loop-i-preserved g c =
    let entries = chunks_entries c.in-Some.table in
    let i = c.loop-i.i in
    let old = c.loop-i.list.items in
    let offset = c.from.result in
    let within : i < length entries = omega arith in
    let small : offset < 2 ^ 64 = omega (arith, c.from.ensures) in
    record {
      offsets = entry_pushed entries old c.push.new.self.items i c.entry.result offset within c.entry.ensures.value c.from.ensures c.loop-i.invariant.offsets c.in_ok-push.ensures.items;
      fits = small_pushed (2 ^ 64) old c.push.new.self.items offset c.loop-i.invariant.fits small c.in_ok-push.ensures.items;
    }
