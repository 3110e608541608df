use Rattle.std.proofs.Common.{ℕ, ◌<◌, length, arith}
use Rattle.mp4_tables.specs.Views.{stsz_entries}
use Rattle.flat_lists.proofs.BandwidthLemmas.{sum_by_entry}
use Rattle.flat_lists.proofs.bandwidths.bytes_of.Goals as goal

pub loop-i-preserved : goal.loop-i-preserved
loop-i-preserved g c =
    let sizes = stsz_entries c.in-Some.table in
    let within : c.loop-i.i < length sizes = omega arith in
    let more = sum_by_entry (λ (x : ℕ). x) sizes c.loop-i.i c.entry.result within c.entry.ensures.value in
    record { total = omega arith; bound = omega arith }
