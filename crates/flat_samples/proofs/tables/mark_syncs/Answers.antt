use Rattle.std.proofs.Common.{◌<◌, ◌≤◌, false, get_or, length, subst, arith}
use Rattle.std.proofs.lemmas.Option.{get_or_from_slice_get}
use Rattle.mp4_tables.specs.Views.{stss_entries}
use Rattle.flat_samples.specs.Written.{IsSyncNumber}
use Rattle.flat_samples.proofs.ListLemmas.{flag_more}
use Rattle.flat_samples.proofs.tables.mark_syncs.Goals as goal

pub loop-i-preserved : goal.loop-i-preserved
loop-i-preserved g c = λ k h.
    let numbers = stss_entries c.args.table.now in
    let i = c.loop-i.i in
    let n = c.entry-number.result in
    let within : i < length numbers = omega arith in
    let number = subst (IsSyncNumber (length c.args.flags.now)) (get_or_from_slice_get numbers i n 0 c.entry-number.ensures.value) (c.requires i 0 within) in
    let high : n ≤ length c.loop-i.flags = omega (arith, number.high) in
    flag_more c.loop-i.flags (get_or c.args.flags.now k false) numbers i n k within c.entry-number.ensures.value number.low high (c.loop-i.invariant k h)
