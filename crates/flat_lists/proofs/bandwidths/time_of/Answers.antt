use Rattle.std.proofs.Common.{ℕ, ◌*◌, ◌<◌, length, sum_by, ap, sym, ◌∙◌, arith}
use Rattle.std.proofs.lemmas.List.{take_all}
use Rattle.mp4_model.proofs.RunsLemmas.{sum-written_out}
use Rattle.mp4_tables.specs.Views.{stts_entries}
use Rattle.flat_lists.proofs.BandwidthLemmas.{sum_by_entry, sum_of_deltas}
use Rattle.flat_lists.proofs.bandwidths.time_of.Goals as goal

abbrev run_time : ℕ × ℕ → ℕ
run_time r = r.0 * r.1

pub loop-i-preserved : goal.loop-i-preserved
loop-i-preserved g c =
    let runs = stts_entries c.in-Some.table in
    let within : c.loop-i.i < length runs = omega arith in
    let more = sum_by_entry run_time runs c.loop-i.i c.entry-count.result within c.entry-count.ensures.value in
    record { total = omega (arith, c.run_time-time.ensures.value); bound = omega (arith, c.run_time-time.ensures.bound) }

pub returns-clause-value : goal.returns-clause-value
returns-clause-value g c =
    let runs = stts_entries c.in-Some.table in
    c.loop-i.invariant.total ∙ ap (sum_by run_time) (take_all c.loop-i.i runs (omega arith)) ∙ sym (sum-written_out runs) ∙ sum_of_deltas c.args.tables.now c.in-Some.table c.in-Some.is
