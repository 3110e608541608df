use Rattle.std.proofs.Common.{◌<◌, ◌≤◌, [], length, sym, ap, ◌∙◌, arith}
use Rattle.std.specs.Prelude.{option_map, unwrap_or}
use Rattle.std.proofs.lemmas.List.{take_all}
use Rattle.mp4_model.specs.Runs.{written_out}
use Rattle.mp4_model.specs.Samples.{chunk_runs, samples_per_chunk}
use Rattle.mp4_tables.specs.Views.{stsc_entries}
use Rattle.flat_samples.proofs.ListLemmas.{runs_more, length-chunk_runs}
use Rattle.flat_samples.proofs.tables.samples_per_chunk.Goals as goal

pub loop-i-preserved : goal.loop-i-preserved
loop-i-preserved g c =
    let entries = stsc_entries c.in-Some.table in
    let runs = chunk_runs entries c.args.chunks in
    let within : c.loop-i.i < length runs = omega (arith, length-chunk_runs entries c.args.chunks) in
    cc (runs_more runs c.loop-i.i c.chunk_run-count.result within c.chunk_run-count.ensures, c.in_ok-push_run.ensures.items, c.loop-i.invariant)

pub returns-clause-counts : goal.returns-clause-counts
returns-clause-counts g c =
    let entries = stsc_entries c.in-Some.table in
    let runs = chunk_runs entries c.args.chunks in
    let all : length runs ≤ c.loop-i.i = omega (arith, length-chunk_runs entries c.args.chunks) in
    c.loop-i.invariant ∙ ap written_out (take_all c.loop-i.i runs all) ∙ ap (λ o. samples_per_chunk (unwrap_or (option_map stsc_entries o) []) c.args.chunks) (sym c.in-Some.is)
