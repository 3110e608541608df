use Rattle.std.proofs.Common.{rules, ◌<◌, ◌++◌, length, ap, sym, ◌∙◌, SFits, w64, arith}
use Rattle.std.proofs.Math.ListN.{replicate}
use Rattle.std.proofs.lemmas.Int.{to_z-of_z}
use Rattle.mp4_tables.specs.Views.{ctts_entries}
use Rattle.flat_samples.proofs.ListLemmas.{runs_more}
use Rattle.flat_samples.proofs.tables.composition_offsets.Goals as goal

pub loop-i-preserved : goal.loop-i-preserved
loop-i-preserved g c =
    let runs = ctts_entries c.in-Some.table in
    let run = c.entry-count.result in
    let within : c.loop-i.i < length runs = omega arith in
    let fits : SFits w64 run.1 = search rules in
    c.in_ok-push_run-2.ensures.items
    ∙ ap (λ z. c.loop-i.list.items ++ replicate c.from-in-loop-i.result z) (to_z-of_z w64 run.1 fits)
    ∙ ap (λ n. c.loop-i.list.items ++ replicate n run.1) c.from-in-loop-i.ensures
    ∙ ap (λ l. l ++ replicate run.0 run.1) c.loop-i.invariant
    ∙ sym (runs_more runs c.loop-i.i run within c.entry-count.ensures.value)
