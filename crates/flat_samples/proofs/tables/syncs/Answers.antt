use Rattle.std.proofs.Common.{◌≡◌, ◌++◌, true, false, length, ap, ◌∙◌, arith}
use Rattle.std.specs.Prelude.{option_map}
use Rattle.std.proofs.Math.ListN.{replicate}
use Rattle.mp4_tables.specs.Views.{tables_of, stss_entries}
use Rattle.flat_samples.proofs.ListLemmas.{slice_written, syncs_all, syncs_marked}
use Rattle.flat_samples.proofs.tables.syncs.Goals as goal

pub returns-in_default-clause-syncs : goal.returns-in_default-clause-syncs
returns-in_default-clause-syncs g c =
    let is : c.push_run.new.list.items ≡ replicate c.args.samples true =
    c.in_ok-push_run.ensures.items ∙ ap (λ l. l ++ replicate c.from.result true) c.new-list.ensures.items ∙ ap (λ n. replicate n true) c.from.ensures in
    syncs_all (tables_of c.args.tables.now) c.args.samples c.push_run.new.list.items (ap (option_map stss_entries) c.in_default.is) is

pub returns-clause-syncs : goal.returns-clause-syncs
returns-clause-syncs g c =
    let was : c.as_mut_slice.result.now ≡ replicate c.args.samples false =
    c.as_mut_slice.ensures.value ∙ c.in_ok-push_run-2.ensures.items ∙ ap (λ l. l ++ replicate c.from-2.result false) c.new-list.ensures.items ∙ ap (λ n. replicate n false) c.from-2.ensures in
    let flags = c.mark_syncs.new.flags in
    let old = c.push_run-2.new.list in
    let count : length flags ≡ old.len = omega (arith, c.mark_syncs.ensures.length, c.as_mut_slice.ensures.len) in
    let of_old : length old.items ≡ old.len = omega (arith, ap length c.as_mut_slice.ensures.value, c.as_mut_slice.ensures.len) in
    slice_written old.len flags old.items count of_old
    ∙ syncs_marked (tables_of c.args.tables.now) c.args.samples (stss_entries c.in-Some.table) c.as_mut_slice.result.now flags (ap (option_map stss_entries) c.in-Some.is) was c.mark_syncs.ensures.length c.mark_syncs.ensures.each
