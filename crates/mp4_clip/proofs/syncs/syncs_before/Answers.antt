-- The place of the first number above a sample is how many sync samples stand before it.
use Rattle.std.proofs.Common.{sym, ap}
use Rattle.std.specs.Prelude.{option_map, Option}
use Rattle.mp4_tables.specs.Views.{stss_entries, tables_of}
use Rattle.mp4_tables.specs.declared.samples.Stss.{Stss}
use Rattle.time_runs.proofs.TrackLemmas.{stss_rises}
use Rattle.mp4_clip.proofs.SyncLemmas.{syncs-placed, syncs-all}
use Rattle.mp4_clip.proofs.syncs.syncs_before.Goals as goal

pub first_above-requires : goal.first_above-requires
first_above-requires g c =
    let t = tables_of c.args.tables.now in
    stss_rises t (stss_entries c.in-Some.table) c.requires.fit (ap (λ (o : Option Stss). option_map stss_entries o) c.in-Some.is)

pub returns-in-Some-clause-count : goal.returns-in-Some-clause-count
returns-in-Some-clause-count g c =
    let t = tables_of c.args.tables.now in
    let is = ap (λ (o : Option Stss). option_map stss_entries o) c.in-Some.is in
    syncs-placed (stss_entries c.in-Some.table) t is (stss_rises t (stss_entries c.in-Some.table) c.requires.fit is) c.args.i c.first_above.result c.first_above.ensures.next

pub returns-in-None-clause-count : goal.returns-in-None-clause-count
returns-in-None-clause-count g c = sym (syncs-all (tables_of c.args.tables.now) c.args.i (ap (λ (o : Option Stss). option_map stss_entries o) c.in-None.is))
