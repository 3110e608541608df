-- A track without a fault has checkpoints, which are those of its tables.
use Rattle.std.proofs.Common.{◌≡◌, true, Some, sym, ap, ap₂, ◌∙◌}
use Rattle.std.specs.Prelude.{option_map}
use Rattle.std.specs.Result.{result_ok}
use Rattle.vod_meta.specs.Shown.{runs_of}
use Rattle.vod_meta.proofs.ShownLemmas.{unindexed}
use Rattle.vod_meta.proofs.RunsLemmas.{always-shown, run-of}
use Rattle.vod_meta.proofs.meta.Meta.runs.Goals as goal

pub returns-in_default : goal.returns-in_default
returns-in_default c = ap (option_map runs_of) (sym (unindexed c.args.self.now.movie c.args.track (sym c.in_default.ensures)))

pub returns-in_default-tables : goal.returns-in_default-tables
returns-in_default-tables c =
    absurd (always-shown c.self.inside c.self.invariant c.args.track c.in-Some.index.now c.args.self.now c.self.view_is c.in-Some.ensures (rw c.deref.ensures.value at c.in_default-tables.ensures.tables))

pub new-times-requires-clause-fit : goal.new-times-requires-clause-fit
new-times-requires-clause-fit c =
    (run-of c.self.inside c.self.invariant c.args.track c.in-Some.index.now c.args.self.now c.self.view_is c.in-Some.ensures
    c.in-Some-tables.timescale c.in-Some-tables.tables (rw c.deref.ensures.value at c.in-Some-tables.ensures.tables) c.in-Some-tables.ensures.small).fit

pub new-times-requires-clause-timescale : goal.new-times-requires-clause-timescale
new-times-requires-clause-timescale c =
    (run-of c.self.inside c.self.invariant c.args.track c.in-Some.index.now c.args.self.now c.self.view_is c.in-Some.ensures
    c.in-Some-tables.timescale c.in-Some-tables.tables (rw c.deref.ensures.value at c.in-Some-tables.ensures.tables) c.in-Some-tables.ensures.small).some

pub new-times-requires-clause-index : goal.new-times-requires-clause-index
new-times-requires-clause-index c =
    (run-of c.self.inside c.self.invariant c.args.track c.in-Some.index.now c.args.self.now c.self.view_is c.in-Some.ensures
    c.in-Some-tables.timescale c.in-Some-tables.tables (rw c.deref.ensures.value at c.in-Some-tables.ensures.tables) c.in-Some-tables.ensures.small).times

pub new-places-requires-clause-index : goal.new-places-requires-clause-index
new-places-requires-clause-index c =
    (run-of c.self.inside c.self.invariant c.args.track c.in-Some.index.now c.args.self.now c.self.view_is c.in-Some.ensures
    c.in-Some-tables.timescale c.in-Some-tables.tables (rw c.deref.ensures.value at c.in-Some-tables.ensures.tables) c.in-Some-tables.ensures.small).places

pub returns : goal.returns
returns c =
    let run = run-of c.self.inside c.self.invariant c.args.track c.in-Some.index.now c.args.self.now c.self.view_is c.in-Some.ensures
    c.in-Some-tables.timescale c.in-Some-tables.tables (rw c.deref.ensures.value at c.in-Some-tables.ensures.tables) c.in-Some-tables.ensures.small in
    ap₂ (λ t p. Some (c.in-Some-tables.timescale, t, p)) c.new-times.ensures c.new-places.ensures
    ∙ ap₂ (λ n t. Some (n, record { tables = t; timescale = n; indexed = true }, record { tables = t; indexed = true })) run.same.0 run.same.1
    ∙ ap (λ v. option_map runs_of (result_ok v)) (sym run.view)
