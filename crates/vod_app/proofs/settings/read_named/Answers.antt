use Rattle.std.proofs.Common.{Ok, sym, subst, ◌∙◌}
use Rattle.vod_app.specs.Runs.{AreSettingsRead}
use Rattle.vod_source.proofs.CallLemmas.{told_all, told_with_all}
use Rattle.vod_app.proofs.SettingsReadLemmas.{default_read, absent_read, is_default, other_than_default}
use Rattle.vod_app.proofs.settings.read_named.Goals as goal

pub returns-then-eq-clause-told : goal.returns-then-eq-clause-told
returns-then-eq-clause-told g c =
    let log = g.S.Store.log c.args.store.now in
    told_all (g.S.Store.content c.args.store.now) _
    (λ files. subst (λ s. AreSettingsRead files c.args.name.now (Ok s) log log) (sym c.defaults.ensures)
    (default_read files c.args.name.now log (is_default c.args.name.now c.if-eq.ensures)))

pub returns-in-Ok-None-clause-told : goal.returns-in-Ok-None-clause-told
returns-in-Ok-None-clause-told g c =
    let log = g.S.Store.log c.args.store.now in
    told_with_all (g.S.Store.content c.args.store.now) _ _ c.in-Ok-None.ensures.told
    (λ files e. subst (AreSettingsRead files c.args.name.now _ log) (sym c.in-Ok-None.ensures.log)
    (absent_read files c.args.name.now log c.no_file.result (other_than_default c.args.name.now c.if-eq.ensures)
    (sym c.in-Ok-None.field-0-is ∙ e) c.no_file.ensures.absent))
