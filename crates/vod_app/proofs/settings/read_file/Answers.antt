use Rattle.std.proofs.Common.{◌≡◌, Some, arith, subst}
use Rattle.vod_source.specs.Stored.{size_of}
use Rattle.vod_source.proofs.CallLemmas.{told_with_all, told_with_both}
use Rattle.vod_app.proofs.SettingsReadLemmas.{long_read, short_read, empty_read, lent, not_store_failed}
use Rattle.vod_types.specs.Results.{Answers}
use Rattle.vod_types.specs.Settings.{settings_of}
use Rattle.vod_app.proofs.settings.read_file.Goals as goal

pub returns-then-size-gt-LONGEST-clause-told : goal.returns-then-size-gt-LONGEST-clause-told
returns-then-size-gt-LONGEST-clause-told g c =
    told_with_all (g.S.Store.content c.args.store.now) _ _ c.requires.size
    (λ files e. long_read files c.args.name.now _ c.args.size c.requires.named e c.if-size-gt-LONGEST.true)

pub returns-then-size-eq0-clause-told : goal.returns-then-size-eq0-clause-told
returns-then-size-eq0-clause-told g c =
    told_with_all (g.S.Store.content c.args.store.now) _ _ c.requires.size
    (λ files e. empty_read files c.args.name.now _ c.read_settings.result c.requires.named (let none : c.args.size ≡ 0 = omega arith in subst (λ n. size_of files c.args.name.now ≡ Some n) none e) c.read_settings.ensures)

pub returns-then-size-eq0-clause-store_failed : goal.returns-then-size-eq0-clause-store_failed
returns-then-size-eq0-clause-store_failed g c = λ failed. absurd (not_store_failed c.read_settings.result _ c.read_settings.ensures failed)

pub returns-in-Ok-clause-told : goal.returns-in-Ok-clause-told
returns-in-Ok-clause-told g c =
    let logged = lent c.lend.result c.in-Ok.bytes _ _ _ c.in-Ok.is c.lend.follows.holds-at-none.log in
    told_with_both (g.S.Store.content c.args.store.now) _ _ _ c.requires.size c.in-Ok.ensures.told
    (λ files e bytes. short_read files c.args.name.now _ c.read_settings-in-Ok.result c.args.size c.requires.named e (omega arith) (omega arith)
    (subst (λ bs. Answers (λ s. s) c.read_settings-in-Ok.result (settings_of bs)) bytes c.read_settings-in-Ok.ensures) logged)

pub returns-in-Ok-clause-store_failed : goal.returns-in-Ok-clause-store_failed
returns-in-Ok-clause-store_failed g c =
    λ failed. absurd (not_store_failed c.read_settings-in-Ok.result _ c.read_settings-in-Ok.ensures failed)
