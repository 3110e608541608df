-- A turn on a file that is kept, and on one that is read.
use Rattle.std.proofs.Common.{sym}
use Rattle.std.specs.Rc.{rc_value}
use Rattle.vod_meta.specs.Held.{HeldMovie}
use Rattle.vod_meta.proofs.TurnLemmas.{named_as, tells-was_held, tells-was_loaded, tells-not_loaded, tells-told, tells-names, tells-true}
use Rattle.vod_meta.proofs.metas.Metas.load.Goals as goal

pub returns-in-Some-Ok-clause-told : goal.returns-in-Some-Ok-clause-told
returns-in-Some-Ok-clause-told g c =
    rw c.in-Some-Ok.field-0-is
    (tells-told (λ v. rc_value {X = HeldMovie} v) c.args.name.now c.args.self.now _ c.bring.new.self _ _ (g.S.Store.content c.args.store.now)
    (tells-was_held (λ v. rc_value v) c.args.name.now c.args.self.now (g.S.Store.content c.args.store.now) (g.S.Store.log c.args.store.now) c.in-Some-Ok.meta c.bring.new.self c.requires.held
    (rw c.in-Some-Ok.field-0-is at c.in-Some-Ok.ensures.found) (c.bring.ensures (rc_value c.in-Some-Ok.meta) (rw c.in-Some-Ok.field-0-is at c.in-Some-Ok.ensures.found))))

pub returns-in-Some-Ok-clause-names : goal.returns-in-Some-Ok-clause-names
returns-in-Some-Ok-clause-names g c =
    tells-names (λ v. rc_value {X = HeldMovie} v) c.args.name.now c.args.self.now _ c.bring.new.self _ _ (g.S.Store.content c.args.store.now)
    (tells-was_held (λ v. rc_value v) c.args.name.now c.args.self.now (g.S.Store.content c.args.store.now) (g.S.Store.log c.args.store.now) c.in-Some-Ok.meta c.bring.new.self c.requires.held
    (rw c.in-Some-Ok.field-0-is at c.in-Some-Ok.ensures.found) (c.bring.ensures (rc_value c.in-Some-Ok.meta) (rw c.in-Some-Ok.field-0-is at c.in-Some-Ok.ensures.found)))

pub returns-in-Some-Ok-clause-held : goal.returns-in-Some-Ok-clause-held
returns-in-Some-Ok-clause-held g c =
    tells-true (λ v. rc_value {X = HeldMovie} v) c.args.name.now c.args.self.now _ c.bring.new.self _ _ (g.S.Store.content c.args.store.now)
    (tells-was_held (λ v. rc_value v) c.args.name.now c.args.self.now (g.S.Store.content c.args.store.now) (g.S.Store.log c.args.store.now) c.in-Some-Ok.meta c.bring.new.self c.requires.held
    (rw c.in-Some-Ok.field-0-is at c.in-Some-Ok.ensures.found) (c.bring.ensures (rc_value c.in-Some-Ok.meta) (rw c.in-Some-Ok.field-0-is at c.in-Some-Ok.ensures.found)))

pub returns-in-Ok-clause-told : goal.returns-in-Ok-clause-told
returns-in-Ok-clause-told g c =
    tells-told (λ v. rc_value {X = HeldMovie} v) c.args.name.now c.args.self.now c.put.result c.put.new.self _ _ (g.S.Store.content c.args.store.now)
    (tells-was_loaded (λ v. rc_value v) c.args.name.now c.args.self.now (g.S.Store.content c.args.store.now) (g.S.Store.log c.args.store.now) _ c.in-Ok.meta c.put.result c.put.new.self c.requires.held
    (sym c.in-None.ensures.held) c.in-Ok.ensures.named c.in-Ok.ensures.told c.put.ensures.put c.put.ensures.value c.put.ensures.only c.put.ensures.same)

pub returns-in-Err-clause-told : goal.returns-in-Err-clause-told
returns-in-Err-clause-told g c =
    tells-told (λ v. rc_value {X = HeldMovie} v) c.args.name.now c.args.self.now _ c.args.self.now _ _ (g.S.Store.content c.args.store.now)
    (tells-not_loaded (λ v. rc_value v) c.args.name.now c.args.self.now (g.S.Store.content c.args.store.now) (g.S.Store.log c.args.store.now) _ c.in-Err.refusal c.requires.held
    (sym c.in-None.ensures.held) c.in-Err.ensures.told)

pub returns-in-Ok-clause-names : goal.returns-in-Ok-clause-names
returns-in-Ok-clause-names g c =
    tells-names (λ v. rc_value {X = HeldMovie} v) c.args.name.now c.args.self.now c.put.result c.put.new.self _ _ (g.S.Store.content c.args.store.now)
    (tells-was_loaded (λ v. rc_value v) c.args.name.now c.args.self.now (g.S.Store.content c.args.store.now) (g.S.Store.log c.args.store.now) _ c.in-Ok.meta c.put.result c.put.new.self c.requires.held
    (sym c.in-None.ensures.held) c.in-Ok.ensures.named c.in-Ok.ensures.told c.put.ensures.put c.put.ensures.value c.put.ensures.only c.put.ensures.same)

pub returns-in-Ok-clause-held : goal.returns-in-Ok-clause-held
returns-in-Ok-clause-held g c =
    tells-true (λ v. rc_value {X = HeldMovie} v) c.args.name.now c.args.self.now c.put.result c.put.new.self _ _ (g.S.Store.content c.args.store.now)
    (tells-was_loaded (λ v. rc_value v) c.args.name.now c.args.self.now (g.S.Store.content c.args.store.now) (g.S.Store.log c.args.store.now) _ c.in-Ok.meta c.put.result c.put.new.self c.requires.held
    (sym c.in-None.ensures.held) c.in-Ok.ensures.named c.in-Ok.ensures.told c.put.ensures.put c.put.ensures.value c.put.ensures.only c.put.ensures.same)

pub returns-in-Some-Ok-clause-named : goal.returns-in-Some-Ok-clause-named
returns-in-Some-Ok-clause-named g c =
    rw c.in-Some-Ok.field-0-is (c.bring.ensures (rc_value c.in-Some-Ok.meta) (rw c.in-Some-Ok.field-0-is at c.in-Some-Ok.ensures.found)).named

pub returns-in-Ok-clause-named : goal.returns-in-Ok-clause-named
returns-in-Ok-clause-named g c = named_as (λ v. rc_value {X = HeldMovie} v) c.put.result c.in-Ok.meta c.args.name.now c.put.ensures.value c.in-Ok.ensures.named
