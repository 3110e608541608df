-- The entry of the name goes first.
use Rattle.std.specs.Prelude.{string_bytes}
use Rattle.std.specs.Rc.{rc_value}
use Rattle.vod_meta.proofs.HeldLemmas.{promoted-named, promoted-brought}
use Rattle.vod_meta.proofs.metas.Metas.bring.Goals as goal

pub invariant_of-self : goal.invariant_of-self
invariant_of-self c =
    rw c.promote.ensures.entries (record { most = c.self.invariant.most; named = promoted-named (λ k. string_bytes k) (λ v. rc_value v) c.args.name.now c.self.inside.kept.entries c.self.invariant.named })

pub returns : goal.returns
returns c = λ h found.
    rw (← c.self.view_is, c.promote.ensures.entries)
    (promoted-brought (λ k. string_bytes k) (λ v. rc_value v) c.args.name.now c.self.inside.kept.entries h c.self.invariant.named c.len-distinct.ensures.valid.0 (rw (← c.self.view_is) at found))
