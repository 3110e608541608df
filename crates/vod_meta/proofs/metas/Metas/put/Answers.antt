-- The metadata stand in front, under their name.
use Rattle.std.proofs.Common.{◌≡◌, false, List, ◌∷◌, take, sym, ap, ◌∙◌}
use Rattle.std.specs.Prelude.{string_bytes}
use Rattle.std.specs.Rc.{rc_value}
use Rattle.vod_meta.specs.Cached.{is_held, metas_view}
use Rattle.vod_meta.specs.Held.{HeldMovie}
use Rattle.vod_meta.proofs.HeldLemmas.{put-named, put-seen, on_ok}
use Rattle.vod_meta.proofs.metas.Metas.put.Goals as goal

key : (c : goal.Else-is_err) → string_bytes c.in-Ok.name ≡ c.args.meta.name
key c = c.in-Ok.ensures.ok ∙ c.name.ensures

value : (c : goal.Else-is_err) → rc_value c.in-Ok-shared.kept ≡ c.args.meta
value c = c.in-Ok-shared.ensures ∙ c.in-Ok-new.ensures.ok

other : (c : goal.Else-is_err) → is_held (string_bytes c.in-Ok.name) (metas_view c.self.inside) ≡ false
other c = rw (key c, c.self.view_is) c.requires

pub invariant_of-self-2 : goal.invariant_of-self-2
invariant_of-self-2 c =
    let new = on_ok c.put.result _ c.if-is_err.ensures.value c.put.ensures.entries in
    let named = key c ∙ ap (λ (h : HeldMovie). h.name) (sym (value c)) in
    rw new (record {
      most = c.self.invariant.most;
      named = put-named (λ k. string_bytes k) (λ v. rc_value v) c.self.inside.kept.entries c.self.inside.kept.cap c.in-Ok.name c.in-Ok-shared.kept c.self.invariant.named named (other c);
    })

pub returns-clause-put : goal.returns-clause-put
returns-clause-put c =
    let new = on_ok c.put.result _ c.if-is_err.ensures.value c.put.ensures.entries in
    rw new
    (put-seen (λ k. string_bytes k) (λ v. rc_value v) c.self.inside.kept.entries c.self.inside.kept.cap c.in-Ok.name c.in-Ok-shared.kept c.self.invariant.most c.self.invariant.named (other c)
    ∙ ap (λ (h : HeldMovie). h ∷ take 15 (metas_view c.self.inside)) (value c)
    ∙ ap (λ (held : List HeldMovie). c.args.meta ∷ take 15 held) c.self.view_is)
