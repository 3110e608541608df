-- The entry of the name, if there is one.
use Rattle.std.proofs.Common.{◌≡◌, Some, None, sym, ap, ◌∙◌}
use Rattle.std.specs.Prelude.{is_some, string_bytes, option_map}
use Rattle.std.specs.Rc.{rc_value}
use Rattle.vod_meta.specs.Cached.{find_held}
use Rattle.vod_meta.proofs.HeldLemmas.{found_held, found_shared, lookup-seen}
use Rattle.vod_meta.proofs.metas.Metas.find.Goals as goal

found : (c : goal.After-shared) → find_held c.args.name.now c.args.self.now ≡ Some (rc_value c.in-Some.meta.now)
found c =
    ap (find_held c.args.name.now) (sym c.self.view_is)
    ∙ sym (lookup-seen (λ k. string_bytes k) (λ v. rc_value v) c.args.name.now c.self.inside.kept.entries c.self.invariant.named)
    ∙ ap (option_map (λ v. rc_value v)) (sym c.in-Some.ensures)

pub returns-in-Some-clause-held : goal.returns-in-Some-clause-held
returns-in-Some-clause-held c = ap is_some (sym (found c)) ∙ found_held c.args.name.now c.args.self.now

pub returns-in-Some-clause-found : goal.returns-in-Some-clause-found
returns-in-Some-clause-found c = found_shared (λ v. rc_value v) c.shared.result (find_held c.args.name.now c.args.self.now) (rc_value c.in-Some.meta.now) _ (found c) c.shared.ensures

pub returns-in-None-clause-held : goal.returns-in-None-clause-held
returns-in-None-clause-held c =
    let none : None ≡ find_held c.args.name.now c.args.self.now =
    ap (option_map (λ v. rc_value v)) c.in-None.ensures
    ∙ lookup-seen (λ k. string_bytes k) (λ v. rc_value v) c.args.name.now c.self.inside.kept.entries c.self.invariant.named
    ∙ ap (find_held c.args.name.now) c.self.view_is in
    ap is_some none ∙ found_held c.args.name.now c.args.self.now
