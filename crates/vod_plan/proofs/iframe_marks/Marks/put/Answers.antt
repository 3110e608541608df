-- One of the first 100,000, or a later one.
use Rattle.std.proofs.Common.{◌≡◌, ◌+◌, ◌-◌, ◌∷◌, ◌++◌, [], ℕ, refl, ap, ◌∙◌, arith, rules, FitsSigned, w64}
use Rattle.std.proofs.lemmas.Int.{to_z-of_z}
use Rattle.vod_plan.specs.declared.iframe_marks.Mark.{Mark}
use Rattle.vod_plan.proofs.IframeCells.{kept_more, kept_same}
use Rattle.vod_plan.proofs.iframe_marks.Marks.put.Goals as goal

pub returns-then-self-ge-MOST-clause-put : goal.returns-then-self-ge-MOST-clause-put
returns-then-self-ge-MOST-clause-put c = kept_same _ c.args.self.now _ c.requires.kept (omega (arith, c.if-self-ge-MOST.true)) refl (omega (arith, c.in-Some.ensures))

pub returns-clause-put : goal.returns-clause-put
returns-clause-put c =
    let index : c.in-Some.count - c.args.others ≡ c.args.self.now.count - c.args.others + 1 = omega (arith, c.in-Some.ensures, c.requires.others) in
    let end : FitsSigned w64 c.args.of.end = search rules in
    let start : FitsSigned w64 c.args.start = search rules in
    kept_more _ c.args.self.now _ c.requires.kept (omega (arith, c.if-self-ge-MOST.false))
    ((simp to_z-of_z at c.in_ok-push.ensures.items) ∙ ap (λ (i : ℕ). let m : Mark = record c.args.of { index = i; start = c.args.start } in c.args.self.now.kept.items ++ m ∷ []) index) (omega (arith, c.in-Some.ensures))
