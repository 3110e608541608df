use Rattle.std.proofs.Common.{rules, ◌≡◌, ◌∙◌, ◌≤◌, sym, ap, arith, length, bytes_eq, true, false, cond, Ok, Some, None}
use Rattle.vod_source.proofs.ZeroLemmas.{hole_size}
use Rattle.vod_source.proofs.memory.hole.HoleStoreStore.size.Goals.{then-eq, else-eq}
use Rattle.vod_source.proofs.memory.hole.HoleStoreStore.size.Goals as goal

pub returns-clause-told : goal.returns-clause-told
returns-clause-told c =
    let hole = c.args.self.now in
    let first = ap (λ v. length v.first) c.self.view_is in
    let long = ap (λ v. v.size) c.self.view_is in
    let within : length hole.first ≤ hole.size = omega (arith, c.self.invariant.1, c.self.inside.first.ok.0, first, long) in
    let size = hole_size hole c.args.name.now within in
    elim c.if-eq.branch [
      | then-eq w ↦
          let hit : bytes_eq hole.name c.args.name.now ≡ true = search rules in
          ap Ok (w.result-is ∙ ap Some long ∙ sym (size ∙ ap (λ b. cond b (Some hole.size) None) hit))
      | else-eq w ↦
          let miss : bytes_eq hole.name c.args.name.now ≡ false = search rules in
          ap Ok (w.result-is ∙ sym (size ∙ ap (λ b. cond b (Some hole.size) None) miss))
    ]
