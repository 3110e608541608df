use Rattle.std.proofs.Common.{rules, ◌≡◌, ◌∙◌, sym, ap, Some, bytes_eq, true, false, arith}
use Rattle.std.proofs.lemmas.List.{drop_all}
use Rattle.vod_source.specs.Memory.{files_in}
use Rattle.vod_source.specs.Stored.{file_named}
use Rattle.vod_source.proofs.StoreLemmas.{file_named-hit, file_named-miss, file_named-nil}
use Rattle.vod_source.proofs.memory.store.find.Goals as goal

pub returns-then-eq : goal.returns-then-eq
returns-then-eq c =
    let hit : bytes_eq c.loop-known-item.result.0 c.args.name.now ≡ true = search rules in
    ap Some c.deref.ensures.value ∙ sym (file_named-hit _ _ c.loop-known-item.result _ c.loop-known-test.true c.loop-known-item.is hit) ∙ c.loop-known.invariant

pub loop-known-preserved : goal.loop-known-preserved
loop-known-preserved c =
    let miss : bytes_eq c.loop-known-item.result.0 c.args.name.now ≡ false = search rules in
    sym (file_named-miss _ _ c.loop-known-item.result _ c.loop-known-test.true c.loop-known-item.is miss) ∙ c.loop-known.invariant

pub returns : goal.returns
returns c =
    let none = drop_all c.loop-known.known-index c.args.files.now (omega arith) in
    sym (file_named-nil c.args.name.now) ∙ ap (λ l. file_named (files_in l) c.args.name.now) (sym none) ∙ c.loop-known.invariant
