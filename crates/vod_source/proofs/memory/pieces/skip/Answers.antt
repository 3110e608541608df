use Rattle.std.proofs.Common.{rules, ◌∙◌, ◌<◌, length, sym, arith}
use Rattle.vod_source.proofs.PieceLemmas.{skipped-cut}
use Rattle.vod_source.proofs.memory.pieces.skip.Goals.{then-loop-pieces-test+else-at-len, else-loop-pieces-test}
use Rattle.vod_source.proofs.memory.pieces.skip.Goals as goal

pub returns-else-is_empty-clause-left : goal.returns-else-is_empty-clause-left
returns-else-is_empty-clause-left c = elim c.loop-pieces-test.branch [
  | then-loop-pieces-test+else-at-len w ↦
      let some : 0 < length c.loop-pieces.pieces.items = search rules in
      let within : c.loop-pieces.at < length w.index.result.now.items = omega (arith, w.index.result.now.ok.0) in
      sym (skipped-cut c.loop-pieces.at c.loop-pieces.pieces.items w.index.result.now w.index.ensures some within) ∙ c.loop-pieces.invariant
  | else-loop-pieces-test w ↦ search rules
]
