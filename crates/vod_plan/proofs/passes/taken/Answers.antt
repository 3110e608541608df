-- The size of a row is that of its sample.
use Rattle.std.proofs.Common.{ℕ, ◌+◌, max, ap, ◌∙◌, arith}
use Rattle.vod_plan.specs.declared.passes.Pass.{Pass}
use Rattle.vod_plan.proofs.DueLemmas.{shown_size}
use Rattle.vod_plan.proofs.passes.taken.Goals as goal

pub returns-in-Ok-clause-largest : goal.returns-in-Ok-clause-largest
returns-in-Ok-clause-largest g c =
    c.advanced.ensures.largest ∙ ap (λ (p : Pass). p.largest) c.counted.ensures ∙ ap (λ (n : ℕ). max c.args.pass.largest n) (shown_size c.args.form c.args.turn.1)

pub returns-in-Ok-clause-bytes : goal.returns-in-Ok-clause-bytes
returns-in-Ok-clause-bytes g c =
    c.advanced.ensures.bytes ∙ ap (λ (p : Pass). p.bytes) c.counted.ensures ∙ ap (λ (n : ℕ). c.args.pass.bytes + n) (shown_size c.args.form c.args.turn.1)

pub returns-in-Ok-clause-short : goal.returns-in-Ok-clause-short
returns-in-Ok-clause-short g c = let size = shown_size c.args.form c.args.turn.1 in omega (arith, size)

pub returns-in-Err-clause-short : goal.returns-in-Err-clause-short
returns-in-Err-clause-short g c = let size = shown_size c.args.form c.args.turn.1 in omega (arith, size)
