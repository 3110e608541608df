use Rattle.std.proofs.Common.{◌<◌, All, take}
use Rattle.service_tests.proofs.turns.name_links.Given as goal

-- those that were looked at name links
abbrev pub invariant-loop-number : goal.invariant-loop-number
invariant-loop-number l = All (λ n. n < l.fn.count) (take l.number-index l.order)
