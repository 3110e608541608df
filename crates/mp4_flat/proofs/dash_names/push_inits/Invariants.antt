use Rattle.std.proofs.Common.{◌≡◌, ◌++◌, take}
use Rattle.list_model.specs.Pack.{init_leaves}
use Rattle.mp4_flat.proofs.dash_names.push_inits.Given as goal

abbrev pub invariant-loop-period : goal.invariant-loop-period
invariant-loop-period l = l.names.items ≡ l.fn.names.items ++ init_leaves l.sequence l.kind (take l.period-index l.periods)
