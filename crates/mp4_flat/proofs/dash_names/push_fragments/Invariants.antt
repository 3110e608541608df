use Rattle.std.proofs.Common.{◌≡◌, ◌++◌, true, take, All}
use Rattle.list_model.specs.Pack.{fragment_leaves}
use Rattle.list_model.specs.Names.{IsLeafOf}
use Rattle.mp4_flat.proofs.dash_names.push_fragments.Given as goal

abbrev pub invariant-loop-period : goal.invariant-loop-period
invariant-loop-period l = record {
  put : l.names.items ≡ l.fn.names.items ++ fragment_leaves l.sequence l.kind (take l.period-index l.periods);
  each : All (IsLeafOf true) l.fn.names.items → All (IsLeafOf true) l.names.items;
}
