use Rattle.std.proofs.Common.{◌≡◌, ◌++◌, true, All}
use Rattle.std.specs.Prelude.{flat_map}
use Rattle.std.specs.List.{range_with_len}
use Rattle.list_model.specs.Names.{IsLeafOf}
use Rattle.mp4_flat.specs.Packed.{described_leaves}
use Rattle.mp4_flat.proofs.dash_names.push_described.Given as goal

abbrev pub invariant-loop-before : goal.invariant-loop-before
invariant-loop-before l = record {
  put : l.names.items ≡ l.fn.names.items ++ flat_map (described_leaves l.periods) (range_with_len 1 l.before);
  each : All (IsLeafOf true) l.fn.names.items → All (IsLeafOf true) l.names.items;
}
