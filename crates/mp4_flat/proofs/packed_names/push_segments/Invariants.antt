use Rattle.std.proofs.Common.{◌≡◌, ◌++◌, Bool, map, take, All}
use Rattle.list_model.specs.Names.{IsLeafOf, IsFormOf}
use Rattle.vod_types.specs.declared.paths.Leaf.TheVariants.{Segment}
use Rattle.mp4_flat.proofs.packed_names.push_segments.Given as goal

abbrev pub invariant-loop-row : goal.invariant-loop-row
invariant-loop-row l = record {
  put : l.names.items ≡ l.fn.names.items ++ map (λ row. Segment row.number l.sequence l.asked l.form) (take l.row-index l.rows);
  each : (dash : Bool) → IsFormOf dash l.form → All (IsLeafOf dash) l.fn.names.items → All (IsLeafOf dash) l.names.items;
}
