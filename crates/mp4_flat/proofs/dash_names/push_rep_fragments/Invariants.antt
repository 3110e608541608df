use Rattle.std.proofs.Common.{◌≡◌, ◌++◌, true, filter, take, All}
use Rattle.std.specs.Prelude.{flat_map}
use Rattle.list_model.specs.Pack.{is_listed_of}
use Rattle.list_model.specs.Names.{IsLeafOf}
use Rattle.mp4_flat.specs.Packed.{rep_fragments}
use Rattle.mp4_flat.proofs.dash_names.push_rep_fragments.Given as goal

abbrev pub invariant-loop-rep : goal.invariant-loop-rep
invariant-loop-rep l = record {
  put : l.names.items ≡ l.fn.names.items ++ flat_map (rep_fragments l.sequence l.kind) (filter (is_listed_of l.sequence l.kind) (take l.rep-index l.reps));
  each : All (IsLeafOf true) l.fn.names.items → All (IsLeafOf true) l.names.items;
}
