use Rattle.std.proofs.Common.{◌≡◌, ◌++◌, map, filter, take}
use Rattle.vod_types.specs.declared.paths.Leaf.TheVariants.{Init}
use Rattle.list_model.specs.Names.{first_of_kind}
use Rattle.list_model.specs.Pack.{is_listed_of}
use Rattle.mp4_flat.proofs.dash_names.push_part_inits.Given as goal

abbrev pub invariant-loop-rep : goal.invariant-loop-rep
invariant-loop-rep l = l.names.items ≡ l.fn.names.items ++ map (λ rep. Init l.part l.sequence (first_of_kind l.kind)) (filter (is_listed_of l.sequence l.kind) (take l.rep-index l.reps))
