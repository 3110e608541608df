use Rattle.std.proofs.Common.{◌≡◌, ◌++◌, map, filter, take}
use Rattle.vod_types.specs.declared.paths.Leaf.TheVariants.{Init}
use Rattle.mp4_flat.proofs.packed_names.push_inits.Given as goal

abbrev pub invariant-loop-row : goal.invariant-loop-row
invariant-loop-row l = l.names.items ≡ l.fn.names.items ++ map (λ row. Init row.part l.sequence l.asked) (filter (λ row. row.first_in_part) (take l.row-index l.rows))
