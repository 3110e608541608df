use Rattle.std.proofs.Common.{◌≡◌, drop, map, fold, max}
use Rattle.flat_segments.proofs.body.largest_from.Given as goal

abbrev pub invariant-loop-row : goal.invariant-loop-row
invariant-loop-row l = fold max l.largest (map (λ row. row.sample.size) (drop l.row-index l.rows)) ≡ fold max l.least (map (λ row. row.sample.size) l.rows)
