use Rattle.std.proofs.Common.{◌≡◌, ◌≤◌, ◌+◌, ◌*◌, map, drop, length}
use Rattle.std.specs.Prelude.{option_map, sum}
use Rattle.std.specs.List.{AllByRecursion}
use Rattle.vod_types.specs.Options.{each}
use Rattle.seq_timeline.specs.Bounds.{longest, IsPlaced}
use Rattle.seq_timeline.specs.Views.{placed_view}
use Rattle.seq_timeline.proofs.spans.total_length.Given as goal

abbrev pub invariant-loop-placed : goal.invariant-loop-placed
invariant-loop-placed l = record {
  total : option_map (λ ns. l.total + sum ns) (each (λ p. p.length) (map placed_view (drop l.placed-index l.clips))) ≡ option_map (λ ns. sum ns) (each (λ p. p.length) (map placed_view l.clips));
  bound : l.total ≤ l.placed-index * longest;
  count : length l.clips ≤ 128;
  rest : AllByRecursion IsPlaced (map placed_view (drop l.placed-index l.clips));
}
