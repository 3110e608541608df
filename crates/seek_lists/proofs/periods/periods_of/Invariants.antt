-- One more, or all.
use Rattle.std.proofs.Common.{◌≡◌, ◌++◌, drop, map, All}
use Rattle.std.specs.List.{enumerate_from}
use Rattle.list_model.specs.Manifest.{IsPeriod}
use Rattle.seek_lists.specs.Looked.{sequence_seen}
use Rattle.flat_lists.specs.Written.{period_seen}
use Rattle.seek_lists.proofs.periods.periods_of.Given as goal

abbrev pub invariant-loop-first : goal.invariant-loop-first
invariant-loop-first g l = record {
  place : l.place ≡ l.first-index;
  left : l.periods.items ++ map (period_seen l.writing.mapping.now l.writing.grid.now l.writing.align (map sequence_seen l.looked)) (enumerate_from l.first-index (map (λ p. p.part) (drop l.first-index l.parts)))
      ≡ map (period_seen l.writing.mapping.now l.writing.grid.now l.writing.align (map sequence_seen l.looked)) (enumerate_from 0 (map (λ p. p.part) l.parts));
  each : All IsPeriod l.periods.items;
}
