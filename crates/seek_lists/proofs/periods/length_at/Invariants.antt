-- One more, or all.
use Rattle.std.proofs.Common.{◌≡◌, ◌≤◌, ◌^◌, drop, fold, map, max}
use Rattle.seek_lists.specs.Looked.{sequence_seen}
use Rattle.flat_lists.specs.Written.{sequence_length}
use Rattle.seek_lists.proofs.periods.length_at.Given as goal

abbrev pub invariant-loop-sequence : goal.invariant-loop-sequence
invariant-loop-sequence g l = record {
  left : fold max l.longest (map (λ s. sequence_length l.place (sequence_seen s)) (drop l.sequence-index l.looked)) ≡ fold max 0 (map (λ s. sequence_length l.place (sequence_seen s)) l.looked);
  short : l.longest ≤ 2 ^ 41;
}
