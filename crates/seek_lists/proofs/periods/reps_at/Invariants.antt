-- One more, or all.
use Rattle.std.proofs.Common.{◌≡◌, ◌++◌, drop, All}
use Rattle.std.specs.Prelude.{flat_map}
use Rattle.list_model.specs.Manifest.{IsRep}
use Rattle.seek_lists.specs.Looked.{sequence_seen}
use Rattle.flat_lists.specs.Written.{sequence_reps}
use Rattle.seek_lists.proofs.periods.reps_at.Given as goal

abbrev pub invariant-loop-sequence : goal.invariant-loop-sequence
invariant-loop-sequence g l = record {
  left : l.reps.items ++ flat_map (λ s. sequence_reps l.writing.mapping.now l.writing.grid.now l.writing.align l.place (sequence_seen s)) (drop l.sequence-index l.looked)
      ≡ flat_map (λ s. sequence_reps l.writing.mapping.now l.writing.grid.now l.writing.align l.place (sequence_seen s)) l.looked;
  each : All IsRep l.reps.items;
}
