use Rattle.std.proofs.Common.{◌≡◌, ◌<◌, ◌^◌, All, take}
use Rattle.mp4_tables.specs.Views.{chunks_entries}
use Rattle.flat_samples.proofs.tables.chunk_offsets.Given as goal

abbrev pub invariant-loop-i : goal.invariant-loop-i
invariant-loop-i g l = record {
  offsets : l.list.items ≡ take l.i (chunks_entries l.table);
  fits : All (λ offset. offset < 2 ^ 64) l.list.items;
}
