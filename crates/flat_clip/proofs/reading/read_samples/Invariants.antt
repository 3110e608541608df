use Rattle.std.proofs.Common.{◌≡◌, ◌≤◌, ◌++◌, List, drop, IfSome}
use Rattle.std.specs.Prelude.{flat_map}
use Rattle.vod_source.specs.Stored.{Read}
use Rattle.vod_source.specs.Told.{told_with}
use Rattle.flat_clip.specs.Parts.{row_part, row_reads}
use Rattle.flat_clip.specs.Tracks.{placed_view}
use Rattle.flat_clip.proofs.reading.read_samples.Given as goal

abbrev pub invariant-loop-sample : goal.invariant-loop-sample
invariant-loop-sample g l = record {
  content : g.S.Store.content l.files ≡ g.S.Store.content l.fn.files;
  later : g.S.Store.faults l.fn.files ≤ g.S.Store.faults l.files;
  told : IfSome (g.S.Store.content l.fn.files) (λ known.
      l.bytes.items ++ flat_map (λ s. row_part l.name l.part known (placed_view s)) (drop l.sample-index l.samples)
      ≡ l.fn.bytes.items ++ flat_map (λ s. row_part l.name l.part known (placed_view s)) l.samples);
  done : List Read;
  log : g.S.Store.log l.files ≡ told_with (g.S.Store.log l.fn.files) done;
  rest : done ++ flat_map (λ s. row_reads l.name l.part (placed_view s)) (drop l.sample-index l.samples)
      ≡ flat_map (λ s. row_reads l.name l.part (placed_view s)) l.samples;
}
