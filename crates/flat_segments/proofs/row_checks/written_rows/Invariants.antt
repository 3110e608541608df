use Rattle.std.proofs.Common.{◌≡◌, ◌++◌, drop, map, All}
use Rattle.flat_samples.specs.Rows.{timed_view, IsPlacedRow}
use Rattle.flat_segments.specs.RowFaults.{ordered_fault, shown, EndsLow}
use Rattle.flat_segments.specs.Segments.{facts_of}
use Rattle.flat_segments.proofs.row_checks.written_rows.Given as goal

abbrev pub invariant-loop-sample : goal.invariant-loop-sample
invariant-loop-sample l = record {
  video : l.video.items ++ map (shown l.form) (drop l.sample-index l.fn.samples.video.now) ≡ map (shown l.form) l.fn.samples.video.now;
  audio : l.audio.items ++ map (shown l.form) l.left ≡ map (shown l.form) l.fn.samples.audio.now;
  fault : ordered_fault l.form (map facts_of l.files) (drop l.sample-index l.fn.samples.video.now) l.left ≡ ordered_fault l.form (map facts_of l.files) l.fn.samples.video.now l.fn.samples.audio.now;
  placed : All IsPlacedRow (map timed_view l.left);
  video_ends : All EndsLow l.video.items;
  audio_ends : All EndsLow l.audio.items;
}
