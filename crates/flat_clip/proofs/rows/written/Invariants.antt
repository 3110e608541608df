use Rattle.std.proofs.Common.{◌≡◌, map, take, All}
use Rattle.vod_types.specs.declared.segments.Form.TheVariants.{Fmp4}
use Rattle.segment_model.specs.Rows.{written_row}
use Rattle.flat_samples.specs.Rows.{timed_view}
use Rattle.flat_clip.specs.Tracks.{IsClipRow}
use Rattle.flat_clip.proofs.rows.written.Given as goal

abbrev pub invariant-loop-sample : goal.invariant-loop-sample
invariant-loop-sample l = record {
  rows : l.rows.items ≡ map (written_row Fmp4) (map timed_view (take l.sample-index l.samples));
  each : All IsClipRow l.rows.items;
}
