use Rattle.std.proofs.Common.{◌≡◌, map, All}
use Rattle.mp4_model.specs.Samples.{decode_time}
use Rattle.mp4_tables.specs.Views.{tables_of}
use Rattle.mp4_tracks.specs.Views.{good_of}
use Rattle.segment_model.specs.Rows.{timed_rows}
use Rattle.flat_samples.specs.Rows.{timed_view, IsFileRow}
use Rattle.flat_samples.proofs.TimeLemmas.{first_rows}
use Rattle.flat_samples.proofs.samples.timed_rows.Given as goal

abbrev pub invariant-loop-number : goal.invariant-loop-number
invariant-loop-number l = record {
  rows : map timed_view l.rows.items ≡ timed_rows (first_rows l.cut (good_of l.track) l.number);
  bounds : All IsFileRow (map timed_view l.rows.items);
  time : l.decode_time ≡ decode_time (tables_of l.track.tables) l.number;
}
