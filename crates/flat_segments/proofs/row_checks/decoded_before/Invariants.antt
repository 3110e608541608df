use Rattle.std.proofs.Common.{◌≡◌, ◌+◌, drop, map, int_lt}
use Rattle.std.specs.List.{prefix_len}
use Rattle.vod_types.specs.declared.segments.Form.TheVariants.{Ts}
use Rattle.segment_model.specs.Rows.{decode_time_of}
use Rattle.flat_samples.specs.Rows.{timed_view}
use Rattle.flat_segments.proofs.row_checks.decoded_before.Given as goal

abbrev pub invariant-loop-place : goal.invariant-loop-place
invariant-loop-place l = record {
  count : l.place + prefix_len (λ r. int_lt (decode_time_of Ts r) l.time) (map timed_view (drop l.place l.samples)) ≡ prefix_len (λ r. int_lt (decode_time_of Ts r) l.time) (map timed_view l.samples);
}
