-- What is written are whole packets.
use Rattle.std.proofs.Common.{◌≡◌, ℕ, ◌<◌, ◌%◌, Bool, true, false, List, [], ◌++◌, length, length-append, flat_map, Option, Result, Ok, Err, refl, sym, ap, ◌∙◌, ◌+◌, arith, lit<}
use Rattle.vod_types.specs.declared.segments.Sample.{Sample}
use Rattle.vod_types.specs.declared.tracks.Kind.{Kind}
use Rattle.vod_types.specs.declared.tracks.Kind.TheVariants.{Video, Audio}
use Rattle.media_model.specs.Packets.{packet_bytes}
use Rattle.media_model.specs.TransportStream.{clock_of, counter_of, pes_packet, pid_of, stream_packets, table_packets}
use Rattle.media_model.proofs.Cutting.{ArePackets-pes, length-spelled}
use Rattle.media_model.proofs.Stream.{ArePackets-rows}
use Rattle.vod_source.specs.Told.{told_with}
use Rattle.vod_source.proofs.ToldLemmas.{told_with-nil, told_with-more}
use Rattle.vod_source.specs.declared.step.Step.{Step}
use Rattle.vod_source.specs.declared.step.Step.TheVariants.{Again, Whole, BadNal as BadStep, StoreFailed, SinkFailed}
use Rattle.ts_packets.specs.Streams.{Stream, next_packets, stream_tables}
use Rattle.ts_writer.specs.declared.faults.SampleFault.{SampleFault}
use Rattle.ts_writer.specs.declared.faults.SampleFault.TheVariants.{Store, Sink, BadNal}
use Rattle.ts_writer.specs.Packets.{GrewByPackets, SamplePackets, StepPackets}
use Rattle.ts_writer.specs.Payloads.{packets_if}
use Rattle.ts_writer.specs.Samples.{SampleWritten}

below : (kind : Kind) → pid_of kind < 8192
below Video = lit< tt
below Audio = lit< tt

-- ---- what is written

tables_whole : (s : Stream) → length (stream_tables s) % 188 ≡ 0
unfolding table_packets stream_packets
tables_whole s = omega (arith, length-spelled (table_packets s.lead s.asked s.hevc) (ArePackets-rows s.lead s.asked s.hevc (λ kind row. []) []))

sample_whole : (good : Bool) (s : Stream) (kind : Kind) (sample : Sample) (payload : List ℕ) → length (flat_map packet_bytes (packets_if good (next_packets s kind sample payload))) % 188 ≡ 0
sample_whole false s kind sample payload = refl
sample_whole true s kind sample payload =
    omega (arith, length-spelled (next_packets s kind sample payload) (ArePackets-pes (clock_of s.lead kind sample) (pid_of kind) (counter_of kind s.counters) (pes_packet kind sample payload) (below kind)))

pub of_tables : (s : Stream) (before now : Option (List ℕ)) → now ≡ told_with before (stream_tables s) → GrewByPackets before now
of_tables s before now grew = record { more = stream_tables s; whole = tables_whole s; grew = grew }

pub of_sample : (result : Result (Unit {0}) SampleFault) (good : Bool) (s : Stream) (kind : Kind) (sample : Sample) (payload : List ℕ) (before now : Option (List ℕ))
    → SampleWritten result good before now (flat_map packet_bytes (packets_if good (next_packets s kind sample payload))) → SamplePackets result before now
of_sample (Ok x) good s kind sample payload before now wrote = record { more = _; whole = sample_whole good s kind sample payload; grew = wrote.1 }
of_sample (Err Store) good s kind sample payload before now wrote = tt
of_sample (Err Sink) good s kind sample payload before now wrote = tt
of_sample (Err BadNal) good s kind sample payload before now wrote = record { more = _; whole = sample_whole good s kind sample payload; grew = wrote.1 }

-- ---- steps

pub of_step : (step : Step) (before now : Option (List ℕ)) → GrewByPackets before now → StepPackets step before now
of_step Again before now grew = grew
of_step Whole before now grew = grew
of_step (BadStep file sample) before now grew = grew
of_step StoreFailed before now grew = tt
of_step SinkFailed before now grew = tt

-- none so far
pub no_packets : (before now : Option (List ℕ)) → now ≡ before → GrewByPackets before now
no_packets before now same = record { more = []; whole = refl; grew = same ∙ sym (told_with-nil before) }

-- and those of one more step
pub more_packets : (before middle now : Option (List ℕ)) → GrewByPackets before middle → GrewByPackets middle now → GrewByPackets before now
more_packets before middle now first second = record {
  more = first.more ++ second.more;
  whole = omega (arith, first.whole, second.whole, length-append first.more second.more);
  grew = told_with-more before middle now first.more second.more first.grew second.grew;
}
