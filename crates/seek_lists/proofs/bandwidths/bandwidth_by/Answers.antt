-- The bits per second that the mapping names.
use Rattle.std.specs.Prelude.{sum, option_and_then}
use Rattle.mp4_model.specs.Samples.{sample_deltas, sample_sizes}
use Rattle.mp4_tables.specs.Views.{tables_of}
use Rattle.clip_model.specs.Mapping.{bitrate_of, sequence_at}
use Rattle.flat_lists.proofs.BandwidthLemmas.{named_bitrate}
use Rattle.seek_lists.proofs.bandwidths.bandwidth_by.Goals as goal

pub returns-in-Some-clause-value : goal.returns-in-Some-clause-value
returns-in-Some-clause-value g c =
    let tables = tables_of c.args.view.now.tables in
    named_bitrate (option_and_then (bitrate_of c.args.kind) (sequence_at c.args.mapping.now c.args.sequence)) (sum (sample_sizes tables)) c.args.view.now.timescale (sum (sample_deltas tables))
    c.from.result c.in-Some.bitrate c.in-Some.ensures c.from.ensures
