use Rattle.std.proofs.Common.{◌<◌, length, arith}
use Rattle.flat_samples.proofs.ListLemmas.{chunks_more}
use Rattle.flat_samples.proofs.tables.chunks_of_samples.Goals as goal

pub loop-chunk-preserved : goal.loop-chunk-preserved
loop-chunk-preserved c =
    let within : c.loop-chunk.chunk < length c.args.counts.now = omega arith in
    cc (chunks_more c.args.counts.now c.loop-chunk.chunk within, c.in_ok-push_run.ensures.items, c.loop-chunk.invariant, c.from.ensures)
