-- The step of the writer is the step of the body.
use Rattle.vod_origin.proofs.StepReads.{stream_reads_in}
use Rattle.vod_origin.proofs.StreamLemmas.{stream_steps}
use Rattle.vod_origin.proofs.cursor.StreamBody.next.Goals as goal

pub returns-clause-steps : goal.returns-clause-steps
returns-clause-steps g c =
    let step = c.next.ensures in
    stream_steps c.args.self.now (record { plan = c.next.new.rows; writing = c.next.new.self }) c.requires.under_way step.rows
    (g.S.Store.content c.args.store.now) _ _ c.next.result c.requires.of (record {
      written = step.written;
      packets = step.packets;
      samples = rw step.rows at step.samples;
      judged = step.judged;
      bad = step.bad;
      counted = step.counted;
      left = rw step.rows at step.left;
      under_way = step.under_way;
      begun = step.begun;
      same = step.same;
    })

pub returns-clause-reads : goal.returns-clause-reads
returns-clause-reads g c =
    let step = c.next.ensures in
    stream_reads_in c.args.self.now (record { plan = c.next.new.rows; writing = c.next.new.self }) c.requires.under_way step.rows
    (g.S.Store.content c.args.store.now) _ _ _ _ c.next.result (record {
      written = step.written;
      packets = step.packets;
      samples = rw step.rows at step.samples;
      judged = step.judged;
      bad = step.bad;
      counted = step.counted;
      left = rw step.rows at step.left;
      under_way = step.under_way;
      begun = step.begun;
      same = step.same;
    }) step.log
