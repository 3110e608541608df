-- What a sample is written as are whole packets.
use Rattle.ts_writer.proofs.PacketLemmas.{of_sample}
use Rattle.ts_writer.proofs.rows.write_sample.Goals as goal

pub returns-in-Ok-clause-packets : goal.returns-in-Ok-clause-packets
returns-in-Ok-clause-packets g c = of_sample _ _ c.args.packets.now _ _ _ _ _ c.put_row.ensures.written
