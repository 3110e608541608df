use Rattle.std.proofs.Common.{append_assoc}
use Rattle.media_model.specs.Fragment.{decode_time}
use Rattle.fmp4_writer.proofs.front.put_decode_time.Goals as goal

pub returns-clause-items : goal.returns-clause-items
unfolding decode_time
returns-clause-items c =
    rw (c.put_u64.ensures.items, c.time_bits.ensures, c.put_u32-2.ensures.items, c.put_bytes.ensures.items, c.put_u32.ensures.items) (simp append_assoc)
