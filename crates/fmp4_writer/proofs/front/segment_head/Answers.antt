use Rattle.std.proofs.Common.{refl}
use Rattle.media_model.specs.Fragment.{segment_type}
use Rattle.fmp4_writer.proofs.front.segment_head.Goals as goal

pub returns : goal.returns
unfolding segment_type
returns c =
    rw (c.put_u32-6.ensures.items, c.put_u32-5.ensures.items, c.put_bytes-4.ensures.items, c.put_u32-4.ensures.items, c.put_bytes-3.ensures.items, c.put_u32-3.ensures.items, c.put_bytes-2.ensures.items, c.put_u32-2.ensures.items, c.put_bytes.ensures.items, c.put_u32.ensures.items, c.new-fields.ensures) refl
