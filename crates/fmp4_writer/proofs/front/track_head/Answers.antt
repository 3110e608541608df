use Rattle.std.proofs.Common.{refl}
use Rattle.media_model.specs.Fragment.{track_fragment_header, decode_time}
use Rattle.fmp4_writer.specs.Front.{run_head, track_fragment_head}
use Rattle.fmp4_writer.proofs.front.track_head.Goals as goal

pub returns : goal.returns
unfolding track_fragment_header decode_time run_head track_fragment_head
returns c =
    rw (c.put_u32-8.ensures.items, c.put_u32-7.ensures.items, c.put_u32-6.ensures.items, c.put_bytes-3.ensures.items, c.put_u32-5.ensures.items, c.put_decode_time.ensures.items, c.put_u32-4.ensures.items, c.put_u32-3.ensures.items, c.put_bytes-2.ensures.items, c.put_u32-2.ensures.items, c.put_bytes.ensures.items, c.put_u32.ensures.items, c.new-fields.ensures) refl
