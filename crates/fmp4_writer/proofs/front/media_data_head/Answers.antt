use Rattle.std.proofs.Common.{refl}
use Rattle.media_model.specs.Fragment.{media_data_header}
use Rattle.fmp4_writer.proofs.front.media_data_head.Goals as goal

pub returns : goal.returns
unfolding media_data_header
returns c =
    rw (c.put_bytes.ensures.items, c.put_u32.ensures.items, c.new-fields.ensures) refl
