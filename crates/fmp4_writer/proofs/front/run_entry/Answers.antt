use Rattle.std.proofs.Common.{refl}
use Rattle.media_model.specs.Fragment.{run_entry}
use Rattle.fmp4_writer.proofs.front.run_entry.Goals as goal

pub returns : goal.returns
unfolding run_entry
returns c =
    rw (c.put_u32-4.ensures.items, c.offset.ensures, c.put_u32-3.ensures.items, c.flags.ensures, c.put_u32-2.ensures.items, c.put_u32.ensures.items, c.duration.ensures, c.new-fields.ensures) refl
