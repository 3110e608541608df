use Rattle.std.proofs.Common.{refl}
use Rattle.media_model.specs.Clip.{decode_times}
use Rattle.flat_clip.proofs.tables.put_decode_times.Goals as goal

pub returns : goal.returns
unfolding decode_times
returns c =
    rw (c.in_ok-put_full_box.ensures, c.deref.ensures.value, c.into_vec-fields.ensures, c.in_ok-put_durations.ensures, c.in_ok-put_low.ensures, c.new-fields.ensures) refl
