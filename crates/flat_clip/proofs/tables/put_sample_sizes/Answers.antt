use Rattle.std.proofs.Common.{refl}
use Rattle.media_model.specs.Clip.{sample_sizes}
use Rattle.flat_clip.proofs.tables.put_sample_sizes.Goals as goal

pub returns : goal.returns
unfolding sample_sizes
returns c =
    rw (c.in_ok-put_full_box.ensures, c.deref.ensures.value, c.into_vec-fields.ensures, c.in_ok-put_sizes.ensures, c.in_ok-put_low.ensures, c.in_ok-u32.ensures.ok, c.new-fields.ensures) refl
