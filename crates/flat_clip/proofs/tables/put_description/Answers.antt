use Rattle.std.proofs.Common.{refl}
use Rattle.flat_clip.specs.Tracks.{description}
use Rattle.flat_clip.proofs.tables.put_description.Goals as goal

pub returns : goal.returns
unfolding description
returns c =
    rw (c.in_ok-put_full_box.ensures, c.deref.ensures.value, c.into_vec-fields.ensures, c.in_ok-put_entry.ensures, c.in_ok-u32.ensures.ok, c.new-fields.ensures) refl
