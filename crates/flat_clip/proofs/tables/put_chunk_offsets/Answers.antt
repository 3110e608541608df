use Rattle.std.proofs.Common.{refl}
use Rattle.media_model.specs.Clip.{chunk_offsets}
use Rattle.flat_clip.proofs.tables.put_chunk_offsets.Goals as goal

pub returns : goal.returns
unfolding chunk_offsets
returns c =
    rw (c.in_ok-put_full_box.ensures, c.deref.ensures.value, c.into_vec-fields.ensures, c.in_ok-put_places.ensures, c.in_ok-put_low.ensures, c.new-fields.ensures) refl
