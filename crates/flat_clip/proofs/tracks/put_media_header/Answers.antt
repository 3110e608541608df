use Rattle.std.proofs.Common.{append_assoc}
use Rattle.media_model.specs.Clip.{media_header}
use Rattle.flat_clip.proofs.tracks.put_media_header.Goals as goal

pub returns : goal.returns
unfolding media_header
returns c =
    rw (c.in_ok-put_full_box.ensures, c.deref.ensures.value, c.into_vec-fields.ensures, c.in_ok-u16-2.ensures.ok, c.in_ok-u16.ensures.ok, c.in_ok-u64.ensures.ok, c.in_ok-u32.ensures.ok, c.in_ok-bytes.ensures.ok, c.new-fields.ensures) (simp append_assoc)
