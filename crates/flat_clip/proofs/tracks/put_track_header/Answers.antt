use Rattle.std.proofs.Common.{append_assoc}
use Rattle.media_model.specs.Clip.{track_header}
use Rattle.flat_clip.proofs.tracks.put_track_header.Goals as goal

pub returns : goal.returns
unfolding track_header
returns c =
    rw (c.in_ok-put_full_box.ensures, c.deref.ensures.value, c.into_vec-fields.ensures, c.in_ok-u32-4.ensures.ok, c.in_ok-u32-3.ensures.ok, c.in_ok-put_matrix.ensures, c.in_ok-u16-2.ensures.ok, c.in_ok-u16.ensures.ok, c.in_ok-bytes-2.ensures.ok, c.in_ok-u64.ensures.ok, c.in_ok-u32-2.ensures.ok, c.in_ok-u32.ensures.ok, c.in_ok-bytes.ensures.ok, c.from-2.ensures, c.from.ensures, c.volume_of.ensures, c.number_of.ensures, c.new-fields.ensures) (simp append_assoc)
