use Rattle.std.proofs.Common.{append_assoc}
use Rattle.media_model.specs.Clip.{movie_header}
use Rattle.flat_clip.proofs.front.put_movie_header.Goals as goal

pub returns : goal.returns
unfolding movie_header
returns c =
    rw (c.in_ok-put_full_box.ensures, c.deref.ensures.value, c.into_vec-fields.ensures, c.in_ok-u32-3.ensures.ok, c.in_ok-bytes-3.ensures.ok, c.in_ok-put_matrix.ensures, c.in_ok-bytes-2.ensures.ok, c.in_ok-u16.ensures.ok, c.in_ok-u32-2.ensures.ok, c.in_ok-u64.ensures.ok, c.in_ok-u32.ensures.ok, c.in_ok-bytes.ensures.ok, c.new-fields.ensures) (simp append_assoc)
