use Rattle.std.proofs.Common.{append_assoc}
use Rattle.media_model.specs.Clip.{media_data_header}
use Rattle.flat_clip.proofs.front.put_media_data_header.Goals as goal

pub returns : goal.returns
unfolding media_data_header
returns c =
    rw (c.in_ok-u64.ensures.ok, c.in_ok-bytes.ensures.ok, c.in_ok-u32.ensures.ok) (simp append_assoc)
