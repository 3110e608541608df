use Rattle.std.proofs.Common.{refl}
use Rattle.media_model.specs.Clip.{file_type}
use Rattle.flat_clip.proofs.front.put_file_type.Goals as goal

pub returns : goal.returns
unfolding file_type
returns c =
    rw (c.in_ok-put_box.ensures) refl
