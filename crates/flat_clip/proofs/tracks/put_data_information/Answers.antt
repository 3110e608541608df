use Rattle.std.proofs.Common.{refl}
use Rattle.media_model.specs.InitSegment.{data_information}
use Rattle.flat_clip.proofs.tracks.put_data_information.Goals as goal

pub returns : goal.returns
unfolding data_information
returns c =
    rw (c.in_ok-put_box.ensures) refl
