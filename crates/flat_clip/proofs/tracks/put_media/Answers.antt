use Rattle.std.proofs.Common.{refl}
use Rattle.media_model.specs.Clip.{media}
use Rattle.flat_clip.specs.Tracks.{information}
use Rattle.flat_clip.proofs.tracks.put_media.Goals as goal

pub returns : goal.returns
unfolding media information
returns c =
    rw (c.in_ok-put_box.ensures, c.deref-2.ensures.value, c.into_vec-inside.ensures, c.in_ok-put_information.ensures, c.in_ok-put_handler.ensures, c.in_ok-put_media_header.ensures, c.track_duration.ensures.duration, c.deref.ensures.value, c.new-inside.ensures) refl
