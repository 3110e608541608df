use Rattle.std.proofs.Common.{append_assoc}
use Rattle.media_model.specs.InitSegment.{track_defaults}
use Rattle.fmp4_writer.proofs.track_boxes.put_track_defaults.Goals as goal

pub returns : goal.returns
unfolding track_defaults
returns c =
    rw (c.in_ok-bytes.ensures.ok, c.in_ok-u32-2.ensures.ok, c.in_ok-u32.ensures.ok, c.in_ok-put_full.ensures, c.number_of.ensures) (simp append_assoc)
