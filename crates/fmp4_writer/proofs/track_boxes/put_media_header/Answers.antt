use Rattle.std.proofs.Common.{append_assoc}
use Rattle.media_model.specs.InitSegment.{media_header}
use Rattle.fmp4_writer.proofs.track_boxes.put_media_header.Goals as goal

pub returns : goal.returns
unfolding media_header
returns c =
    rw (c.in_ok-u16-2.ensures.ok, c.in_ok-u16.ensures.ok, c.in_ok-u32-2.ensures.ok, c.in_ok-u32.ensures.ok, c.in_ok-bytes.ensures.ok, c.in_ok-put_full.ensures) (simp append_assoc)
