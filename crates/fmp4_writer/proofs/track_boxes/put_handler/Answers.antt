use Rattle.std.proofs.Common.{append_assoc}
use Rattle.media_model.specs.InitSegment.{handler}
use Rattle.fmp4_writer.proofs.track_boxes.put_handler.Goals as goal

pub returns-in_ok-bytes-in-Video-2 : goal.returns-in_ok-bytes-in-Video-2
unfolding handler
returns-in_ok-bytes-in-Video-2 c =
    rw (c.in-Video.is, c.in_ok-bytes-in-Video-2.ensures.ok, c.in_ok-bytes-in-Video.ensures.ok, c.in_ok-u32.ensures.ok, c.in_ok-put_full.ensures) (simp append_assoc)

pub returns-in_ok-bytes-in-Audio-2 : goal.returns-in_ok-bytes-in-Audio-2
unfolding handler
returns-in_ok-bytes-in-Audio-2 c =
    rw (c.in-Audio.is, c.in_ok-bytes-in-Audio-2.ensures.ok, c.in_ok-bytes-in-Audio.ensures.ok, c.in_ok-u32.ensures.ok, c.in_ok-put_full.ensures) (simp append_assoc)
