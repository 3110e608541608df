use Rattle.std.proofs.Common.{append_assoc}
use Rattle.media_model.specs.InitSegment.{kind_header}
use Rattle.fmp4_writer.proofs.track_boxes.put_kind_header.Goals as goal

pub returns-in_ok-bytes-in-Video : goal.returns-in_ok-bytes-in-Video
unfolding kind_header
returns-in_ok-bytes-in-Video c =
    rw (c.in-Video.is, c.in_ok-bytes-in-Video.ensures.ok, c.in_ok-put_full-in-Video.ensures) (simp append_assoc)

pub returns-in_ok-u32-in-Audio : goal.returns-in_ok-u32-in-Audio
unfolding kind_header
returns-in_ok-u32-in-Audio c =
    rw (c.in-Audio.is, c.in_ok-u32-in-Audio.ensures.ok, c.in_ok-put_full-in-Audio.ensures) (simp append_assoc)
