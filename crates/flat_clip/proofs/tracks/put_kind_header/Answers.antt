use Rattle.std.proofs.Common.{refl}
use Rattle.media_model.specs.InitSegment.{kind_header}
use Rattle.flat_clip.proofs.tracks.put_kind_header.Goals as goal

pub returns-in_ok-put_full_box-in-Video : goal.returns-in_ok-put_full_box-in-Video
unfolding kind_header
returns-in_ok-put_full_box-in-Video c = rw (c.in-Video.is, c.in_ok-put_full_box-in-Video.ensures) refl

pub returns-in_ok-put_full_box-in-Audio : goal.returns-in_ok-put_full_box-in-Audio
unfolding kind_header
returns-in_ok-put_full_box-in-Audio c = rw (c.in-Audio.is, c.in_ok-put_full_box-in-Audio.ensures) refl
