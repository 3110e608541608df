use Rattle.std.proofs.Common.{append_assoc}
use Rattle.media_model.specs.InitSegment.{movie_header}
use Rattle.fmp4_writer.proofs.track_boxes.put_movie_header.Goals as goal

pub returns : goal.returns
unfolding movie_header
returns c =
    rw (c.in_ok-u32-4.ensures.ok, c.in_ok-bytes-3.ensures.ok, c.in_ok-put_matrix.ensures, c.in_ok-bytes-2.ensures.ok, c.in_ok-u16.ensures.ok, c.in_ok-u32-3.ensures.ok, c.in_ok-u32-2.ensures.ok, c.in_ok-u32.ensures.ok, c.in_ok-bytes.ensures.ok, c.in_ok-put_full.ensures) (simp append_assoc)
