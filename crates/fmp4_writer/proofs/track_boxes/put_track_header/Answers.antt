use Rattle.std.proofs.Common.{append_assoc}
use Rattle.media_model.specs.InitSegment.{track_header}
use Rattle.fmp4_writer.proofs.track_boxes.put_track_header.Goals as goal

pub returns : goal.returns
unfolding track_header
returns c =
    rw (c.in_ok-u32-3.ensures.ok, c.in_ok-u32-2.ensures.ok, c.in_ok-put_matrix.ensures, c.in_ok-u16-2.ensures.ok, c.in_ok-u16.ensures.ok, c.in_ok-bytes-2.ensures.ok, c.in_ok-u32.ensures.ok, c.in_ok-bytes.ensures.ok, c.in_ok-put_full.ensures, c.from-2.ensures, c.from.ensures, c.volume_of.ensures, c.number_of.ensures) (simp append_assoc)
