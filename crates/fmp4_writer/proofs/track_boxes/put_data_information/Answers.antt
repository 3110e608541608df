use Rattle.std.proofs.Common.{append_assoc}
use Rattle.media_model.specs.InitSegment.{data_information}
use Rattle.fmp4_writer.proofs.track_boxes.put_data_information.Goals as goal

pub returns : goal.returns
unfolding data_information
returns c =
    rw (c.in_ok-put_full-2.ensures, c.in_ok-u32-2.ensures.ok, c.in_ok-put_full.ensures, c.in_ok-bytes.ensures.ok, c.in_ok-u32.ensures.ok) (simp append_assoc)
