use Rattle.std.proofs.Common.{append_assoc}
use Rattle.media_model.specs.InitSegment.{file_type}
use Rattle.fmp4_writer.proofs.movie.put_file_type.Goals as goal

pub returns : goal.returns
unfolding file_type
returns c =
    rw (c.in_ok-bytes-2.ensures.ok, c.in_ok-u32-2.ensures.ok, c.in_ok-bytes.ensures.ok, c.in_ok-u32.ensures.ok) (simp append_assoc)
