use Rattle.std.proofs.Common.{refl}
use Rattle.media_model.specs.Clip.{clip_front}
use Rattle.flat_clip.proofs.front.front_of.Goals as goal

pub returns : goal.returns
unfolding clip_front
returns c =
    rw (c.into_vec.ensures, c.in_ok-put_media_data_header.ensures, c.in_ok-put_movie.ensures, c.in_ok-put_file_type.ensures, c.new-buf.ensures, c.requires.bytes) refl
