use Rattle.std.proofs.Common.{refl}
use Rattle.flat_clip.specs.Tracks.{information}
use Rattle.flat_clip.proofs.tracks.put_information.Goals as goal

pub returns : goal.returns
unfolding information
returns c =
    rw (c.in_ok-put_box.ensures, c.deref.ensures.value, c.into_vec-inside.ensures, c.in_ok-put_sample_table.ensures, c.in_ok-put_data_information.ensures, c.in_ok-put_kind_header.ensures, c.new-inside.ensures) refl
