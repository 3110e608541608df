use Rattle.std.proofs.Common.{refl}
use Rattle.media_model.specs.Clip.{chunk_runs}
use Rattle.flat_clip.proofs.tables.put_chunk_runs.Goals as goal

pub returns : goal.returns
unfolding chunk_runs
returns c =
    rw (c.in_ok-put_full_box.ensures, c.deref.ensures.value, c.into_vec-fields.ensures, c.in_ok-u32-4.ensures.ok, c.in_ok-u32-3.ensures.ok, c.in_ok-u32-2.ensures.ok, c.in_ok-u32.ensures.ok, c.new-fields.ensures) refl
