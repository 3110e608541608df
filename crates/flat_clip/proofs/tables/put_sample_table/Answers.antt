use Rattle.std.proofs.Common.{refl}
use Rattle.media_model.specs.Clip.{sample_table}
use Rattle.flat_clip.specs.Tracks.{description}
use Rattle.flat_clip.proofs.tables.put_sample_table.Goals as goal

pub returns : goal.returns
unfolding sample_table description
returns c =
    rw (c.in_ok-put_box.ensures, c.deref-6.ensures.value, c.into_vec-tables.ensures, c.in_ok-put_chunk_offsets.ensures, c.in_ok-put_sample_sizes.ensures, c.in_ok-put_chunk_runs.ensures, c.in_ok-put_sync_samples.ensures, c.in_ok-put_composition_offsets.ensures, c.in_ok-put_decode_times.ensures, c.in_ok-put_description.ensures, c.deref.ensures.value, c.deref-2.ensures.value, c.deref-3.ensures.value, c.deref-4.ensures.value, c.deref-5.ensures.value, c.new-tables.ensures) refl
