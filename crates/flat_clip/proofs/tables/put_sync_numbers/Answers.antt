use Rattle.std.proofs.Common.{refl, ◌∙◌}
use Rattle.media_model.specs.Clip.{sync_samples}
use Rattle.flat_clip.proofs.tables.put_sync_numbers.Goals as goal

pub returns : goal.returns
unfolding sync_samples
returns c =
    rw (c.in_ok-put_full_box.ensures, c.deref-2.ensures.value, c.into_vec-fields.ensures, c.in_ok-put_numbers.ensures, c.deref.ensures.value, c.in_ok-put_low.ensures, c.len.ensures ∙ c.in_ok-numbers.numbers.ok.0, c.in_ok-numbers.ensures, c.new-fields.ensures) refl
