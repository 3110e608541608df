use Rattle.std.proofs.Common.{◌∙◌}
use Rattle.flat_lists.proofs.VariantLemmas.{streams_sound}
use Rattle.flat_lists.proofs.variants.streams_of.Goals as goal

pub master_lines-requires : goal.master_lines-requires
master_lines-requires c = streams_sound c.args.shown.now c.requires c.deref.result.now (c.deref.ensures.value ∙ c.in_ok-variants.ensures.variants)
