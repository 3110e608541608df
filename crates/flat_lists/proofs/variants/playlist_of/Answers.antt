use Rattle.std.proofs.Common.{◌∙◌}
use Rattle.flat_lists.proofs.VariantLemmas.{playlist-is, renditions_sound, variants_fit, variants_sound}
use Rattle.flat_lists.proofs.variants.playlist_of.Goals as goal

pub master-requires-clause-variants : goal.master-requires-clause-variants
master-requires-clause-variants c = variants_sound _ c.args.shown.now c.requires c.has_group-group.result c.deref.result.now (c.deref.ensures.value ∙ c.in_ok-variants.ensures.variants)

pub master-requires-clause-bandwidths : goal.master-requires-clause-bandwidths
master-requires-clause-bandwidths c = variants_fit _ c.args.shown.now c.requires c.has_group-group.result c.deref.result.now (c.deref.ensures.value ∙ c.in_ok-variants.ensures.variants)

pub master-requires-clause-audio : goal.master-requires-clause-audio
master-requires-clause-audio c =
    renditions_sound _ c.args.shown.now c.requires c.args.mapping.now c.has_group-group.result c.deref-2.result.now (c.deref-2.ensures.value ∙ c.in_ok-audio.ensures.renditions)

pub returns-in-Ok-clause-text : goal.returns-in-Ok-clause-text
returns-in-Ok-clause-text c =
    playlist-is c.args.mapping.now c.in-Ok.text.items c.has_group-group.result c.args.shown.now c.deref.result.now c.deref-2.result.now c.has_group-group.ensures
    (c.deref.ensures.value ∙ c.in_ok-variants.ensures.variants) (c.deref-2.ensures.value ∙ c.in_ok-audio.ensures.renditions) c.in-Ok.ensures
