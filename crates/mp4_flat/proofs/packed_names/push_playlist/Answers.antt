use Rattle.std.proofs.Common.{false}
use Rattle.list_model.specs.Names.{IsLeafOf}
use Rattle.mp4_flat.proofs.NameLemmas.{each_more, inits_named, on_both, on_mapped}
use Rattle.mp4_flat.proofs.packed_names.push_playlist.Goals as goal

pub returns-clause-each : goal.returns-clause-each
returns-clause-each c =
    on_mapped c.push_segments.result
    (λ kept all. kept false c.segment_form.ensures.of (each_more (IsLeafOf false) c.args.names.now.items _ _ c.in_ok-push_named_inits.ensures.names (inits_named false c.args.sequence c.args.asked c.requires.sequence c.requires.asked c.args.fmp4 c.args.rows.now c.requires.parts) all))
    c.push_segments.ensures.each
