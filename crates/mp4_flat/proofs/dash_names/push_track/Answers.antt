use Rattle.std.proofs.Common.{true}
use Rattle.list_model.specs.Names.{IsLeafOf}
use Rattle.mp4_flat.proofs.NameLemmas.{each_more, on_both, on_mapped, periods_named}
use Rattle.mp4_flat.proofs.dash_names.push_track.Goals as goal

pub returns-clause-names : goal.returns-clause-names
returns-clause-names c = on_both c.push_fragments.result c.args.names.now.items _ _ _ _ c.in_ok-push_inits.ensures.names c.push_fragments.ensures.names

pub returns-clause-each : goal.returns-clause-each
returns-clause-each c =
    on_mapped c.push_fragments.result
    (λ kept all. kept (each_more (IsLeafOf true) c.args.names.now.items _ _ c.in_ok-push_inits.ensures.names (periods_named c.args.sequence c.args.kind c.requires.sequence c.args.periods.now c.requires.periods) all))
    c.push_fragments.ensures.each
