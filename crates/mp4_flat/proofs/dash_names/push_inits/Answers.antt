use Rattle.std.proofs.Common.{map, filter}
use Rattle.vod_types.specs.declared.paths.Leaf.TheVariants.{Init}
use Rattle.list_model.specs.Names.{first_of_kind}
use Rattle.list_model.specs.Pack.{is_listed_of}
use Rattle.mp4_flat.proofs.NameLemmas.{joined_item}
use Rattle.mp4_flat.proofs.dash_names.push_inits.Goals as goal

pub loop-period-preserved : goal.loop-period-preserved
loop-period-preserved c =
    joined_item c.args.periods.now c.loop-period.period-index c.period-item.result c.args.names.now.items _ _ c.loop-period-test.true c.period-item.is
    (λ period. map (λ rep. Init period.part c.args.sequence (first_of_kind c.args.kind)) (filter (is_listed_of c.args.sequence c.args.kind) period.reps)) c.loop-period.invariant
    c.in_ok-push_period_inits.ensures.names
