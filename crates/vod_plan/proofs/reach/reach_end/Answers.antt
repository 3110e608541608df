-- No row is left.
use Rattle.vod_plan.proofs.ListingReaches.{end_reached}
use Rattle.vod_plan.proofs.reach.reach_end.Goals as goal

pub returns-clause-reached : goal.returns-clause-reached
returns-clause-reached c = end_reached c.args.kind c.args.pieces.now c.count_of.result c.count_of.ensures.small c.count_of.ensures.count
