-- The segments of the first cells stand behind others.
use Rattle.vod_plan.proofs.ListingSteps.{IsListing}
use Rattle.vod_plan.proofs.listed_part.ListedPart.list_cells.Given as goal

abbrev pub invariant-loop-k : goal.invariant-loop-k
invariant-loop-k g l = IsListing l.self l.initial.out.items l.others l.k l.from l.out.items l.fn.steps l.steps
