use Rattle.flat_lists.proofs.ListedCells.{IsListing}
use Rattle.flat_lists.proofs.listed_part.ListedPart.list.Given as goal

abbrev pub invariant-loop-k : goal.invariant-loop-k
invariant-loop-k l = IsListing l.self l.initial.out.items l.others l.k l.from l.out.items
