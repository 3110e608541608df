-- One more, or all.
use Rattle.flat_lists.proofs.RepLemmas.{on_ok}
use Rattle.seek_lists.proofs.reps.add_reps.Goals as goal

pub returns-clause-each : goal.returns-clause-each
returns-clause-each g c = on_ok c.add_rep-2.result _ _ _ c.in_ok-add_rep.ensures.each c.add_rep-2.ensures.each
