-- All numbers are within the track.
use Rattle.std.proofs.Common.{arith}
use Rattle.vod_plan.proofs.SeekLemmas.{found_bound, kept_bound, past_within}
use Rattle.vod_plan.proofs.select.other.Goals as goal

pub rows_from-requires-clause-from : goal.rows_from-requires-clause-from
rows_from-requires-clause-from g c = λ r e. kept_bound c.args.kind r _ (c.first_kept-kept.ensures.value r e)

pub rows_from-requires-clause-to : goal.rows_from-requires-clause-to
rows_from-requires-clause-to g c = λ r e. kept_bound c.args.kind r _ (c.first_kept-kept.ensures.value r e)

pub rows_from-requires-2-clause-from : goal.rows_from-requires-2-clause-from
rows_from-requires-2-clause-from g c = λ r e.
    let kept = kept_bound c.args.kind r _ (c.first_kept-kept.ensures.value r e) in
    let found = found_bound c.args.kind r _ _ (c.found_at.ensures.value r e) in
    omega (arith, kept, found, c.max-from.ensures)

pub rows_from-requires-2-clause-to : goal.rows_from-requires-2-clause-to
rows_from-requires-2-clause-to g c = λ r e. let past = past_within c.args.kind r c.args.hi in omega (arith, past, c.found_past-to.ensures.value r e)
