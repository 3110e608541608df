-- All numbers are within the track.
use Rattle.std.proofs.Common.{true, arith}
use Rattle.vod_plan.proofs.SeekLemmas.{aligned_within, found_bound, kept_bound, past_within}
use Rattle.vod_plan.proofs.select.lead.Goals as goal

pub aligned-from-requires-clause-within : goal.aligned-from-requires-clause-within
aligned-from-requires-clause-within g c = λ r e.
    let kept = kept_bound c.args.kind r _ (c.first_kept-kept.ensures.value r e) in
    let found = found_bound c.args.kind r _ _ (c.found_at.ensures.value r e) in
    omega (arith, kept, found, c.max-first.ensures)

pub rows_from-requires-clause-from : goal.rows_from-requires-clause-from
rows_from-requires-clause-from g c = λ r e.
    let kept = kept_bound c.args.kind r _ (c.first_kept-kept.ensures.value r e) in
    let found = found_bound c.args.kind r _ _ (c.found_at.ensures.value r e) in
    let within = aligned_within true r c.max-first.result (omega (arith, kept, found, c.max-first.ensures)) in
    omega (arith, within, c.aligned-from.ensures.value r e)

pub rows_from-requires-clause-to : goal.rows_from-requires-clause-to
rows_from-requires-clause-to g c = λ r e. let past = past_within c.args.kind r c.args.piece.now.hi in omega (arith, past, c.found_past-to.ensures.value r e)
