-- The count of sync rows fits, and the pieces stay the same.
use Rattle.std.proofs.Common.{◌≤◌, map, arith}
use Rattle.vod_plan.specs.Spans.{piece_view}
use Rattle.vod_plan.proofs.LoneIframes.{syncs_low}
use Rattle.vod_plan.proofs.SoundLemmas.{pieces-trans}
use Rattle.vod_plan.proofs.lone_iframe.cut_to_sync.Goals as goal

pub overflow_cast-result : goal.overflow_cast-result
overflow_cast-result g c =
    let low : c.in-Err.have ≤ 200000 = syncs_low c.args.leads (map piece_view c.args.pieces.now) c.in-Err.have c.requires.rows c.in-Err.ensures.none.1 in
    omega (arith, low)

pub returns-in-Ok-clause-same : goal.returns-in-Ok-clause-same
returns-in-Ok-clause-same g c = pieces-trans c.args.pieces.now c.cut_to_row.new.pieces c.cut_by_number.new.pieces c.cut_to_row.ensures.same c.cut_by_number.ensures.same
