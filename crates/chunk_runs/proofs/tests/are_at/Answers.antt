use Rattle.std.proofs.Common.{◌+◌}
use Rattle.chunk_runs.specs.Cursors.{StandsAt}
use Rattle.chunk_runs.proofs.tests.are_at.Goals as goal

pub loop-i-init : goal.loop-i-init
unfolding StandsAt
loop-i-init g c = record { row = c.cursor-cursor.ensures.stands.0; stands = c.cursor-cursor.ensures.stands }

pub loop-i-preserved : goal.loop-i-preserved
unfolding StandsAt
loop-i-preserved g c =
    let stands : StandsAt c.new-runs.result.tables (c.loop-i.i + 1) c.next.new.self = rw (← c.loop-i.invariant.row) c.next.ensures.stands in
    record { row = stands.0; stands = stands }
