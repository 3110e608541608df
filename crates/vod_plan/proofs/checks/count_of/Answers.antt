-- Rows are counted piece by piece.
use Rattle.std.proofs.Common.{arith}
use Rattle.vod_plan.proofs.SpotLemmas.{piece_at, rows_before-more}
use Rattle.vod_plan.proofs.checks.count_of.Goals as goal

pub loop-piece-preserved : goal.loop-piece-preserved
loop-piece-preserved c =
    let here = piece_at c.args.pieces.now c.loop-piece.piece-index c.piece-item.result c.loop-piece-test.true c.piece-item.is in
    let more = rows_before-more c.args.kind c.args.pieces.now c.loop-piece.piece-index c.piece-item.result here in
    record {
      count = omega (arith, more, c.rows.ensures, c.from-count.ensures, c.loop-piece.invariant.count);
      few = omega (arith, c.from-count.ensures, c.loop-piece.invariant.few);
    }
