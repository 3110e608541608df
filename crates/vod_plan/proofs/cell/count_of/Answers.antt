-- Rows are counted piece by piece.
use Rattle.std.proofs.Common.{length, ap, arith}
use Rattle.vod_plan.proofs.PlaceLemmas.{count_step, rest_end}
use Rattle.vod_plan.proofs.SoundLemmas.{sound_at}
use Rattle.vod_plan.proofs.cell.count_of.Goals as goal

pub loop-piece-preserved : goal.loop-piece-preserved
loop-piece-preserved c =
    let ps = c.args.pieces.now in
    let i = c.loop-piece.piece-index in
    let p = c.piece-item.result in
    let step = count_step c.args.kind ps i p (omega arith) c.piece-item.is (sound_at ps i p c.requires.pieces (omega arith) c.piece-item.is) in
    record {
      count = omega (arith, step, c.rows.ensures, c.from-count.ensures, c.loop-piece.invariant.count);
      small = omega (arith, c.from-count.ensures, c.loop-piece.invariant.small);
    }

pub returns-clause-count : goal.returns-clause-count
returns-clause-count c = let none = ap length (rest_end c.args.kind c.args.pieces.now c.loop-piece.piece-index (omega (arith, c.loop-piece-test.false))) in omega (arith, none, c.loop-piece.invariant.count)
