-- Rows are counted piece by piece.
use Rattle.std.proofs.Common.{length, arith}
use Rattle.std.proofs.lemmas.Option.{slice_get_within}
use Rattle.vod_plan.proofs.SpotLemmas.{piece_at, rows_before-more}
use Rattle.vod_plan.proofs.walk.next_piece.Goals as goal

pub loop-piece-preserved : goal.loop-piece-preserved
loop-piece-preserved c =
    let here = piece_at c.args.pieces.now c.loop-piece.piece c.index-pieces-piece.result c.loop-piece-test.true c.index-pieces-piece.is in
    let more = rows_before-more c.args.kind c.args.pieces.now c.loop-piece.piece c.index-pieces-piece.result here in
    let none = c.if-rows-gt0.false in
    omega (arith, more, c.rows.ensures, none, c.loop-piece.invariant)

pub returns-clause-some : goal.returns-clause-some
returns-clause-some c = λ p e. let lt = slice_get_within c.args.pieces.now (length c.args.pieces.now) p e in absurd (omega (arith, lt))
