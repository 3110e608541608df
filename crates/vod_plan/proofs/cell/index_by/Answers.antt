-- A seek counts the rows of the piece; without rows there are none before.
use Rattle.std.proofs.Common.{arith}
use Rattle.vod_plan.specs.Spans.{piece_view}
use Rattle.vod_plan.proofs.NarrowLemmas.{index_none}
use Rattle.vod_plan.proofs.SoundLemmas.{good_part}
use Rattle.vod_plan.proofs.cell.index_by.Goals as goal

pub returns-then-rows-eq0-clause-index : goal.returns-then-rows-eq0-clause-index
returns-then-rows-eq0-clause-index g c =
    index_none c.args.kind c.args.align c.args.time (piece_view c.args.piece.now) (good_part c.args.kind c.args.piece.now c.requires.piece) (omega (arith, c.rows.ensures, c.if-rows-eq0.true))
