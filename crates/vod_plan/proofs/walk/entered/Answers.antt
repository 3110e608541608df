-- The next row is the first one of the next piece that has rows.
use Rattle.std.proofs.Common.{◌≡◌, ◌<◌, length, sym, ap, ◌∙◌, arith}
use Rattle.vod_plan.specs.Spans.{rows_before}
use Rattle.vod_plan.proofs.SpotLemmas.{piece_at}
use Rattle.vod_plan.proofs.WalkLemmas.{at_first, before_end, views}
use Rattle.vod_plan.proofs.walk.entered.Goals as goal

pub returns-clause-spot : goal.returns-clause-spot
returns-clause-spot g c =
    let k = c.args.kind in
    let ps = c.args.pieces.now in
    let piece = c.next_piece-piece.result in
    let before : c.args.walk.given ≡ rows_before k (views k ps) piece = c.in_default.ensures.spot ∙ ap (rows_before k (views k ps)) (sym c.behind.ensures) ∙ sym c.next_piece-piece.ensures.same in
    let inside : piece < length ps = before_end k ps c.args.walk piece c.requires.walk c.requires.left before c.next_piece-piece.ensures.within in
    let here = piece_at ps piece c.index-pieces-piece.result inside c.index-pieces-piece.is in
    let some = c.next_piece-piece.ensures.some c.index-pieces-piece.result here in
    let place = c.begin.ensures.place in
    at_first k ps c.args.walk.given c.begin.result c.index-pieces-piece.result (rw place here) some (rw place before) c.begin.ensures.inside c.begin.ensures.first

pub returns-clause-looks : goal.returns-clause-looks
returns-clause-looks g c = omega (arith, c.begin.ensures.looks, c.begin.ensures.place, c.next_piece-piece.ensures.later, c.behind.ensures)
