-- The row of a walk is the one at its spot.
use Rattle.std.proofs.Common.{Some, sym, ap, ◌∙◌, arith}
use Rattle.vod_plan.proofs.RangeLemmas.{planned-row}
use Rattle.vod_plan.proofs.SpotLemmas.{good_range, plan_piece}
use Rattle.vod_plan.proofs.WalkLemmas.{spot_piece, spot_range, spot_view, step_on}
use Rattle.vod_plan.proofs.walk.due_at.Goals as goal

pub row_at-due-requires-clause-next : goal.row_at-due-requires-clause-next
row_at-due-requires-clause-next g c =
    let spot = c.entered-spot.ensures.spot in
    record {
      range = spot.at.range;
      is_range = spot_range c.args.kind c.args.pieces.now c.args.walk c.entered-spot.result spot c.index-pieces-spot.result c.index-pieces-spot.is;
      inside = spot.at.inside;
      left = spot.left;
    }

pub returns-clause-row : goal.returns-clause-row
returns-clause-row g c =
    let k = c.args.kind in
    let ps = c.args.pieces.now in
    let w = c.args.walk in
    let s = c.entered-spot.result in
    let spot = c.entered-spot.ensures.spot in
    let p = c.index-pieces-spot.result in
    let is = c.index-pieces-spot.is in
    let range = spot_range k ps w s spot p is in
    let good = good_range k p spot.at.range (plan_piece ps s.piece p c.requires.pieces (spot_piece k ps w s spot p is)) range in
    planned-row k ps s.piece _ spot.at.range w.given s.times.row c.requires.pieces (spot_view k ps w s spot p is) range good spot.at.inside.from spot.left spot.at.next
    ∙ ap Some (sym (c.row_at-due.ensures.row spot.at.range range))

pub returns-clause-walk : goal.returns-clause-walk
returns-clause-walk g c =
    let k = c.args.kind in
    let ps = c.args.pieces.now in
    let w = c.args.walk in
    let s = c.entered-spot.result in
    let spot = c.entered-spot.ensures.spot in
    let p = c.index-pieces-spot.result in
    let is = c.index-pieces-spot.is in
    let range = spot_range k ps w s spot p is in
    rw c.row_at-due.ensures.same
    (step_on k ps w s spot p is c.row_at-due.new.spot.times c.row_at-due.new.spot.places c.requires.walk c.requires.left (c.row_at-due.ensures.inside spot.at.range range) c.row_at-due.ensures.next)

pub returns-clause-looks : goal.returns-clause-looks
returns-clause-looks g c = omega (arith, c.entered-spot.ensures.looks, c.row_at-due.ensures.looks, c.row_at-due.ensures.same)
