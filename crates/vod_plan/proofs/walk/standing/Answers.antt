-- The row at the cursors, if there is one.
use Rattle.std.proofs.Common.{arith, sym}
use Rattle.vod_plan.proofs.WalkLemmas.{all_given, at_cursors, behind-some, piece_within, range_here, there}
use Rattle.vod_plan.proofs.walk.standing.Goals as goal

pub range-requires : goal.range-requires
range-requires c =
    let k = c.args.kind in
    let ps = c.args.pieces.now in
    let at = at_cursors k ps c.args.walk c.in-Some.times c.in-Some.places c.requires.walk c.in-Some.is in
    record { some = there _ at.range (range_here k ps c.args.walk c.in-Some.times c.in-Some.places c.requires.walk c.in-Some.is c.index-pieces-walk.result c.index-pieces-walk.is) }

pub returns-then-times-range-clause-spot : goal.returns-then-times-range-clause-spot
returns-then-times-range-clause-spot c =
    let k = c.args.kind in
    let ps = c.args.pieces.now in
    let at = at_cursors k ps c.args.walk c.in-Some.times c.in-Some.places c.requires.walk c.in-Some.is in
    let to = c.range.ensures.to at.range (range_here k ps c.args.walk c.in-Some.times c.in-Some.places c.requires.walk c.in-Some.is c.index-pieces-walk.result c.index-pieces-walk.is) in
    record { at = at; left = omega (arith, to, c.if-times-range.true) }

pub returns-then-times-range-clause-behind : goal.returns-then-times-range-clause-behind
returns-then-times-range-clause-behind c =
    let k = c.args.kind in
    let ps = c.args.pieces.now in
    let within = piece_within k ps c.args.walk c.in-Some.times c.in-Some.places c.requires.walk c.in-Some.is in
    omega (arith, within, behind-some k ps c.args.walk c.in-Some.times c.in-Some.places c.requires.walk c.in-Some.is)

pub returns-clause-spot : goal.returns-clause-spot
returns-clause-spot c =
    let k = c.args.kind in
    let ps = c.args.pieces.now in
    let at = at_cursors k ps c.args.walk c.in-Some.times c.in-Some.places c.requires.walk c.in-Some.is in
    let to = c.range.ensures.to at.range (range_here k ps c.args.walk c.in-Some.times c.in-Some.places c.requires.walk c.in-Some.is c.index-pieces-walk.result c.index-pieces-walk.is) in
    all_given k ps c.args.walk c.in-Some.times c.in-Some.places c.requires.walk c.in-Some.is c.index-pieces-walk.result c.index-pieces-walk.is (λ lt. let h = c.if-times-range.false in omega (arith, h, to, lt))

pub returns-clause-behind : goal.returns-clause-behind
returns-clause-behind c =
    let k = c.args.kind in
    let ps = c.args.pieces.now in
    let within = piece_within k ps c.args.walk c.in-Some.times c.in-Some.places c.requires.walk c.in-Some.is in
    omega (arith, within, behind-some k ps c.args.walk c.in-Some.times c.in-Some.places c.requires.walk c.in-Some.is)

pub returns-then-times-range-clause-place : goal.returns-then-times-range-clause-place
returns-then-times-range-clause-place c = sym (behind-some c.args.kind c.args.pieces.now c.args.walk c.in-Some.times c.in-Some.places c.requires.walk c.in-Some.is)
