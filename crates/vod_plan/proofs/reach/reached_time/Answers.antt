-- The row that is reached is one of its piece.
use Rattle.std.proofs.Common.{◌≡◌, ◌<◌, ℤ, Some, w64, of_z, to_z, length, refl, ap, ◌∙◌, arith}
use Rattle.std.proofs.lemmas.Int.{ints}
use Rattle.std.proofs.lemmas.Option.{slice_get_read}
use Rattle.vod_plan.proofs.ListingReaches.{time_behind, time_reached}
use Rattle.vod_plan.proofs.SoundLemmas.{sound_at}
use Rattle.vod_plan.proofs.reach.reached_time.Goals as goal

pub returns-then-reach-pieces-clause-time : goal.returns-then-reach-pieces-clause-time
returns-then-reach-pieces-clause-time g c = time_behind c.args.kind c.args.pieces.now c.args.reach c.if-reach-pieces.true c.requires.reached.front

pub time_at-requires-clause-within : goal.time_at-requires-clause-within
time_at-requires-clause-within g c =
    let ps = c.args.pieces.now in
    let p = c.index-pieces-reach.result in
    let lt : c.args.reach.piece < length ps = omega (arith, c.if-reach-pieces.false) in
    c.requires.reached.row p (slice_get_read ps (length ps) c.args.reach.piece p refl lt c.index-pieces-reach.is)

pub returns-clause-time : goal.returns-clause-time
returns-clause-time g c =
    let ps = c.args.pieces.now in
    let p = c.index-pieces-reach.result in
    let lt : c.args.reach.piece < length ps = omega (arith, c.if-reach-pieces.false) in
    let same : to_z w64 (of_z w64 c.time_at.result) ≡ c.time_at.result = omega (arith, ints, c.time_at.ensures.bound) in
    ap (λ (t : ℤ). Some t) same
    ∙ time_reached c.args.kind ps c.args.reach.piece p lt c.index-pieces-reach.is (sound_at ps c.args.reach.piece p c.requires.pieces lt c.index-pieces-reach.is) c.args.reach c.time_at.result refl
    c.requires.reached.front (c.requires.reached.row p (slice_get_read ps (length ps) c.args.reach.piece p refl lt c.index-pieces-reach.is)) c.time_at.ensures.time
