-- The row that is reached is one of its piece.
use Rattle.std.proofs.Common.{◌≡◌, ℤ, Some, w64, of_z, to_z, length, refl, ap, ◌∙◌, arith}
use Rattle.std.proofs.lemmas.Int.{ints}
use Rattle.std.proofs.lemmas.Option.{slice_get_read}
use Rattle.vod_plan.proofs.ListingReaches.{time_reached}
use Rattle.vod_plan.proofs.SoundLemmas.{sound_at}
use Rattle.vod_plan.proofs.iframe_marks.time_there.Goals as goal

pub time_at-requires-clause-within : goal.time_at-requires-clause-within
time_at-requires-clause-within g c =
    let ps = c.args.pieces.now in
    let p = c.index-pieces-at.result in
    c.requires.at.row p (slice_get_read ps (length ps) c.args.at.piece p refl c.requires.there c.index-pieces-at.is)

pub returns-clause-time : goal.returns-clause-time
returns-clause-time g c =
    let ps = c.args.pieces.now in
    let p = c.index-pieces-at.result in
    let same : to_z w64 (of_z w64 c.time_at.result) ≡ c.time_at.result = omega (arith, ints, c.time_at.ensures.bound) in
    ap (λ (t : ℤ). Some t) same
    ∙ time_reached c.args.kind ps c.args.at.piece p c.requires.there c.index-pieces-at.is (sound_at ps c.args.at.piece p c.requires.pieces c.requires.there c.index-pieces-at.is) c.args.at c.time_at.result refl
    c.requires.at.front (c.requires.at.row p (slice_get_read ps (length ps) c.args.at.piece p refl c.requires.there c.index-pieces-at.is)) c.time_at.ensures.time
