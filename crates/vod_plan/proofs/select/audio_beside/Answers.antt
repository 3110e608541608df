-- The rows of the video end within its track.
use Rattle.std.proofs.Common.{arith}
use Rattle.std.specs.Rc.{rc_value}
use Rattle.vod_types.specs.declared.tracks.Kind.TheVariants.{Video}
use Rattle.vod_plan.proofs.FoundSpans.{range_to}
use Rattle.vod_plan.proofs.SeekLemmas.{lead_within}
use Rattle.vod_plan.proofs.select.audio_beside.Goals as goal

pub first_place-first-requires-clause-within : goal.first_place-first-requires-clause-within
first_place-first-requires-clause-within g c = λ r e.
    let to = range_to (rc_value c.args.whole.now.meta).movie c.args.video.now _ (c.requires.video r e) in
    omega (arith, to, lead_within Video c.args.piece.now.lo c.args.piece.now.hi r)
