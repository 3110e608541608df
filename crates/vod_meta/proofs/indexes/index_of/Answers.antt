-- The checkpoints of a track, by what is kept of the tracks.
use Rattle.std.proofs.Common.{refl, sym, arith}
use Rattle.vod_meta.proofs.ShownLemmas.{view-usable, named-good, named-absent, named-faulty}
use Rattle.vod_meta.proofs.indexes.index_of.Goals as goal

pub checkpoints-requires : goal.checkpoints-requires
checkpoints-requires c = view-usable c.args.moov.now c.args.tracks.now c.requires c.args.track c.in-Ok.view c.in-Ok.ensures (omega (arith, c.timescale_of-fits.ensures.value, c.timescale_of-fits.ensures.fits))

pub returns-in_ok-checkpoints-in-Ok : goal.returns-in_ok-checkpoints-in-Ok
returns-in_ok-checkpoints-in-Ok c =
    let made = c.in_ok-checkpoints-in-Ok.ensures in
    rw (made.times, made.places, named-good c.args.moov.now c.args.tracks.now c.requires c.args.track c.in-Ok.view c.in-Ok.ensures) refl

pub returns-then-is_there : goal.returns-then-is_there
returns-then-is_there c = sym (named-faulty c.args.moov.now c.args.tracks.now c.requires c.args.track c.in-Err.fault c.in-Err.ensures (sym c.if-is_there.ensures))

pub returns-else-is_there : goal.returns-else-is_there
returns-else-is_there c = sym (named-absent c.args.moov.now c.args.tracks.now c.requires c.args.track c.in-Err.fault c.in-Err.ensures (sym c.if-is_there.ensures))
