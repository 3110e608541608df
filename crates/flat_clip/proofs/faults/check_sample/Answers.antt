use Rattle.std.proofs.Common.{◌<◌, ◌≤◌, subst}
use Rattle.flat_clip.specs.Tracks.{placed_view}
use Rattle.flat_clip.proofs.PartLemmas.{row-long, row-out, row-sound}
use Rattle.flat_clip.proofs.faults.check_sample.Goals as goal

pub returns-then-size-gt16777216-clause-fault : goal.returns-then-size-gt16777216-clause-fault
returns-then-size-gt16777216-clause-fault c = λ other.
    rw (c.too_long.ensures.fault other) (row-long c.args.name.now c.args.file_size (placed_view c.args.sample.now) (subst (λ n. 16777216 < n) c.size.ensures c.if-size-gt16777216.true))

pub returns-then-not-fits-clause-fault : goal.returns-then-not-fits-clause-fault
returns-then-not-fits-clause-fault c = λ other.
    rw (c.out_of_file.ensures.fault other)
    (row-out c.args.name.now c.args.file_size (placed_view c.args.sample.now) (subst (λ n. n ≤ 16777216) c.size.ensures c.if-size-gt16777216.false)
    (rw (c.at.ensures, c.size-2.ensures) at (c.fits.ensures.beyond c.if-not-fits.true)))

pub returns-clause-sound : goal.returns-clause-sound
returns-clause-sound c =
    row-sound c.args.name.now c.args.file_size (placed_view c.args.sample.now) (subst (λ n. n ≤ 16777216) c.size.ensures c.if-size-gt16777216.false)
    (rw (c.at.ensures, c.size-2.ensures) at (c.fits.ensures.within c.if-not-fits.false))
