-- The view of a track, as the movie's invariant has it.
use Rattle.std.proofs.Common.{◌≡◌, Ok, Err, subst}
use Rattle.mp4_tracks.specs.Views.{IsViewOf}
use Rattle.flat_samples.specs.Movies.{HeldMovie}
use Rattle.flat_samples.specs.Shown.{view_in_file}
use Rattle.flat_samples.proofs.ShownLemmas.{view-ok, view-err, view-sound, fault-fits}
use Rattle.flat_samples.proofs.tracks.view_of.Goals as goal

pub in_file-requires : goal.in_file-requires
in_file-requires c =
    fault-fits c.movie.inside.place c.movie.inside.moov.items c.movie.inside.tracks c.movie.invariant c.args.track c.in-Err.fault (rw c.deref.ensures.value at c.in-Err.ensures)

pub returns-in-Ok-clause-view : goal.returns-in-Ok-clause-view
returns-in-Ok-clause-view c =
    subst (λ (m : HeldMovie). IsViewOf (view_in_file m.movie c.args.track) (Ok c.in-Ok.view)) c.movie.view_is
    (view-ok c.movie.inside.place c.movie.inside.moov.items c.movie.inside.tracks c.movie.invariant c.args.track c.in-Ok.view (rw c.deref.ensures.value at c.in-Ok.ensures))

pub returns-in-Ok-clause-sound : goal.returns-in-Ok-clause-sound
returns-in-Ok-clause-sound c =
    view-sound c.movie.inside.place c.movie.inside.moov.items c.movie.inside.tracks c.movie.invariant c.args.track c.in-Ok.view (rw c.deref.ensures.value at c.in-Ok.ensures)

pub returns-in-Err-clause-view : goal.returns-in-Err-clause-view
returns-in-Err-clause-view c =
    subst (λ (m : HeldMovie). view_in_file m.movie c.args.track ≡ Err c.in_file.result) c.movie.view_is
    (view-err c.movie.inside.place c.movie.inside.moov.items c.movie.inside.tracks c.movie.invariant c.args.track c.in-Err.fault c.in_file.result (rw c.deref.ensures.value at c.in-Err.ensures) c.in_file.ensures)
