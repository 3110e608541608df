-- The edit of a track, as the movie's invariant has it.
use Rattle.std.proofs.Common.{Ok, Err, subst}
use Rattle.mp4_tracks.specs.Edits.{IsEditOf}
use Rattle.flat_samples.specs.Movies.{HeldMovie}
use Rattle.flat_samples.specs.Shown.{edit_in_file}
use Rattle.flat_samples.proofs.ShownLemmas.{edit-ok, edit-err, edit_fault-fits}
use Rattle.flat_samples.proofs.tracks.edit_of.Goals as goal

pub in_file-requires : goal.in_file-requires
in_file-requires c =
    edit_fault-fits c.movie.inside.place c.movie.inside.moov.items c.movie.inside.tracks c.movie.invariant c.args.track c.in-Err.fault (rw c.deref.ensures.value at c.in-Err.ensures)

pub returns-in-Ok : goal.returns-in-Ok
returns-in-Ok c =
    subst (λ (m : HeldMovie). IsEditOf (edit_in_file m.movie c.args.track) (Ok c.in-Ok.edit)) c.movie.view_is
    (edit-ok c.movie.inside.place c.movie.inside.moov.items c.movie.inside.tracks c.movie.invariant c.args.track c.in-Ok.edit (rw c.deref.ensures.value at c.in-Ok.ensures))

pub returns-in-Err : goal.returns-in-Err
returns-in-Err c =
    subst (λ (m : HeldMovie). IsEditOf (edit_in_file m.movie c.args.track) (Err c.in_file.result)) c.movie.view_is
    (edit-err c.movie.inside.place c.movie.inside.moov.items c.movie.inside.tracks c.movie.invariant c.args.track c.in-Err.fault c.in_file.result (rw c.deref.ensures.value at c.in-Err.ensures) c.in_file.ensures)
