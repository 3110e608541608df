-- Whether the file has a track.
use Rattle.std.proofs.Common.{◌≡◌, true, sym, subst, ◌∙◌}
use Rattle.origin_model.specs.Loaded.{file_has}
use Rattle.flat_samples.specs.Movies.{HeldMovie}
use Rattle.flat_samples.specs.Shown.{is_there}
use Rattle.flat_samples.proofs.ShownLemmas.{has-good, has-faulty}
use Rattle.flat_samples.proofs.tracks.has.Goals as goal

pub returns-in-Ok : goal.returns-in-Ok
returns-in-Ok c =
    sym (subst (λ (m : HeldMovie). file_has m.movie c.args.track ≡ true) c.movie.view_is
    (has-good c.movie.inside.place c.movie.inside.moov.items c.movie.inside.tracks c.movie.invariant c.args.track c.in-Ok.field-0 (rw c.deref.ensures.value at c.in-Ok.ensures)))

pub returns-in-Err : goal.returns-in-Err
returns-in-Err c =
    c.is_there.ensures
    ∙ sym (subst (λ (m : HeldMovie). file_has m.movie c.args.track ≡ is_there c.in-Err.fault) c.movie.view_is
    (has-faulty c.movie.inside.place c.movie.inside.moov.items c.movie.inside.tracks c.movie.invariant c.args.track c.in-Err.fault (rw c.deref.ensures.value at c.in-Err.ensures)))
