-- None of the movies so far has the name.
use Rattle.std.proofs.Common.{◌≡◌, false, take}
use Rattle.flat_samples.specs.Held.{is_held}
use Rattle.flat_samples.proofs.movies.Movies.place_of.Given as goal

abbrev pub invariant-loop-place : goal.invariant-loop-place
invariant-loop-place l = record {
  same : l.movie-items ≡ l.self;
  none : is_held l.name (take l.place l.movie-items) ≡ false;
}
