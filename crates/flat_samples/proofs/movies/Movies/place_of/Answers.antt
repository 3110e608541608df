-- The first movie that has the name.
use Rattle.std.proofs.Common.{◌≡◌, ◌<◌, List, length, get_or, sym, subst}
use Rattle.flat_samples.specs.Held.{IsPlaceOf}
use Rattle.flat_samples.specs.Movies.{HeldMovie}
use Rattle.flat_samples.proofs.HeldLemmas.{item_at, place_of}
use Rattle.flat_samples.proofs.movies.Movies.place_of.Goals as goal

pub returns-then-is_of : goal.returns-then-is_of
returns-then-is_of c =
    let within = subst (λ (hs : List HeldMovie). c.loop-place.place < length hs) c.deref-movie-items.ensures.value c.loop-place-test.true in
    let is = subst (λ (hs : List HeldMovie). c.movie-item.result ≡ get_or hs c.loop-place.place c.movie-item.result) c.deref-movie-items.ensures.value c.movie-item.is in
    let at = item_at c.self.inside.held.items c.loop-place.place c.movie-item.result within is in
    subst (λ (hs : List HeldMovie). IsPlaceOf c.args.name.now hs c.loop-place.place) c.self.view_is
    (place_of c.args.name.now c.loop-place.place c.self.inside.held.items c.movie-item.result c.self.invariant at (sym c.if-is_of.ensures))
