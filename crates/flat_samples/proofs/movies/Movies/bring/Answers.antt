-- It is taken out and put in front.
use Rattle.std.proofs.Common.{◌≡◌, ◌<◌, List, ◌∷◌, length, arith, sym, subst, ◌∙◌}
use Rattle.std.specs.Prelude.{Some, slice_get}
use Rattle.std.specs.List.{remove}
use Rattle.flat_samples.specs.Held.{AreApart}
use Rattle.flat_samples.specs.Movies.{HeldMovie}
use Rattle.flat_samples.proofs.HeldLemmas.{apart-brought, brought, found_at, inserted}
use Rattle.flat_samples.proofs.movies.Movies.bring.Goals as goal

-- there is room for it where it was
put : (c : goal.Joined-put) → c.insert-put.new.self.items ≡ c.remove-movie.result ∷ c.remove-movie.new.self.items
put c =
    c.insert-put.ensures.items
    ∙ inserted c.insert-put.result (c.remove-movie.result ∷ c.remove-movie.new.self.items) c.remove-movie.new.self.items
    (c.insert-put.ensures.succeeds (omega (arith, c.remove-movie.ensures.len, c.remove-movie.ensures.capacity, c.self.inside.held.ok.1)))

pub invariant_of-self : goal.invariant_of-self
invariant_of-self c =
    let held : List HeldMovie = c.self.inside.held.items in
    let found = found_at held c.args.place (subst (λ (hs : List HeldMovie). c.args.place < length hs) (sym c.self.view_is) c.requires) in
    let is = brought held c.args.place found.0 c.remove-movie.result c.remove-movie.new.self.items c.insert-put.new.self.items found.1 c.remove-movie.ensures.value c.remove-movie.ensures.items (put c) in
    subst AreApart (sym is) (apart-brought c.args.place held found.0 c.self.invariant found.1)

pub returns : goal.returns
returns c = λ h e.
    subst (λ (hs : List HeldMovie). c.insert-put.new.self.items ≡ h ∷ remove hs c.args.place) c.self.view_is
    (brought c.self.inside.held.items c.args.place h c.remove-movie.result c.remove-movie.new.self.items c.insert-put.new.self.items
    (subst (λ (hs : List HeldMovie). slice_get hs c.args.place ≡ Some h) (sym c.self.view_is) e) c.remove-movie.ensures.value c.remove-movie.ensures.items (put c))
