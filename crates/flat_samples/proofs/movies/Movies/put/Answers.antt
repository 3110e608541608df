-- One that isn't held in front, and at most 16 of all.
use Rattle.std.proofs.Common.{◌≡◌, Bool, false, List, ◌∷◌, take, cond, sym, ap, subst, ◌∙◌}
use Rattle.flat_samples.specs.Held.{is_held, AreApart}
use Rattle.flat_samples.specs.Movies.{HeldMovie}
use Rattle.flat_samples.proofs.HeldLemmas.{apart-take}
use Rattle.flat_samples.proofs.movies.Movies.put.Goals as goal

pub invariant_of-self-2 : goal.invariant_of-self-2
invariant_of-self-2 c =
    let held : List HeldMovie = c.self.inside.held.items in
    let new : c.insert.new.self.items ≡ c.args.movie ∷ held = c.insert.ensures.items ∙ ap (λ (ok : Bool). cond ok (c.args.movie ∷ held) held) c.if-is_err.ensures.negation in
    let other : is_held c.args.movie.name held ≡ false = subst (λ (hs : List HeldMovie). is_held c.args.movie.name hs ≡ false) (sym c.self.view_is) c.requires in
    subst AreApart (sym (c.truncate.ensures.items ∙ ap (take 16) new)) (apart-take 16 (c.args.movie ∷ held) (other, c.self.invariant))
