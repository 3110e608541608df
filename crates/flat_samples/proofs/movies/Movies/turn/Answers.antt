-- A turn on a movie that is held, and on one that is loaded.
use Rattle.flat_samples.proofs.TurnLemmas.{told-was_held, told-was_loaded, told-not_loaded}
use Rattle.flat_samples.proofs.movies.Movies.turn.Goals as goal

pub returns-in-Some-clause-told : goal.returns-in-Some-clause-told
returns-in-Some-clause-told g c =
    told-was_held c.args.name.now c.args.self.now (g.S.Store.content c.args.files.now) (g.S.Store.log c.args.files.now) c.in-Some.place c.in-Some.ensures c.bring.new.self
    (c.bring.ensures c.in-Some.ensures.found c.in-Some.ensures.at)

pub returns-in-Ok-clause-told : goal.returns-in-Ok-clause-told
returns-in-Ok-clause-told g c =
    told-was_loaded c.args.name.now c.args.self.now (g.S.Store.content c.args.files.now) (g.S.Store.log c.args.files.now) _ c.in-Ok.movie c.put.result c.put.new.self
    c.in-None.ensures c.in-Ok.ensures.named c.in-Ok.ensures.told c.put.ensures.put c.put.ensures.only c.put.ensures.same

pub returns-in-Err-clause-told : goal.returns-in-Err-clause-told
returns-in-Err-clause-told g c =
    told-not_loaded c.args.name.now c.args.self.now (g.S.Store.content c.args.files.now) (g.S.Store.log c.args.files.now) _ c.in-Err.refusal c.in-None.ensures c.in-Err.ensures.told
