-- The movie of a file, by the bytes of its box.
use Rattle.answer_laws.proofs.Due.{answers_may}
use Rattle.vod_meta.proofs.LoadLemmas.{told-was_fetched, told-not_fetched}
use Rattle.vod_meta.proofs.RefusalLemmas.{due_may}
use Rattle.vod_meta.proofs.reading.load.Goals as goal

pub returns-in-Ok-clause-told : goal.returns-in-Ok-clause-told
returns-in-Ok-clause-told g c = told-was_fetched c.args.name.now (g.S.Store.content c.args.files.now) c.in-Ok.found c.meta_of.result _ _ c.in-Ok.ensures.told c.meta_of.ensures.answers

pub returns-in-Err-clause-told : goal.returns-in-Err-clause-told
returns-in-Err-clause-told g c = told-not_fetched c.args.name.now (g.S.Store.content c.args.files.now) c.in-Err.refusal _ _ c.in-Err.ensures.told

pub returns-in-Ok-clause-refused : goal.returns-in-Ok-clause-refused
returns-in-Ok-clause-refused g c = answers_may (λ m. m.movie) _ (due_may c.args.name.now c.in-Ok.found.place c.in-Ok.found.moov.items) c.meta_of.result c.meta_of.ensures.answers
