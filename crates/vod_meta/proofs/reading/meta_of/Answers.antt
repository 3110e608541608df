-- The movie of the bytes of a box, or their first fault.
use Rattle.std.proofs.Common.{ℕ, List, Err, subst}
use Rattle.mp4_tracks.specs.Made.{IsTracksOf}
use Rattle.vod_meta.proofs.LoadLemmas.{due-made, due-refused, place-fits}
use Rattle.vod_meta.proofs.reading.meta_of.Goals as goal

pub refusal-requires : goal.refusal-requires
refusal-requires c = place-fits c.args.name.now c.args.found.place c.args.found.moov.items c.in-Err.fault (subst (λ (moov : List ℕ). IsTracksOf moov (Err c.in-Err.fault)) c.deref.ensures.value c.in-Err.ensures) c.requires

pub returns-in-Err-clause-answers : goal.returns-in-Err-clause-answers
returns-in-Err-clause-answers c = due-refused c.args.name.now c.args.found.place c.args.found.moov.items c.in-Err.fault c.refusal.result (subst (λ (moov : List ℕ). IsTracksOf moov (Err c.in-Err.fault)) c.deref.ensures.value c.in-Err.ensures) c.refusal.ensures

pub returns-in-Ok-new-clause-answers : goal.returns-in-Ok-new-clause-answers
returns-in-Ok-new-clause-answers c = due-made c.args.name.now c.args.found.place c.args.found.moov.items c.in-Ok.tracks (rw c.deref.ensures.value at c.in-Ok.ensures)
