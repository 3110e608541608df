-- The track that is asked, if one is.
use Rattle.mp4_tracks.specs.Views.{good_of}
use Rattle.flat_samples.proofs.CheckLemmas.{asked-none, asked-good, asked-bad}
use Rattle.flat_samples.proofs.tracks.asked_view.Goals as goal

pub returns-in_default-clause-answers : goal.returns-in_default-clause-answers
returns-in_default-clause-answers c = rw c.in_default.is (asked-none c.args.piece.now c.args.movie.now.movie c.args.kind)

pub returns-in-Ok-clause-answers : goal.returns-in-Ok-clause-answers
returns-in-Ok-clause-answers c =
    rw c.in-Some.is (asked-good c.args.piece.now c.args.movie.now.movie c.args.kind c.in-Some.number (good_of c.in-Ok.view) c.in-Ok.ensures.answers)

pub returns-in-Err-clause-answers : goal.returns-in-Err-clause-answers
returns-in-Err-clause-answers c = λ memory.
    rw c.in-Some.is (asked-bad c.args.piece.now c.args.movie.now.movie c.args.kind c.in-Some.number c.in-Err.refusal (c.in-Err.ensures.answers memory))
