-- The track that a piece exposes, or why there is none.
use Rattle.std.proofs.Common.{sym}
use Rattle.mp4_tracks.specs.Views.{good_of}
use Rattle.flat_samples.proofs.CheckLemmas.{shown-absent, shown-good, shown-faulty}
use Rattle.flat_samples.proofs.tracks.shown_view.Goals as goal

pub returns-in_default-clause-answers : goal.returns-in_default-clause-answers
returns-in_default-clause-answers c =
    shown-absent c.args.piece.now c.args.movie.now.movie c.args.asked c.refusal.result (sym (rw c.as_slice.ensures at c.in_default.ensures)) (rw c.as_str.ensures at c.refusal.ensures)

pub returns-in-Ok-clause-answers : goal.returns-in-Ok-clause-answers
returns-in-Ok-clause-answers c =
    shown-good c.args.piece.now c.args.movie.now.movie c.args.asked c.in-Some.track (good_of c.in-Ok.view) (sym (rw c.as_slice.ensures at c.in-Some.ensures)) c.in-Ok.ensures.view.0

pub returns-in-Err-clause-answers : goal.returns-in-Err-clause-answers
returns-in-Err-clause-answers c =
    shown-faulty c.args.piece.now c.args.movie.now.movie c.args.asked c.in-Some.track c.in-Err.fault c.refusal-in-Err.result (sym (rw c.as_slice.ensures at c.in-Some.ensures)) c.in-Err.ensures.view
    (rw c.as_str-in-Err.ensures at c.refusal-in-Err.ensures)
