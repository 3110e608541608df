-- The edit of the track that a piece exposes, or why there is none.
use Rattle.std.proofs.Common.{sym}
use Rattle.mp4_tracks.specs.Edits.{edit_of_view}
use Rattle.flat_samples.proofs.CheckLemmas.{edit-absent, edit-good, edit-faulty}
use Rattle.flat_samples.proofs.tracks.shown_edit.Goals as goal

pub returns-in_default : goal.returns-in_default
returns-in_default c =
    edit-absent c.args.piece.now c.args.movie.now.movie c.args.asked c.refusal.result (sym (rw c.as_slice.ensures at c.in_default.ensures)) (rw c.as_str.ensures at c.refusal.ensures)

pub returns-in-Ok : goal.returns-in-Ok
returns-in-Ok c =
    edit-good c.args.piece.now c.args.movie.now.movie c.args.asked c.in-Some.track (edit_of_view c.in-Ok.edit) (sym (rw c.as_slice.ensures at c.in-Some.ensures)) c.in-Ok.ensures

pub returns-in-Err : goal.returns-in-Err
returns-in-Err c =
    edit-faulty c.args.piece.now c.args.movie.now.movie c.args.asked c.in-Some.track c.in-Err.fault c.refusal-in-Err.result (sym (rw c.as_slice.ensures at c.in-Some.ensures)) c.in-Err.ensures
    (rw c.as_str-in-Err.ensures at c.refusal-in-Err.ensures)
