-- Video first, and then audio.
use Rattle.std.specs.Rc.{rc_value}
use Rattle.vod_plan.specs.Tracks.{pair_in}
use Rattle.vod_plan.proofs.CheckLemmas.{checked-ok, checked-no_audio, checked-no_video}
use Rattle.vod_plan.proofs.tracks.check.Goals as goal

pub returns-in-Err-clause-answers : goal.returns-in-Err-clause-answers
returns-in-Err-clause-answers c = λ memory.
    let m = (rc_value c.args.meta).movie in
    checked-no_video c.args.piece.now m c.args.edits c.args.asked c.in-Err.refusal (rw c.deref.ensures at (c.in-Err.ensures.answers memory))

pub returns-in-Ok-asked_of-clause-answers : goal.returns-in-Ok-asked_of-clause-answers
returns-in-Ok-asked_of-clause-answers c =
    let m = (rc_value c.args.meta).movie in
    checked-ok c.args.piece.now m c.args.edits c.args.asked (pair_in m c.in-Ok.video) (pair_in m c.in-Ok-asked_of.audio) (rw c.deref.ensures at c.in-Ok.ensures.answers) (rw c.deref-2.ensures at c.in-Ok-asked_of.ensures.answers)

pub returns-in-Err-asked_of-clause-answers : goal.returns-in-Err-asked_of-clause-answers
returns-in-Err-asked_of-clause-answers c = λ memory.
    let m = (rc_value c.args.meta).movie in
    checked-no_audio c.args.piece.now m c.args.edits c.args.asked (pair_in m c.in-Ok.video) c.in-Err-asked_of.refusal (rw c.deref.ensures at c.in-Ok.ensures.answers) (rw c.deref-2.ensures at (c.in-Err-asked_of.ensures.answers memory))
