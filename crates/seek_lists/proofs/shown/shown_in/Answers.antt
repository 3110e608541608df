-- A sequence by its first piece in the metadata of its file.
use Rattle.std.proofs.Common.{ap, sym, ◌∙◌, Ok, Err}
use Rattle.std.specs.Rc.{rc_value}
use Rattle.vod_meta.specs.Held.{HeldMovie}
use Rattle.vod_plan.specs.Tracks.{checked_view}
use Rattle.vod_plan.proofs.LookWalks.{view_sound}
use Rattle.vod_plan.proofs.WritableCalls.{check_refused}
use Rattle.flat_lists.proofs.ShownLemmas.{shown-unasked, shown-checked, shown_is}
use Rattle.seek_lists.proofs.ShownLemmas.{same_check}
use Rattle.seek_lists.proofs.shown.shown_in.Goals as goal

pub returns-in-Err-clause-answers : goal.returns-in-Err-clause-answers
returns-in-Err-clause-answers g c = λ memory.
    shown-unasked c.args.edits c.args.mapping.now c.args.sequence c.args.piece.now (rc_value {X = HeldMovie} c.args.meta).movie c.in-Err.refusal (rw c.deref.ensures at (c.in-Err.ensures.answers memory))

pub returns-in-Ok-check-clause-answers : goal.returns-in-Ok-check-clause-answers
returns-in-Ok-check-clause-answers g c =
    let m = (rc_value {X = HeldMovie} c.args.meta).movie in
    shown-checked c.args.edits c.args.mapping.now c.args.sequence c.args.piece.now m c.in-Ok.asked (Ok (checked_view c.args.piece.now c.in-Ok-check.tracks)) (rw c.deref.ensures at c.in-Ok.ensures.answers)
    (sym (same_check c.args.edits c.in-Ok.asked c.args.piece.now m) ∙ c.in-Ok-check.ensures.answers)
    ∙ ap Ok (sym (rw c.deref-in-Ok-check.ensures at c.shown_of.ensures.value))

pub returns-in-Ok-check-clause-shown : goal.returns-in-Ok-check-clause-shown
returns-in-Ok-check-clause-shown g c =
    let m = (rc_value {X = HeldMovie} c.args.meta).movie in
    shown_is c.args.mapping.now _ c.args.sequence c.in-Ok.asked (checked_view c.args.piece.now c.in-Ok-check.tracks) c.shown_of.result (rw c.deref-in-Ok-check.ensures at c.shown_of.ensures.value) c.requires.number c.requires.small
    c.in-Ok.ensures.numbers (view_sound c.args.edits c.in-Ok.asked c.args.piece.now c.in-Ok-check.tracks m c.in-Ok-check.ensures.answers) c.shown_of.ensures.video c.shown_of.ensures.audio

pub returns-in-Err-check-clause-answers : goal.returns-in-Err-check-clause-answers
returns-in-Err-check-clause-answers g c = λ memory.
    let m = (rc_value {X = HeldMovie} c.args.meta).movie in
    shown-checked c.args.edits c.args.mapping.now c.args.sequence c.args.piece.now m c.in-Ok.asked (Err c.in-Err-check.refusal) (rw c.deref.ensures at c.in-Ok.ensures.answers)
    (sym (same_check c.args.edits c.in-Ok.asked c.args.piece.now m) ∙ c.in-Err-check.ensures.answers memory)

pub returns-in-Err-check-clause-refused : goal.returns-in-Err-check-clause-refused
returns-in-Err-check-clause-refused g c = check_refused c.args.edits c.in-Ok.asked c.args.piece.now (rc_value {X = HeldMovie} c.args.meta).movie c.in-Err-check.refusal c.in-Err-check.ensures.answers
