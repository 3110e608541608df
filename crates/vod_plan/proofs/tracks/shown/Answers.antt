-- The track that a piece exposes with its edit, or why there is none.
use Rattle.std.proofs.Common.{◌≡◌, Bool, Option, Some, Ok, sym, ap, ap₂, ◌∙◌}
use Rattle.std.specs.Result.{result_ok}
use Rattle.mp4_model.specs.Edits.{Edit}
use Rattle.mp4_model.specs.GoodTracks.{GoodTrack, track_view}
use Rattle.mp4_tracks.specs.Edits.{edit_of_view}
use Rattle.mp4_tracks.specs.Views.{good_of}
use Rattle.origin_model.specs.Loaded.{asked_edit}
use Rattle.vod_meta.proofs.ShownLemmas as of_meta
use Rattle.vod_plan.proofs.CheckLemmas.{asked_edit-ignored, asked_edit-shown, edit-faulty, edit-good, pair-no_edit, pair-no_track, pair-ok, shown-absent, shown-faulty, shown-good}
use Rattle.vod_plan.proofs.FoundSpans.{is-found}
use Rattle.vod_plan.proofs.tracks.shown.Goals as goal

pub returns-in_default-clause-answers : goal.returns-in_default-clause-answers
returns-in_default-clause-answers c = λ memory.
    let piece = c.args.piece.now in
    let m = c.args.meta.now.movie in
    let asked = c.args.asked in
    pair-no_track piece m c.args.edits asked.kind asked.number c.refusal.result
    (shown-absent piece m asked c.refusal.result (sym (rw c.as_slice.ensures at c.in_default.ensures)) (rw c.as_str.ensures at c.refusal.ensures.is) memory)

pub returns-in-Err-clause-answers : goal.returns-in-Err-clause-answers
returns-in-Err-clause-answers c = λ memory.
    let piece = c.args.piece.now in
    let m = c.args.meta.now.movie in
    let asked = c.args.asked in
    pair-no_track piece m c.args.edits asked.kind asked.number c.refusal-in-Err.result
    (shown-faulty piece m asked c.in-Some.track c.in-Err.fault c.refusal-in-Err.result (sym (rw c.as_slice.ensures at c.in-Some.ensures)) c.in-Err.ensures.view
    (rw c.as_str-in-Err.ensures at c.refusal-in-Err.ensures.is) memory)

pub returns-then-not-edits-clause-answers : goal.returns-then-not-edits-clause-answers
returns-then-not-edits-clause-answers c =
    let piece = c.args.piece.now in
    let m = c.args.meta.now.movie in
    let asked = c.args.asked in
    let g : GoodTrack = good_of c.in_default-track.field-0 in
    let view = c.in_default-track.ensures.view.0 in
    let shown = shown-good piece m asked c.in-Some.track g (sym (rw c.as_slice.ensures at c.in-Some.ensures)) view in
    let kept : result_ok (track_view m.tracks c.in-Some.track) ≡ Some g = ap (λ r. result_ok r) (of_meta.shown-good m c.in-Some.track g view) in
    pair-ok piece m c.args.edits asked.kind asked.number g _ shown
    (ap (λ (b : Bool). asked_edit b piece m asked.kind (Some asked.number)) c.if-not-edits.true ∙ asked_edit-ignored piece m asked.kind (Some asked.number))
    ∙ ap₂ (λ (t : Option GoodTrack) (e : Edit). Ok (t, e)) (sym kept) (sym c.none.ensures)

pub returns-in-Ok-clause-answers : goal.returns-in-Ok-clause-answers
returns-in-Ok-clause-answers c =
    let piece = c.args.piece.now in
    let m = c.args.meta.now.movie in
    let asked = c.args.asked in
    let g : GoodTrack = good_of c.in_default-track.field-0 in
    let view = c.in_default-track.ensures.view.0 in
    let exposed = sym (rw c.as_slice.ensures at c.in-Some.ensures) in
    let shown = shown-good piece m asked c.in-Some.track g exposed view in
    let kept : result_ok (track_view m.tracks c.in-Some.track) ≡ Some g = ap (λ r. result_ok r) (of_meta.shown-good m c.in-Some.track g view) in
    pair-ok piece m c.args.edits asked.kind asked.number g (edit_of_view c.in-Ok.edit) shown
    (ap (λ (b : Bool). asked_edit b piece m asked.kind (Some asked.number)) c.if-not-edits.false
    ∙ asked_edit-shown piece m asked.kind asked.number
    ∙ edit-good piece m asked c.in-Some.track (edit_of_view c.in-Ok.edit) exposed c.in-Ok.ensures)
    ∙ ap (λ (t : Option GoodTrack). Ok (t, edit_of_view c.in-Ok.edit)) (sym kept)

pub returns-in-Err-edit-clause-answers : goal.returns-in-Err-edit-clause-answers
returns-in-Err-edit-clause-answers c = λ memory.
    let piece = c.args.piece.now in
    let m = c.args.meta.now.movie in
    let asked = c.args.asked in
    let g : GoodTrack = good_of c.in_default-track.field-0 in
    let exposed = sym (rw c.as_slice.ensures at c.in-Some.ensures) in
    let shown = shown-good piece m asked c.in-Some.track g exposed c.in_default-track.ensures.view.0 in
    pair-no_edit piece m c.args.edits asked.kind asked.number g c.refusal-in-Err-edit.result shown
    (ap (λ (b : Bool). asked_edit b piece m asked.kind (Some asked.number)) c.if-not-edits.false
    ∙ asked_edit-shown piece m asked.kind asked.number
    ∙ edit-faulty piece m asked c.in-Some.track c.in-Err-edit.fault c.refusal-in-Err-edit.result exposed c.in-Err-edit.ensures (rw c.as_str-in-Err-edit.ensures at c.refusal-in-Err-edit.ensures.is) memory)

pub returns-then-not-edits-clause-found : goal.returns-then-not-edits-clause-found
returns-then-not-edits-clause-found c =
    let m = c.args.meta.now.movie in
    let g : GoodTrack = good_of c.in_default-track.field-0 in
    is-found m (record { track = c.in-Some.track; edit = c.none.result }) g (of_meta.shown-good m c.in-Some.track g c.in_default-track.ensures.view.0) c.in_default-track.ensures.usable

pub returns-in-Ok-clause-found : goal.returns-in-Ok-clause-found
returns-in-Ok-clause-found c =
    let m = c.args.meta.now.movie in
    let g : GoodTrack = good_of c.in_default-track.field-0 in
    is-found m (record { track = c.in-Some.track; edit = c.in-Ok.edit }) g (of_meta.shown-good m c.in-Some.track g c.in_default-track.ensures.view.0) c.in_default-track.ensures.usable
