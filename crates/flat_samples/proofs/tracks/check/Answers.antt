-- Video first, and then audio, each before its edit.
use Rattle.std.proofs.Common.{ℕ, Ok, sym, ap, ◌∙◌}
use Rattle.std.specs.Prelude.{option_map}
use Rattle.mp4_tracks.specs.Views.{good_of}
use Rattle.mp4_tracks.specs.Edits.{edit_of_view}
use Rattle.flat_samples.specs.Movies.{HeldMovie}
use Rattle.flat_samples.proofs.CheckLemmas.{checked-ok, checked-no_video, checked-no_video_edit, checked-no_audio, checked-no_audio_edit, checked-whole}
use Rattle.vod_types.specs.declared.tracks.Kind.TheVariants.{Video, Audio}
use Rattle.answer_laws.proofs.Due.{due_may}
use Rattle.answer_laws.proofs.Segments.{edit_may, track_may}
use Rattle.flat_samples.proofs.tracks.check.Goals as goal

pub returns-in-Err-clause-answers : goal.returns-in-Err-clause-answers
returns-in-Err-clause-answers c = λ memory. checked-no_video c.args.piece.now c.args.movie.now.movie c.args.edits c.args.asked c.in-Err.refusal (c.in-Err.ensures.answers memory)

pub returns-in-Err-asked_edit-clause-answers : goal.returns-in-Err-asked_edit-clause-answers
returns-in-Err-asked_edit-clause-answers c = λ memory.
    checked-no_video_edit c.args.piece.now c.args.movie.now.movie c.args.edits c.args.asked (option_map good_of c.in-Ok.video) c.in-Err-asked_edit.refusal c.in-Ok.ensures.answers (c.in-Err-asked_edit.ensures memory)

pub returns-in-Err-asked_view-clause-answers : goal.returns-in-Err-asked_view-clause-answers
returns-in-Err-asked_view-clause-answers c = λ memory.
    checked-no_audio c.args.piece.now c.args.movie.now.movie c.args.edits c.args.asked (option_map good_of c.in-Ok.video) (edit_of_view c.in-Ok-asked_edit.edit) c.in-Err-asked_view.refusal c.in-Ok.ensures.answers
    c.in-Ok-asked_edit.ensures (c.in-Err-asked_view.ensures.answers memory)

pub returns-in-Err-asked_edit-2-clause-answers : goal.returns-in-Err-asked_edit-2-clause-answers
returns-in-Err-asked_edit-2-clause-answers c = λ memory.
    checked-no_audio_edit c.args.piece.now c.args.movie.now.movie c.args.edits c.args.asked (option_map good_of c.in-Ok.video) (option_map good_of c.in-Ok-asked_view.audio) (edit_of_view c.in-Ok-asked_edit.edit)
    c.in-Err-asked_edit-2.refusal c.in-Ok.ensures.answers c.in-Ok-asked_edit.ensures c.in-Ok-asked_view.ensures.answers (c.in-Err-asked_edit-2.ensures memory)

pub returns-in-Ok-asked_edit-2-clause-answers : goal.returns-in-Ok-asked_edit-2-clause-answers
returns-in-Ok-asked_edit-2-clause-answers c =
    let video = option_map good_of c.in-Ok.video in
    let audio = option_map good_of c.in-Ok-asked_view.audio in
    let video_edit = edit_of_view c.in-Ok-asked_edit.edit in
    let audio_edit = edit_of_view c.in-Ok-asked_edit-2.audio_edit in
    checked-ok c.args.piece.now c.args.movie.now.movie c.args.edits c.args.asked video audio video_edit audio_edit c.in-Ok.ensures.answers c.in-Ok-asked_edit.ensures c.in-Ok-asked_view.ensures.answers
    c.in-Ok-asked_edit-2.ensures
    ∙ ap (λ (size : ℕ). Ok (record { piece = c.args.piece.now; file_size = size; video = video; audio = audio; video_edit = video_edit; audio_edit = audio_edit }))
    (sym (ap (λ (m : HeldMovie). m.movie.place.file_size) c.movie.view_is))

pub returns-in-Ok-asked_edit-2-clause-whole : goal.returns-in-Ok-asked_edit-2-clause-whole
returns-in-Ok-asked_edit-2-clause-whole c = checked-whole c.args.piece.now c.args.movie.now.movie c.args.edits c.args.asked _ (returns-in-Ok-asked_edit-2-clause-answers c)

-- ---- why it is refused

pub returns-in-Err-clause-refused : goal.returns-in-Err-clause-refused
returns-in-Err-clause-refused c = due_may _ (track_may c.args.piece.now c.args.movie.now.movie Video c.args.asked.video) c.in-Err.refusal c.in-Err.ensures.answers

pub returns-in-Err-asked_edit-clause-refused : goal.returns-in-Err-asked_edit-clause-refused
returns-in-Err-asked_edit-clause-refused c = due_may _ (edit_may c.args.edits c.args.piece.now c.args.movie.now.movie Video c.args.asked.video) c.in-Err-asked_edit.refusal c.in-Err-asked_edit.ensures

pub returns-in-Err-asked_view-clause-refused : goal.returns-in-Err-asked_view-clause-refused
returns-in-Err-asked_view-clause-refused c = due_may _ (track_may c.args.piece.now c.args.movie.now.movie Audio c.args.asked.audio) c.in-Err-asked_view.refusal c.in-Err-asked_view.ensures.answers

pub returns-in-Err-asked_edit-2-clause-refused : goal.returns-in-Err-asked_edit-2-clause-refused
returns-in-Err-asked_edit-2-clause-refused c = due_may _ (edit_may c.args.edits c.args.piece.now c.args.movie.now.movie Audio c.args.asked.audio) c.in-Err-asked_edit-2.refusal c.in-Err-asked_edit-2.ensures
