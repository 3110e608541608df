-- The edit of the track that is asked, if one is and edits are honoured.
use Rattle.std.proofs.Common.{ℕ, Ok, sym, ap, ◌∙◌}
use Rattle.std.specs.Prelude.{Option}
use Rattle.mp4_model.specs.Edits.{Edit}
use Rattle.origin_model.specs.Loaded.{asked_edit}
use Rattle.flat_samples.proofs.CheckLemmas.{asked_edit-ignored, asked_edit-none, asked_edit-shown}
use Rattle.flat_samples.proofs.tracks.asked_edit.Goals as goal

pub returns-then-not-edits : goal.returns-then-not-edits
returns-then-not-edits c =
    ap (λ b. asked_edit b c.args.piece.now c.args.movie.now.movie c.args.kind c.args.number) c.if-not-edits.true
    ∙ asked_edit-ignored c.args.piece.now c.args.movie.now.movie c.args.kind c.args.number
    ∙ ap (λ (e : Edit). Ok e) (sym c.none.ensures)

pub returns-in-Some : goal.returns-in-Some
returns-in-Some c =
    rw (c.if-not-edits.false, c.in-Some.is, asked_edit-shown c.args.piece.now c.args.movie.now.movie c.args.kind c.in-Some.number) c.shown_edit.ensures

pub returns-in-None : goal.returns-in-None
returns-in-None c =
    ap (λ (o : Option ℕ). asked_edit c.args.edits c.args.piece.now c.args.movie.now.movie c.args.kind o) c.in-None.is
    ∙ asked_edit-none c.args.piece.now c.args.movie.now.movie c.args.kind c.args.edits
    ∙ ap (λ (e : Edit). Ok e) (sym c.none-in-None.ensures)
