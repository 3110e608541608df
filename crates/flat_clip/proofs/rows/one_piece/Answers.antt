use Rattle.std.proofs.Common.{◌≡◌, ◌<◌, ◌≤◌, length, sym, ap, ◌∙◌, subst}
use Rattle.std.specs.Prelude.{slice_get}
use Rattle.flat_clip.proofs.PieceLemmas.{piece-found, piece-many, piece-none}
use Rattle.flat_clip.proofs.rows.one_piece.Goals as goal

pub returns-then-pieces-gt1-clause-fault : goal.returns-then-pieces-gt1-clause-fault
returns-then-pieces-gt1-clause-fault c =
    let pieces : c.as_slice-pieces.result.now ≡ c.args.timeline.now.pieces = c.as_slice-pieces.ensures.value ∙ ap (λ t. t.pieces) c.timeline.view_is in
    rw (pieces) (piece-many c.args.sequence c.args.timeline.now (subst (λ ps. 1 < length ps) pieces c.if-pieces-gt1.true))

pub returns-in-Some-clause-piece : goal.returns-in-Some-clause-piece
returns-in-Some-clause-piece c =
    let pieces : c.as_slice-pieces.result.now ≡ c.args.timeline.now.pieces = c.as_slice-pieces.ensures.value ∙ ap (λ t. t.pieces) c.timeline.view_is in
    piece-found c.args.sequence c.args.timeline.now c.in-Some.piece.now (subst (λ ps. length ps ≤ 1) pieces c.if-pieces-gt1.false)
    (sym (c.in-Some.ensures.value ∙ ap (λ ps. slice_get ps 0) pieces))

pub returns-in-None-clause-fault : goal.returns-in-None-clause-fault
returns-in-None-clause-fault c =
    let pieces : c.as_slice-pieces.result.now ≡ c.args.timeline.now.pieces = c.as_slice-pieces.ensures.value ∙ ap (λ t. t.pieces) c.timeline.view_is in
    piece-none c.args.sequence c.args.timeline.now (subst (λ ps. length ps ≤ 1) pieces c.if-pieces-gt1.false)
    (sym (c.in-None.ensures.value ∙ ap (λ ps. slice_get ps 0) pieces))
