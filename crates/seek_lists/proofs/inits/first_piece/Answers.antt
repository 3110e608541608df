-- A part by its number from 1, with its pieces.
use Rattle.std.proofs.Common.{◌<◌, List, sym, ap, ◌∙◌, arith}
use Rattle.clip_model.specs.declared.Piece.{Piece}
use Rattle.origin_model.specs.Requests as requests
use Rattle.seek_lists.proofs.InitLemmas.{absent, by_part, first_of, none_of}
use Rattle.seek_lists.proofs.inits.first_piece.Goals as goal

pub returns-then-number-eq0-clause-piece : goal.returns-then-number-eq0-clause-piece
returns-then-number-eq0-clause-piece c = absent c.args.timeline.now c.args.number c.parts_of.result.now c.parts_of.ensures.parts c.then-number-eq0.either

pub returns-in-Some-clause-piece : goal.returns-in-Some-clause-piece
returns-in-Some-clause-piece c =
    let some : 0 < c.args.number = omega (arith, c.if-number-eq0.false) in
    by_part c.args.timeline.now c.args.number c.part_at.result.0 some c.part_at.ensures.part
    ∙ ap (λ (ps : List Piece). requests.first_piece c.args.number ps) (sym c.part_at.ensures.pieces)
    ∙ first_of c.args.number c.part_at.result.1.now c.in-Some.piece.now (sym c.in-Some.ensures.value)

pub returns-in-None-clause-piece : goal.returns-in-None-clause-piece
returns-in-None-clause-piece c =
    let some : 0 < c.args.number = omega (arith, c.if-number-eq0.false) in
    by_part c.args.timeline.now c.args.number c.part_at.result.0 some c.part_at.ensures.part
    ∙ ap (λ (ps : List Piece). requests.first_piece c.args.number ps) (sym c.part_at.ensures.pieces)
    ∙ none_of c.args.number c.part_at.result.1.now (sym c.in-None.ensures.value)
