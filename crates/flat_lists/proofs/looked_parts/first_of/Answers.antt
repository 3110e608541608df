use Rattle.flat_lists.proofs.LookedLemmas.{asked_refused, first_taken, first_unasked, first_unchecked, of_first, piece_refused}
use Rattle.flat_lists.proofs.looked_parts.first_of.Goals as goal

pub returns-in-Err-clause-stands : goal.returns-in-Err-clause-stands
returns-in-Err-clause-stands c =
    first_unasked c.args.looking.edits c.args.looking.mapping.now c.args.looking.sequence c.args.piece.now c.args.movie.now.movie c.in-Err.refusal c.in-Err.ensures.answers

pub returns-in-Err-clause-not_failed : goal.returns-in-Err-clause-not_failed
returns-in-Err-clause-not_failed c = asked_refused c.args.piece.now c.args.movie.now.movie c.in-Err.refusal c.in-Err.ensures.answers

pub returns-in-Err-check-clause-stands : goal.returns-in-Err-check-clause-stands
returns-in-Err-check-clause-stands c =
    first_unchecked c.args.looking.edits c.args.looking.mapping.now c.args.looking.sequence c.args.piece.now c.args.movie.now.movie c.in-Ok.asked c.in-Err-check.refusal c.in-Ok.ensures.answers c.in-Err-check.ensures.answers

pub returns-in-Err-check-clause-not_failed : goal.returns-in-Err-check-clause-not_failed
returns-in-Err-check-clause-not_failed c = piece_refused c.args.looking.edits c.in-Ok.asked c.args.piece.now c.args.movie.now.movie c.in-Err-check.refusal c.in-Err-check.ensures.answers

pub returns-in-Ok-add-clause-stands : goal.returns-in-Ok-add-clause-stands
returns-in-Ok-add-clause-stands c =
    first_taken c.args.looking.edits c.args.looking.mapping.now c.args.looking.sequence c.args.piece.now c.args.movie.now.movie c.in-Ok.asked c.in-Ok-check.tracks _ _ c.of-part.ensures.seen c.in-Ok-add.ensures.added
    c.in-Ok.ensures.answers c.in-Ok-check.ensures.answers

pub returns-in-Ok-add-clause-of : goal.returns-in-Ok-add-clause-of
returns-in-Ok-add-clause-of c =
    of_first c.args.looking.edits c.args.looking.mapping.now c.args.looking.sequence c.args.piece.now c.args.movie.now.movie c.in-Ok.asked c.in-Ok-check.tracks _ _ c.of-part.ensures.seen c.in-Ok-add.ensures.added
