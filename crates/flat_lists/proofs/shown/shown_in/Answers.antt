use Rattle.std.proofs.Common.{ap, sym, ◌∙◌, Ok, Err}
use Rattle.flat_samples.specs.Checks.{checked_view}
use Rattle.flat_samples.proofs.CheckLemmas.{checked_in-not_failed}
use Rattle.vod_source.proofs.CallLemmas.{refusal-not_failed}
use Rattle.flat_lists.proofs.ShownLemmas.{shown-unasked, shown-checked, shown_is}
use Rattle.answer_laws.proofs.Due.{due_may}
use Rattle.answer_laws.proofs.Lists.{asked_first_may}
use Rattle.flat_lists.proofs.shown.shown_in.Goals as goal

pub returns-in-Err-clause-answers : goal.returns-in-Err-clause-answers
returns-in-Err-clause-answers c =
    λ known_memory. shown-unasked c.args.edits c.args.mapping.now c.args.sequence c.args.piece.now c.args.movie.now.movie c.in-Err.refusal (c.in-Err.ensures.answers known_memory)

pub returns-in-Ok-check-clause-answers : goal.returns-in-Ok-check-clause-answers
returns-in-Ok-check-clause-answers c =
    shown-checked c.args.edits c.args.mapping.now c.args.sequence c.args.piece.now c.args.movie.now.movie c.in-Ok.asked (Ok (checked_view c.args.piece.now c.in-Ok-check.tracks)) c.in-Ok.ensures.answers c.in-Ok-check.ensures.answers
    ∙ ap Ok (sym c.shown_of.ensures.value)

pub returns-in-Ok-check-clause-shown : goal.returns-in-Ok-check-clause-shown
returns-in-Ok-check-clause-shown c =
    shown_is c.args.mapping.now _ c.args.sequence c.in-Ok.asked (checked_view c.args.piece.now c.in-Ok-check.tracks) c.shown_of.result c.shown_of.ensures.value c.requires.number c.requires.small
    c.in-Ok.ensures.numbers c.in-Ok-check.ensures.whole c.shown_of.ensures.video c.shown_of.ensures.audio

pub returns-in-Err-check-clause-answers : goal.returns-in-Err-check-clause-answers
returns-in-Err-check-clause-answers c =
    λ known_memory. shown-checked c.args.edits c.args.mapping.now c.args.sequence c.args.piece.now c.args.movie.now.movie c.in-Ok.asked (Err c.in-Err-check.refusal) c.in-Ok.ensures.answers (c.in-Err-check.ensures.answers known_memory)

pub returns-in-Err-check-clause-store : goal.returns-in-Err-check-clause-store
returns-in-Err-check-clause-store c =
    λ failed. refusal-not_failed _ c.in-Err-check.refusal (checked_in-not_failed c.args.edits c.in-Ok.asked c.args.piece.now c.args.movie.now.movie) c.in-Err-check.ensures.answers cc

pub returns-in-Err-clause-refused : goal.returns-in-Err-clause-refused
returns-in-Err-clause-refused c = due_may _ (asked_first_may c.args.piece.now.name _ _) c.in-Err.refusal c.in-Err.ensures.answers
