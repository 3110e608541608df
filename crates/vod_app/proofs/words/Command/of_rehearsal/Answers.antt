use Rattle.std.proofs.Common.{rules, ◌≡◌, Some, None}
use Rattle.vod_types.specs.Numbers.{number_up_to}
use Rattle.vod_app.proofs.CommandLemmas.{no_number, no_rehearsal, rehearse_words}
use Rattle.vod_app.proofs.words.Command.of_rehearsal.Goals as goal

pub returns-in-Some : goal.returns-in-Some
returns-in-Some c =
    let some : Some c.in-Some.n ≡ number_up_to 4294967295 c.args.number.now = search rules in
    rehearse_words c.args.form.now c.args.number.now c.in-Some.n c.in-rehearse.is some

pub returns-in-None : goal.returns-in-None
returns-in-None c =
    let none : None ≡ number_up_to 4294967295 c.args.number.now = search rules in
    no_number c.args.form.now c.args.number.now c.in-rehearse.is none

pub returns-in_default : goal.returns-in_default
returns-in_default c = no_rehearsal c.args.form.now c.args.number.now c.in_default.not-rehearse
