use Rattle.std.proofs.Common.{◌∙◌, sym, map, string_bytes, Global}
use Rattle.std.proofs.lemmas.List.{length-map}
use Rattle.vod_app.proofs.CommandLemmas.{other_number}
use Rattle.vod_app.proofs.words.Command.read.Goals as goal

pub returns-then-words-ne4 : goal.returns-then-words-ne4
returns-then-words-ne4 c =
    other_number (map (string_bytes {Z = Global}) c.args.words.now)
    (λ two. c.if-words-eq2.false (sym (length-map c.args.words.now (string_bytes {Z = Global})) ∙ two))
    (λ four. c.if-words-ne4.true (sym (length-map c.args.words.now (string_bytes {Z = Global})) ∙ four))
    (λ five. c.if-words-eq5.false (sym (length-map c.args.words.now (string_bytes {Z = Global})) ∙ five))
