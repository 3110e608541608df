use Rattle.std.proofs.Common.{inl, inr}
use Rattle.vod_app.proofs.CommandLemmas.{other_word, empty_word, get_words, pack_words, plan_words, reads_words}
use Rattle.vod_app.proofs.words.Command.of_form.Goals as goal
use Rattle.vod_app.proofs.words.Command.of_form.Goals.{then-is_empty-via-then-is_empty, then-is_empty-via-else-is_empty+then-is_empty-2, then-is_empty-via-else-is_empty+else-is_empty-2+then-is_empty-3}

pub returns-then-is_empty : goal.returns-then-is_empty
returns-then-is_empty c =
    empty_word c.args.form.now c.args.root.now c.args.settings.now c.args.path.now
    (elim c.then-is_empty.branch [
      | then-is_empty-via-then-is_empty w ↦ inl w.if-is_empty.ensures
      | then-is_empty-via-else-is_empty+then-is_empty-2 w ↦ inr (inl w.if-is_empty-2.ensures)
      | then-is_empty-via-else-is_empty+else-is_empty-2+then-is_empty-3 w ↦ inr (inr w.if-is_empty-3.ensures)
    ])

pub returns-in-get : goal.returns-in-get
returns-in-get c =
    get_words c.args.form.now c.args.root.now c.args.settings.now c.args.path.now c.if-is_empty.ensures c.if-is_empty-2.ensures c.if-is_empty-3.ensures
    c.in-get.is

pub returns-in-reads : goal.returns-in-reads
returns-in-reads c =
    reads_words c.args.form.now c.args.root.now c.args.settings.now c.args.path.now c.if-is_empty.ensures c.if-is_empty-2.ensures c.if-is_empty-3.ensures
    c.in-reads.is

pub returns-in-plan : goal.returns-in-plan
returns-in-plan c =
    plan_words c.args.form.now c.args.root.now c.args.settings.now c.args.path.now c.if-is_empty.ensures c.if-is_empty-2.ensures c.if-is_empty-3.ensures
    c.in-plan.is

pub returns-in-pack : goal.returns-in-pack
returns-in-pack c =
    pack_words c.args.form.now c.args.root.now c.args.settings.now c.args.path.now c.if-is_empty.ensures c.if-is_empty-2.ensures c.if-is_empty-3.ensures
    c.in-pack.is

pub returns-in_default : goal.returns-in_default
returns-in_default c = other_word c.args.form.now c.args.root.now c.args.settings.now c.args.path.now c.in_default.not-get c.in_default.not-reads c.in_default.not-plan c.in_default.not-pack
