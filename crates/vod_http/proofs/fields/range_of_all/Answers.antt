use Rattle.std.proofs.Common.{◌+◌, take, sym, ap, ◌∙◌, subst, arith}
use Rattle.std.specs.Prelude.{codes}
use Rattle.std.specs.Str.{str_eq_ignore_ascii_case}
use Rattle.vod_http.proofs.FieldLemmas.{HasFound, found_still, found_first, found_again}
use Rattle.vod_http.proofs.fields.range_of_all.Goals as goal
use Rattle.vod_http.proofs.fields.range_of_all.Goals.{then-same_word+else-is_some, else-same_word}

pub returns-then-is_some : goal.returns-then-is_some
returns-then-is_some c =
    found_again c.args.bytes.now c.args.fields.now c.loop-field.field-index _ (omega arith) c.loop-field.found
    (ap (λ name. str_eq_ignore_ascii_case name (codes "Range")) (sym c.of.ensures) ∙ sym c.same_word.ensures ∙ c.if-same_word.true)
    (sym c.is_some.ensures ∙ c.if-is_some.true) c.loop-field.invariant

pub loop-field-preserved : goal.loop-field-preserved
loop-field-preserved c = elim c.if-same_word.branch [
  | then-same_word+else-is_some w ↦
      subst (HasFound c.args.bytes.now (take (c.loop-field.field-index + 1) c.args.fields.now)) (sym w.found-is)
      (found_first c.args.bytes.now c.args.fields.now c.loop-field.field-index _ (omega arith) c.loop-field.found w.of-then-same_word.result
      (ap (λ name. str_eq_ignore_ascii_case name (codes "Range")) (sym c.of.ensures) ∙ sym c.same_word.ensures ∙ w.if-same_word.true)
      (sym w.is_some.ensures ∙ w.if-is_some.false) w.of-then-same_word.ensures c.loop-field.invariant)
  | else-same_word w ↦
      subst (HasFound c.args.bytes.now (take (c.loop-field.field-index + 1) c.args.fields.now)) (sym w.found-is)
      (found_still c.args.bytes.now c.args.fields.now c.loop-field.field-index _ (omega arith) c.loop-field.found
      (ap (λ name. str_eq_ignore_ascii_case name (codes "Range")) (sym c.of.ensures) ∙ sym c.same_word.ensures ∙ w.if-same_word.false) c.loop-field.invariant)
]
