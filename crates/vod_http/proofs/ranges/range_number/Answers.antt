use Rattle.std.proofs.Common.{◌≡◌, true, sym, ap, ◌∙◌}
use Rattle.std.specs.Str.{all_ascii_digits}
use Rattle.vod_types.proofs.NumberRules.{list_all-digits}
use Rattle.list_model.specs.Ranges.{range_number}
use Rattle.vod_http.proofs.RangeReading.{digits_are_text, text_of, unparsed}
use Rattle.vod_http.proofs.ranges.range_number.Goals as goal

pub returns-in_err-ok : goal.returns-in_err-ok
returns-in_err-ok c =
    absurd (digits_are_text _ _ c.args.digits.now c.from_utf8.result c.from_utf8.ensures.cases (sym c.ok.ensures.value ∙ c.in_err-ok.was) (sym c.are_digits.ensures ∙ c.if-not-are_digits.false))

pub returns-in_err-number : goal.returns-in_err-number
returns-in_err-number c =
    let text = c.in_ok-ok.field-0.now in
    let same : text ≡ c.args.digits.now = text_of _ _ c.args.digits.now c.from_utf8.result c.in_ok-ok.field-0 c.from_utf8.ensures.cases (sym c.ok.ensures.value ∙ c.in_ok-ok.was) in
    let digits : all_ascii_digits text ≡ true = ap all_ascii_digits same ∙ sym (list_all-digits c.args.digits.now) ∙ sym c.are_digits.ensures ∙ c.if-not-are_digits.false in
    c.from_residual-in_err-number.ensures ∙ unparsed text c.parse.result c.parse.ensures.value.0 (sym c.ok-2.ensures.value ∙ c.in_err-number.was) digits ∙ ap range_number same
