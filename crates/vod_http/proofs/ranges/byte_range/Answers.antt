use Rattle.std.proofs.Common.{eqb, rules, tests, ◌∙◌}
use Rattle.std.proofs.lemmas.Iterator.{YieldsList-from_slice}
use Rattle.std.proofs.lemmas.Iterator.Search.{position_from_yields_List}
use Rattle.vod_http.proofs.RangeReading.{no_unit, no_dash, dash_at}
use Rattle.vod_http.proofs.ranges.byte_range.Goals as goal

pub returns-in_err-range : goal.returns-in_err-range
returns-in_err-range c = c.from_residual.ensures ∙ no_unit c.args.value.now c.in_err-range.ensures.cases

pub returns-in_err-dash : goal.returns-in_err-dash
returns-in_err-dash c =
    let cases = c.in_ok-range.ensures.cases in
    let range = c.in_ok-range.range.now in
    c.from_residual-in_err-dash.ensures
    ∙ no_dash c.args.value.now range c.position.result cases.0 cases.1
    (position_from_yields_List (λ b. eqb b 45) _ _ c.position.result c.position.ensures.ran (YieldsList-from_slice range cc) (λ x b q k. search (rules, tests))) c.in_err-dash.was

pub returns : goal.returns
returns c =
    let cases = c.in_ok-range.ensures.cases in
    let range = c.in_ok-range.range.now in
    c.range_between.ensures
    ∙ dash_at c.args.value.now range c.position.result c.in_ok-dash.dash cases.0 cases.1
    (position_from_yields_List (λ b. eqb b 45) _ _ c.position.result c.position.ensures.ran (YieldsList-from_slice range cc) (λ x b q k. search (rules, tests))) c.in_ok-dash.was
