use Rattle.std.proofs.Common.{◌≡◌, ◌<◌, length, Some, ap, ◌∙◌, sym, arith}
use Rattle.std.proofs.lemmas.Bool.Decides.{nat_tests}
use Rattle.mp4_boxes.proofs.FrontLemmas.{whole_box-none, whole_box-some, whole_box-short}
use Rattle.mp4_boxes.proofs.front.whole_box.Goals as goal

pub returns-in_err-first : goal.returns-in_err-first
returns-in_err-first c = rw c.from_residual.ensures (sym (whole_box-none _ c.in_err-first.ensures))

pub returns-then-is_empty : goal.returns-then-is_empty
returns-then-is_empty c =
    let first = c.in_ok-first.ensures in
    let none : length c.in_ok-first.rest.now ≡ 0 = grind (arith, nat_tests, c.if-is_empty.ensures) in
    ap Some first.2 ∙ sym (whole_box-some _ first.0 first.1 (rw first.3 at none))

pub returns-else-is_empty : goal.returns-else-is_empty
returns-else-is_empty c =
    let first = c.in_ok-first.ensures in
    let more : 0 < length c.in_ok-first.rest.now = grind (arith, nat_tests, c.if-is_empty.ensures) in
    sym (whole_box-short _ first.0 first.1 (rw first.3 at more))
