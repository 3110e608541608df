use Rattle.std.proofs.Common.{◌≡◌, ◌<◌, ◌≤◌, ◌==◌, length, map, vec_len, ap, ◌∙◌, arith}
use Rattle.flat_segments.specs.Segments.{facts_of}
use Rattle.flat_segments.proofs.Fronts.{front-empty, front-mixed, front-lead, front-other, front-none}
use Rattle.flat_segments.proofs.row_checks.check_front.Goals as goal

pub returns-then-is_empty-clause-answers : goal.returns-then-is_empty-clause-answers
returns-then-is_empty-clause-answers c = λ other.
    let counted : vec_len c.args.rows.now.lead ≡ length c.args.rows.now.lead.items = omega arith in
    front-empty c.args.number c.args.form (map facts_of c.args.files.now) c.args.rows.now (c.if-is_empty.ensures ∙ ap (λ n. n == 0) counted)

pub returns-in-Err-clause-answers : goal.returns-in-Err-clause-answers
returns-in-Err-clause-answers c = λ other.
    let counted : vec_len c.args.rows.now.lead ≡ length c.args.rows.now.lead.items = omega arith in
    front-mixed c.args.number c.args.form (map facts_of c.args.files.now) c.args.rows.now (c.if-is_empty.ensures ∙ ap (λ n. n == 0) counted) c.in-Err.refusal (c.in-Err.ensures other)

pub returns-then-len-gt200000-clause-answers : goal.returns-then-len-gt200000-clause-answers
returns-then-len-gt200000-clause-answers c = λ other.
    let counted : vec_len c.args.rows.now.lead ≡ length c.args.rows.now.lead.items = omega arith in
    let count : c.len-then-len-gt200000.result ≡ length c.args.rows.now.lead.items = omega (arith, c.len-then-len-gt200000.ensures) in
    let many : 200000 < length c.args.rows.now.lead.items = omega (arith, c.if-len-gt200000.true, c.len.ensures) in
    rw count (front-lead c.args.number c.args.form (map facts_of c.args.files.now) c.args.rows.now (c.if-is_empty.ensures ∙ ap (λ n. n == 0) counted) c.in-Ok.field-0 c.in-Ok.ensures many)

pub returns-then-len-gt200000-2-clause-answers : goal.returns-then-len-gt200000-2-clause-answers
returns-then-len-gt200000-2-clause-answers c = λ other.
    let counted : vec_len c.args.rows.now.lead ≡ length c.args.rows.now.lead.items = omega arith in
    let count : c.len-then-len-gt200000-2.result ≡ length c.args.rows.now.other.items = omega (arith, c.len-then-len-gt200000-2.ensures) in
    let few : length c.args.rows.now.lead.items ≤ 200000 = omega (arith, c.if-len-gt200000.false, c.len.ensures) in
    let many : 200000 < length c.args.rows.now.other.items = omega (arith, c.if-len-gt200000-2.true, c.len-2.ensures) in
    rw count (front-other c.args.number c.args.form (map facts_of c.args.files.now) c.args.rows.now (c.if-is_empty.ensures ∙ ap (λ n. n == 0) counted) c.in-Ok.field-0 c.in-Ok.ensures few many)

pub returns-clause-answers : goal.returns-clause-answers
returns-clause-answers c =
    let counted : vec_len c.args.rows.now.lead ≡ length c.args.rows.now.lead.items = omega arith in
    let few : length c.args.rows.now.lead.items ≤ 200000 = omega (arith, c.if-len-gt200000.false, c.len.ensures) in
    let few_other : length c.args.rows.now.other.items ≤ 200000 = omega (arith, c.if-len-gt200000-2.false, c.len-2.ensures) in
    front-none c.args.number c.args.form (map facts_of c.args.files.now) c.args.rows.now (c.if-is_empty.ensures ∙ ap (λ n. n == 0) counted) c.in-Ok.field-0 c.in-Ok.ensures few few_other
