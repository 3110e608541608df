-- What comes before the rows, in its order.
use Rattle.std.proofs.Common.{◌<◌, ◌≤◌, map, arith}
use Rattle.vod_plan.specs.RowFaults.{facts_of}
use Rattle.vod_plan.proofs.Fronts.{front-empty, front-mixed, front-lead, front-other, front-none}
use Rattle.vod_plan.proofs.checks.check_front.Goals as goal

pub returns-then-lead-eq0-clause-answers : goal.returns-then-lead-eq0-clause-answers
returns-then-lead-eq0-clause-answers c = λ other. front-empty c.args.number c.args.form (map facts_of c.args.pieces.now) c.args.counts.0 c.args.counts.1 c.if-lead-eq0.true

pub returns-in-Err-clause-answers : goal.returns-in-Err-clause-answers
returns-in-Err-clause-answers c = λ other.
    front-mixed c.args.number c.args.form (map facts_of c.args.pieces.now) c.args.counts.0 c.args.counts.1 c.if-lead-eq0.false c.in-Err.refusal (c.in-Err.ensures.answers other)

pub returns-then-lead-gt200000-clause-answers : goal.returns-then-lead-gt200000-clause-answers
returns-then-lead-gt200000-clause-answers c = λ other.
    let many : 200000 < c.args.counts.0 = omega (arith, c.if-lead-gt200000.true) in
    front-lead c.args.number c.args.form (map facts_of c.args.pieces.now) c.args.counts.0 c.args.counts.1 c.if-lead-eq0.false c.in-Ok.field-0 c.in-Ok.ensures.answers many

pub returns-then-other-gt200000-clause-answers : goal.returns-then-other-gt200000-clause-answers
returns-then-other-gt200000-clause-answers c = λ other.
    let few : c.args.counts.0 ≤ 200000 = omega (arith, c.if-lead-gt200000.false) in
    let many : 200000 < c.args.counts.1 = omega (arith, c.if-other-gt200000.true) in
    front-other c.args.number c.args.form (map facts_of c.args.pieces.now) c.args.counts.0 c.args.counts.1 c.if-lead-eq0.false c.in-Ok.field-0 c.in-Ok.ensures.answers few many

pub returns-clause-answers : goal.returns-clause-answers
returns-clause-answers c =
    let few : c.args.counts.0 ≤ 200000 = omega (arith, c.if-lead-gt200000.false) in
    let few_other : c.args.counts.1 ≤ 200000 = omega (arith, c.if-other-gt200000.false) in
    front-none c.args.number c.args.form (map facts_of c.args.pieces.now) c.args.counts.0 c.args.counts.1 c.if-lead-eq0.false c.in-Ok.field-0 c.in-Ok.ensures.answers few few_other
