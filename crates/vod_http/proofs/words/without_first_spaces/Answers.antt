use Rattle.std.proofs.Common.{◌<◌, length, arith, sym, ◌∙◌}
use Rattle.vod_http.proofs.TrimLemmas.{space_next, space_ends, all_space}
use Rattle.vod_http.proofs.words.without_first_spaces.Goals as goal

pub returns-then-not-is_space : goal.returns-then-not-is_space
returns-then-not-is_space c =
    let within : c.loop-i.i < length c.args.bytes.now = omega arith in
    space_ends c.args.bytes.now c.loop-i.i within (sym c.is_space.ensures ∙ c.if-not-is_space.true) c.loop-i.invariant

pub loop-i-preserved : goal.loop-i-preserved
loop-i-preserved c =
    let within : c.loop-i.i < length c.args.bytes.now = omega arith in
    space_next c.args.bytes.now c.loop-i.i within (sym c.is_space.ensures ∙ c.if-not-is_space.false) c.loop-i.invariant

pub returns : goal.returns
returns c = all_space c.args.bytes.now c.loop-i.i (omega arith) c.loop-i.invariant
