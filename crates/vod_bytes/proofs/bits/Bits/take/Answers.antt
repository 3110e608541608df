use Rattle.std.proofs.Common.{◌+◌, ◌/◌, refl, ap, arith, Some}
use Rattle.std.proofs.lemmas.List.{drop-drop}
use Rattle.vod_bytes.specs.Bits.{bits_of}
use Rattle.vod_bytes.proofs.BitLemmas.{enough_bits, few_bits, bits_behind}
use Rattle.vod_bytes.proofs.FieldLemmas.{rest_from}
use Rattle.vod_bytes.proofs.bits.Bits.take.Goals as goal

pub returns-then-self-div_ceil-clause-number : goal.returns-then-self-div_ceil-clause-number
returns-then-self-div_ceil-clause-number c =
    let few = few_bits c.self.inside.bytes.now c.self.inside.used c.args.n c.self.invariant.1 (omega arith) in
    rw (← c.self.view_is, few) refl

pub returns-then-self-div_ceil-clause-rest : goal.returns-then-self-div_ceil-clause-rest
returns-then-self-div_ceil-clause-rest c =
    let few = few_bits c.self.inside.bytes.now c.self.inside.used c.args.n c.self.invariant.1 (omega arith) in
    rw (← c.self.view_is, few) refl

pub returns-clause-number : goal.returns-clause-number
returns-clause-number c =
    let enough = enough_bits c.self.inside.bytes.now c.self.inside.used c.args.n c.self.invariant.1 (omega arith) in
    rw (← c.self.view_is, enough) (ap Some c.number_at-number.ensures.number)

pub returns-clause-rest : goal.returns-clause-rest
returns-clause-rest c =
    let bytes = c.self.inside.bytes.now in
    let used = c.self.inside.used in
    let enough = enough_bits bytes used c.args.n c.self.invariant.1 (omega arith) in
    rw (← c.self.view_is, enough, rest_from bytes ((used + c.args.n) / 8), drop-drop c.args.n used (bits_of bytes))
    (bits_behind bytes (used + c.args.n) (omega (arith, c.div_ceil.ensures)))
