use Rattle.std.proofs.Common.{◌≡◌, ◌≤◌, ◌+◌, ◌*◌, ◌-◌, ◌/◌, ◌%◌, ◌^◌, sym, arith, length}
use Rattle.std.proofs.Math.Nat.{pow-le-pow_right, mod-lt, one-le-pow}
use Rattle.vod_bytes.proofs.BitLemmas.{bit_window}
use Rattle.vod_bytes.proofs.bits.number_at.Goals as goal

pub returns-clause-number : goal.returns-clause-number
returns-clause-number c =
    let span = c.div_ceil-span.result in
    let within : c.args.start + c.args.n ≤ 8 * span = omega (arith, c.div_ceil-span.ensures) in
    let room : span ≤ length c.args.bytes.now = omega (arith, c.div_ceil-span.ensures) in
    let number = bit_window c.args.bytes.now span c.args.start c.args.n within room (λ i. let fit = c.type_inv.bytes i in omega arith) in
    let mask : 1 * 2 ^ c.args.n % 18446744073709551616 ≡ 2 ^ c.args.n = omega (arith, pow-le-pow_right {n = 2} (omega arith) {i = c.args.n} {j = 32} c.requires.most) in
    rw (mask, c.read_uint-through.ensures) (sym number)

pub returns-clause-fits : goal.returns-clause-fits
returns-clause-fits c =
    let mask : 1 * 2 ^ c.args.n % 18446744073709551616 ≡ 2 ^ c.args.n = omega (arith, pow-le-pow_right {n = 2} (omega arith) {i = c.args.n} {j = 32} c.requires.most) in
    rw mask (mod-lt (c.read_uint-through.result / 2 ^ (8 * c.div_ceil-span.result - (c.args.start + c.args.n))) (one-le-pow c.args.n 2 (omega arith)))
