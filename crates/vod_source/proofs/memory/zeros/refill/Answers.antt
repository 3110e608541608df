use Rattle.std.proofs.Common.{◌≡◌, ◌∙◌, ◌+◌, ◌≤◌, ◌-◌, min, take, drop, length, ap, arith}
use Rattle.std.proofs.lemmas.List.{length-take, take_rest}
use Rattle.std.specs.Vec.{vec_len, vec_capacity}
use Rattle.vod_source.proofs.ZeroLemmas.{refilled}
use Rattle.vod_source.proofs.memory.zeros.refill.Goals as goal

pub returns-clause-bytes : goal.returns-clause-bytes
returns-clause-bytes c =
    let text = c.args.text.now in
    let rest = take_rest text c.min.result in
    let short = length-take c.min-2.result (take (length text - c.min.result) (drop c.min.result text)) in
    let room : vec_len c.clear.new.self + length (take c.min-2.result (take (length text - c.min.result) (drop c.min.result text))) ≤ vec_capacity c.clear.new.self =
    omega arith in
    let ok = c.extend_from_slice.ensures.succeeds room in
    let part = rw (ok, c.clear.ensures.items, rest) at c.extend_from_slice.ensures.items in
    let more : c.args.n ≤ vec_capacity c.extend_from_slice.new.self = omega arith in
    let filled = rw (c.resize.ensures.succeeds more, c.extend_from_slice.new.self.ok.0) at c.resize.ensures.items in
    let count : c.min-2.result ≡ min (length (drop c.min.result text)) c.args.n = omega (arith, ap length rest) in
    filled ∙ refilled text c.args.at c.args.n c.extend_from_slice.new.self.items (rw c.min.ensures at (part ∙ ap (λ k. take k (drop c.min.result text)) count))
