use Rattle.std.proofs.Common.{◌≡◌, ◌+◌, true, false, [], ◌++◌, drop, ap, ◌∙◌, append_assoc, arith}
use Rattle.vod_bytes.specs.Fields.{be32}
use Rattle.vod_gen.proofs.edits.put_moved_chunk.Goals as goal

pub returns-in_ok-put_low : goal.returns-in_ok-put_low
returns-in_ok-put_low c true place is fits =
    absurd (omega (arith, c.number_at.ensures 0 (be32 0) is (omega arith), c.if-number_at-eq1.true))
returns-in_ok-put_low c false place is fits =
    let read : c.from.result ≡ place = c.from.ensures ∙ c.number_at-then-number_at-eq1.ensures place [] (ap (drop 4) is) fits in
    c.in_ok-put_low.ensures
    ∙ ap (λ l. l ++ be32 (c.from.result + c.args.by)) c.in_ok-u32.ensures.ok
    ∙ append_assoc c.args.buf.now (be32 1) (be32 (c.from.result + c.args.by))
    ∙ ap (λ n. c.args.buf.now ++ (be32 1 ++ be32 (n + c.args.by))) read

pub returns-in_ok-bytes : goal.returns-in_ok-bytes
returns-in_ok-bytes c true place is fits = c.in_ok-bytes.ensures.ok ∙ ap (λ l. c.args.buf.now ++ l) is
returns-in_ok-bytes c false place is fits =
    absurd (omega (arith, c.number_at.ensures 1 (be32 place) is (omega arith), c.if-number_at-eq1.false))
