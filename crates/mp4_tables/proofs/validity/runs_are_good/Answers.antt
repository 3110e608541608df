use Rattle.std.proofs.Common.{◌≡◌, ◌-◌, ◌*◌, sym, arith}
use Rattle.mp4_tables.proofs.Passes.{chunks_wrong, chunks_begin, zero_within, next_run, chunks_more, chunks_stop}
use Rattle.mp4_tables.proofs.validity.runs_are_good.Goals as goal

pub returns-then-not-begins_at_one : goal.returns-then-not-begins_at_one
returns-then-not-begins_at_one c = sym (chunks_wrong c.args.samples c.args.chunks _ (cc))

pub loop-i-init : goal.loop-i-init
loop-i-init c = record { left = chunks_begin c.args.samples c.args.chunks _ (cc); within = zero_within c.args.chunks; fits = omega arith }

pub returns-then-not-is_next_run : goal.returns-then-not-is_next_run
returns-then-not-is_next_run c = sym (chunks_stop c.args.samples c.args.chunks c.loop-i.first_chunk c.loop-i.per_chunk c.loop-i.total c.loop-i.i c.at-run.result _ _ c.loop-i.invariant.left c.at-run.ensures (cc))

pub loop-i-preserved : goal.loop-i-preserved
loop-i-preserved c =
    let next = next_run c.args.chunks c.loop-i.first_chunk c.at-run.result (cc) in
    let product : c.product-total.result ≡ (c.at-run.result.0 - c.loop-i.first_chunk) * c.loop-i.per_chunk = cc in
    record {
      left = rw product (chunks_more c.args.samples c.args.chunks c.loop-i.first_chunk c.loop-i.per_chunk c.loop-i.total c.loop-i.i c.at-run.result _ _ c.loop-i.invariant.left c.at-run.ensures (cc));
      within = next.1;
      fits = omega (arith, next.0);
    }
