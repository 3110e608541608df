use Rattle.std.proofs.Common.{arith, sym}
use Rattle.fmp4_writer.proofs.EntryLemmas.{payload_place-long, payload_place-short, reference-within}
use Rattle.fmp4_writer.proofs.track_boxes.payload_at.Goals as goal

pub be_u32-requires : goal.be_u32-requires
be_u32-requires c = omega (arith, reference-within c.args.entry.now c.requires)

pub returns-then-be_u32-eq1-clause-place : goal.returns-then-be_u32-eq1-clause-place
returns-then-be_u32-eq1-clause-place c = sym (payload_place-long _ _ c.be_u32.ensures c.if-be_u32-eq1.true)

pub returns-then-be_u32-eq1-clause-within : goal.returns-then-be_u32-eq1-clause-within
returns-then-be_u32-eq1-clause-within c =
    omega (arith, payload_place-long _ _ c.be_u32.ensures c.if-be_u32-eq1.true, reference-within c.args.entry.now c.requires)

pub returns-else-be_u32-eq1-clause-place : goal.returns-else-be_u32-eq1-clause-place
returns-else-be_u32-eq1-clause-place c = sym (payload_place-short _ _ c.be_u32.ensures c.if-be_u32-eq1.false)

pub returns-else-be_u32-eq1-clause-within : goal.returns-else-be_u32-eq1-clause-within
returns-else-be_u32-eq1-clause-within c =
    omega (arith, payload_place-short _ _ c.be_u32.ensures c.if-be_u32-eq1.false, reference-within c.args.entry.now c.requires)
