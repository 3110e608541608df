use Rattle.std.proofs.Common.{arith, sym}
use Rattle.flat_clip.proofs.EntryLemmas.{payload_place-long, payload_place-short, payload_place-least}
use Rattle.flat_clip.proofs.tables.payload_at.Goals as goal

pub be_u32-requires : goal.be_u32-requires
be_u32-requires c = omega (arith, c.requires, payload_place-least c.args.entry.now)

pub returns-then-be_u32-eq1-clause-place : goal.returns-then-be_u32-eq1-clause-place
returns-then-be_u32-eq1-clause-place c = sym (payload_place-long _ _ c.be_u32.ensures c.if-be_u32-eq1.true)

pub returns-then-be_u32-eq1-clause-within : goal.returns-then-be_u32-eq1-clause-within
returns-then-be_u32-eq1-clause-within c =
    omega (arith, payload_place-long _ _ c.be_u32.ensures c.if-be_u32-eq1.true, c.requires)

pub returns-else-be_u32-eq1-clause-place : goal.returns-else-be_u32-eq1-clause-place
returns-else-be_u32-eq1-clause-place c = sym (payload_place-short _ _ c.be_u32.ensures c.if-be_u32-eq1.false)

pub returns-else-be_u32-eq1-clause-within : goal.returns-else-be_u32-eq1-clause-within
returns-else-be_u32-eq1-clause-within c =
    omega (arith, payload_place-short _ _ c.be_u32.ensures c.if-be_u32-eq1.false, c.requires)
