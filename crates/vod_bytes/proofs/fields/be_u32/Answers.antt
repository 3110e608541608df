use Rattle.std.proofs.Common.{arith, ◌∙◌}
use Rattle.vod_bytes.specs.Fields.{u32_at}
use Rattle.vod_bytes.proofs.FieldLemmas.{rest_from}
use Rattle.vod_bytes.proofs.fields.be_u32.Goals as goal

pub returns : goal.returns
unfolding u32_at
returns c = c.read_u32.ensures ∙ rw (rest_from c.args.bytes.now c.args.at) (omega arith)
