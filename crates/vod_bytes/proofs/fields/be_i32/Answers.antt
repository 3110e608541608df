use Rattle.std.proofs.Common.{rules}
use Rattle.vod_bytes.specs.Fields.{i32_at}
use Rattle.vod_bytes.proofs.fields.be_i32.Goals as goal

pub returns : goal.returns
unfolding i32_at
returns c = search rules
