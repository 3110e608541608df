use Rattle.std.proofs.Common.{◌≡◌, ◌++◌, take}
use Rattle.std.specs.Prelude.{flat_map}
use Rattle.vod_bytes.specs.Fields.{be32}
use Rattle.flat_clip.proofs.tables.put_numbers.Given as goal

abbrev pub invariant-loop-number : goal.invariant-loop-number
invariant-loop-number l = l.buf ≡ l.fn.buf ++ flat_map be32 (take l.number-index l.numbers)
