use Rattle.std.proofs.Common.{◌≡◌, ◌++◌, take}
use Rattle.std.specs.Prelude.{flat_map}
use Rattle.vod_bytes.specs.Fields.{be32}
use Rattle.flat_clip.proofs.tables.put_sizes.Given as goal

abbrev pub invariant-loop-row : goal.invariant-loop-row
invariant-loop-row l = l.buf ≡ l.fn.buf ++ flat_map (λ row. be32 row.sample.size) (take l.row-index l.rows)
