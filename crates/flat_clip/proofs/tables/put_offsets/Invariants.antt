use Rattle.std.proofs.Common.{◌≡◌, ◌++◌, take}
use Rattle.std.specs.Prelude.{flat_map}
use Rattle.media_model.specs.Clip.{offset_entry}
use Rattle.flat_clip.proofs.tables.put_offsets.Given as goal

abbrev pub invariant-loop-row : goal.invariant-loop-row
invariant-loop-row l = l.buf ≡ l.fn.buf ++ flat_map offset_entry (take l.row-index l.rows)
