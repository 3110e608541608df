use Rattle.std.proofs.Common.{◌≡◌, ◌++◌, take}
use Rattle.std.specs.Prelude.{flat_map}
use Rattle.vod_bytes.specs.Fields.{be64}
use Rattle.flat_clip.proofs.tables.put_places.Given as goal

abbrev pub invariant-loop-place : goal.invariant-loop-place
invariant-loop-place l = l.buf ≡ l.fn.buf ++ flat_map be64 (take l.place-index l.places)
