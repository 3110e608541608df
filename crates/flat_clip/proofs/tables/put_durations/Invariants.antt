use Rattle.std.proofs.Common.{◌≡◌, ◌++◌, drop}
use Rattle.std.specs.Prelude.{flat_map}
use Rattle.media_model.specs.Clip.{duration_entry, durations}
use Rattle.flat_clip.proofs.tables.put_durations.Given as goal

abbrev pub invariant-loop-place : goal.invariant-loop-place
invariant-loop-place l = l.buf ++ flat_map duration_entry (durations (drop l.place l.rows)) ≡ l.fn.buf ++ flat_map duration_entry (durations l.rows)
