use Rattle.std.proofs.Common.{◌≡◌, ◌++◌, ◌+◌, drop}
use Rattle.media_model.specs.Clip.{sync_numbers}
use Rattle.flat_clip.specs.Tracks.{sync_numbers_from}
use Rattle.flat_clip.proofs.tables.sync_numbers.Given as goal

abbrev pub invariant-loop-place : goal.invariant-loop-place
invariant-loop-place l = l.numbers.items ++ sync_numbers_from (l.place + 1) (drop l.place l.rows) ≡ sync_numbers l.rows
