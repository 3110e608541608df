use Rattle.std.proofs.Common.{◌≡◌, drop}
use Rattle.vod_source.specs.Memory.{files_in}
use Rattle.vod_source.specs.Stored.{file_named}
use Rattle.vod_source.proofs.memory.store.find.Given as goal

abbrev pub invariant-loop-known : goal.invariant-loop-known
invariant-loop-known l = file_named (files_in (drop l.known-index l.files)) l.name ≡ file_named (files_in l.files) l.name
