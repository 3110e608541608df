use Rattle.std.proofs.Common.{take}
use Rattle.vod_http.proofs.FieldLemmas.{HasFound}
use Rattle.vod_http.proofs.fields.range_of_all.Given as goal

abbrev pub invariant-loop-field : goal.invariant-loop-field
invariant-loop-field l = HasFound l.bytes (take l.field-index l.fields) l.found
