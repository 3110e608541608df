use Rattle.std.proofs.Common.{◌≡◌, take, string_bytes}
use Rattle.list_model.specs.Command.{reads_text}
use Rattle.vod_source.specs.Logs.{reads_of}
use Rattle.vod_app.proofs.reads.reads_text.Given as goal

abbrev pub invariant-loop-entry : goal.invariant-loop-entry
invariant-loop-entry g l = string_bytes l.text ≡ reads_text (reads_of l.logged.names (take l.entry-index l.logged.entries))
