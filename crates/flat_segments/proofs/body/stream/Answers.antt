use Rattle.std.proofs.Common.{subst}
use Rattle.std.specs.Prelude.{IfSome, Ok}
use Rattle.vod_source.specs.Calls.{Came}
use Rattle.ts_writer.specs.Progress.{Writing}
use Rattle.flat_segments.specs.Bodies.{flat_shown, stream_reads, stream_shown}
use Rattle.flat_segments.proofs.body.stream.Goals as goal

pub returns-in-Ok-clause-told : goal.returns-in-Ok-clause-told
returns-in-Ok-clause-told g c =
    subst
    (λ (w : Writing). IfSome (g.S.Store.content c.args.files.now) (λ known.
    Came flat_shown c.written.result (Ok (stream_shown known w.stream c.args.rows)) (stream_reads known w.stream.hevc c.args.rows)
    (g.S.Store.log c.args.files.now) (g.S.Store.log c.written.new.files)))
    c.in-Ok.ensures c.written.ensures.told
