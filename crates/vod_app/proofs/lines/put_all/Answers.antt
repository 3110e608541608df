use Rattle.std.proofs.Common.{sym, ap, ◌∙◌, arith}
use Rattle.std.proofs.lemmas.Result.{err_from_is_err_and}
use Rattle.vod_source.specs.Told.{told_with}
use Rattle.vod_source.proofs.ToldLemmas.{told_with-more}
use Rattle.vod_app.proofs.RunLemmas.{pieces_more, put_prefix}
use Rattle.vod_app.proofs.lines.put_all.Goals as goal

pub returns-in_err-put-clause-written : goal.returns-in_err-put-clause-written
returns-in_err-put-clause-written g c =
    let p = err_from_is_err_and c.from_residual.result c.from_residual.ensures.1 in
    rw p.1 (put_prefix c.args.pieces.now c.loop-piece.piece-index _ (omega arith) c.loop-piece.invariant.written c.in_err-put.ensures.written)

pub loop-piece-preserved : goal.loop-piece-preserved
loop-piece-preserved g c = record {
  kept = c.put.ensures.kept ∙ c.loop-piece.invariant.kept;
  later = omega (arith, c.put.ensures.cause.later, c.loop-piece.invariant.later);
  written =
      told_with-more _ _ _ _ _ c.loop-piece.invariant.written c.in_ok-put.ensures.written
      ∙ ap (told_with (g.K.Sink.written c.args.sink.now)) (sym (pieces_more c.args.pieces.now c.loop-piece.piece-index _ (omega arith)));
}
