use Rattle.std.proofs.Common.{◌+◌, ap₂, ◌∙◌, sym, subst, arith}
use Rattle.vod_session.specs.Calls.{AreAnswers}
use Rattle.vod_app.specs.Rehearsals.{answered_media}
use Rattle.vod_app.proofs.RehearsalLemmas.{sum_more}
use Rattle.vod_app.proofs.rehearsals.media_of.Goals as goal

pub loop-row-preserved : goal.loop-row-preserved
loop-row-preserved g c =
    let kept = c.loop-row.invariant.kept in
    record {
      media = λ answers told.
          let now : AreAnswers (g.A.Answerer.answer (g.A.Answerer.kept c.loop-row.a)) answers = subst (λ k. AreAnswers (g.A.Answerer.answer k) answers) (sym kept) told in
          let one = c.in_ok-segment_media.ensures.media answers now in
          ap₂ (λ a b. a + b) (c.loop-row.invariant.media answers told) (c.from.ensures ∙ one)
          ∙ sym (sum_more (answered_media answers) c.args.rows.now c.loop-row.row-index _ (omega arith));
      few = omega (arith, c.loop-row.invariant.few, c.from.ensures);
      kept = c.in_ok-segment_media.ensures.kept ∙ kept;
    }
