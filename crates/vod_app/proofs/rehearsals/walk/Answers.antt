use Rattle.std.proofs.Common.{rules, Some, ◌∙◌, subst}
use Rattle.vod_http.specs.Answered.{Advances}
use Rattle.vod_source.specs.declared.step.Step.TheVariants.{Again}
use Rattle.vod_app.proofs.RehearsalLemmas.{rest_on}
use Rattle.vod_app.proofs.rehearsals.walk.Goals as goal

pub steps-preserved : goal.steps-preserved
steps-preserved g c =
    let kept = c.steps.invariant.kept in
    record {
      belongs = c.in-Again.ensures.belongs;
      under_way = search (rules, c.in-Again.ensures.under_way);
      kept = c.in-Again.ensures.kept ∙ kept;
      rest =
          rest_on (g.A.Answerer.rest (g.A.Answerer.kept c.args.a.now) c.args.cursor) _ _ c.steps.sink.bytes c.more.new.sink.bytes c.steps.invariant.rest
          (subst (λ k. Advances (g.A.Answerer.rest k c.steps.cursor) (g.A.Answerer.rest k c.more.new.cursor) (Some c.steps.sink.bytes) (Some c.more.new.sink.bytes) Again) kept
          (subst (λ k. Advances (g.A.Answerer.rest (g.A.Answerer.kept c.steps.a) c.steps.cursor) (g.A.Answerer.rest k c.more.new.cursor) (Some c.steps.sink.bytes) (Some c.more.new.sink.bytes) Again)
          c.in-Again.ensures.kept c.in-Again.ensures.advances));
    }
