use Rattle.std.proofs.Common.{rules, IsTrue, List, [], ◌++◌, Some, refl, sym, ap, ◌∙◌, subst, append_assoc, ℕ}
use Rattle.std.proofs.lemmas.List.{append-nil}
use Rattle.vod_session.specs.Calls.{AreAnswers, TellsRest}
use Rattle.vod_session.specs.Sessions.{SessionValue, SendsOnly, is_under_way}
use Rattle.vod_session.specs.Steps.{IsStep}
use Rattle.vod_session.specs.Histories.{IsServing}
use Rattle.vod_session.specs.declared.state.Turn.TheVariants.{Again, Ended}
use Rattle.vod_session.proofs.ServingLemmas.{serving_starts, serving_step, serving_ends, serving_tells}
use Rattle.vod_session.proofs.serve.serve_on.Goals as goal

pub steps-init : goal.steps-init
steps-init g c = record {
  under_way = subst (λ (s : SessionValue _). IsTrue (is_under_way s.state)) (sym c.requires) refl;
  belongs = subst (λ (s : SessionValue _). SendsOnly (g.A.Answerer.belongs (g.A.Answerer.kept c.args.a.now)) g.A.Answerer.under_way g.A.Answerer.in_packets s.state) (sym c.requires) tt;
  kept = refl;
  later = search rules;
  link_later = search rules;
  serving = λ answer told input text left written. (
    [],
    input,
    left,
    written ∙ ap (λ (bytes : List ℕ). Some bytes) (sym (append-nil text)),
    subst (λ (s : SessionValue _). IsServing answer (g.A.Answerer.rest (g.A.Answerer.kept c.args.a.now)) input [] input s (g.A.Answerer.faults c.args.a.now) (g.A.Answerer.faults c.args.a.now))
        (sym c.requires) (serving_starts answer (g.A.Answerer.rest (g.A.Answerer.kept c.args.a.now)) input (g.A.Answerer.faults c.args.a.now)),
  );
}

pub steps-preserved : goal.steps-preserved
steps-preserved g c =
    let kept = c.steps.invariant.kept in
    record {
      under_way = search (rules, c.in-Again.ensures.under_way);
      belongs = c.in-Again.ensures.belongs;
      kept = c.in-Again.ensures.kept ∙ kept;
      later = search rules;
      link_later = search rules;
      serving = λ answer told input text left written.
          let were = c.steps.invariant.serving answer told input text left written in
          let told_now : AreAnswers (g.A.Answerer.answer (g.A.Answerer.kept c.steps.a)) answer = subst (λ (k : g.A.Answerer.Kept). AreAnswers (g.A.Answerer.answer k) answer) (sym kept) told in
          let tells = λ (serving : IsServing answer (g.A.Answerer.rest (g.A.Answerer.kept c.args.a.now)) input were.0 were.1 c.steps.session (g.A.Answerer.faults c.args.a.now) (g.A.Answerer.faults c.steps.a)).
          subst (λ (k : g.A.Answerer.Kept). TellsRest (g.A.Answerer.rest k) c.steps.session.state) (sym kept)
          (serving_tells answer (g.A.Answerer.rest (g.A.Answerer.kept c.args.a.now)) input were.0 were.1 c.steps.session (g.A.Answerer.faults c.args.a.now) (g.A.Answerer.faults c.steps.a) serving) in
          let did = c.in-Again.ensures.did answer told_now were.1 (text ++ were.0) were.2 were.3 (tells were.4) in (
            were.0 ++ did.0,
            did.1,
            did.2,
            did.3 ∙ ap (λ (bytes : List ℕ). Some bytes) (append_assoc text were.0 did.0),
            serving_step answer (g.A.Answerer.rest (g.A.Answerer.kept c.args.a.now)) input were.0 were.1 did.1 did.0 c.steps.session c.step.new.self
                (g.A.Answerer.faults c.args.a.now) (g.A.Answerer.faults c.steps.a) (g.A.Answerer.faults c.step.new.a) were.4 c.in-Again.ensures.later
                (subst (λ (k : g.A.Answerer.Kept). IsStep answer (g.A.Answerer.rest k) c.steps.session c.step.new.self were.1 did.1 did.0 (g.A.Answerer.faults c.steps.a) (g.A.Answerer.faults c.step.new.a) Again) kept did.4),
          );
    }

pub returns-in-Ended-clause-served : goal.returns-in-Ended-clause-served
returns-in-Ended-clause-served g c = λ answer told input text left written ends.
    let kept = c.steps.invariant.kept in
    let were = c.steps.invariant.serving answer told input text left written in
    let told_now : AreAnswers (g.A.Answerer.answer (g.A.Answerer.kept c.steps.a)) answer = subst (λ (k : g.A.Answerer.Kept). AreAnswers (g.A.Answerer.answer k) answer) (sym kept) told in
    let tells = λ (serving : IsServing answer (g.A.Answerer.rest (g.A.Answerer.kept c.args.a.now)) input were.0 were.1 c.steps.session (g.A.Answerer.faults c.args.a.now) (g.A.Answerer.faults c.steps.a)).
    subst (λ (k : g.A.Answerer.Kept). TellsRest (g.A.Answerer.rest k) c.steps.session.state) (sym kept)
    (serving_tells answer (g.A.Answerer.rest (g.A.Answerer.kept c.args.a.now)) input were.0 were.1 c.steps.session (g.A.Answerer.faults c.args.a.now) (g.A.Answerer.faults c.steps.a) serving) in
    let did = c.in-Ended.ensures.did answer told_now were.1 (text ++ were.0) were.2 were.3 (tells were.4) in (
      were.0 ++ did.0,
      did.3 ∙ ap (λ (bytes : List ℕ). Some bytes) (append_assoc text were.0 did.0),
      serving_ends answer (g.A.Answerer.rest (g.A.Answerer.kept c.args.a.now)) input were.0 were.1 did.1 did.0 c.steps.session c.step.new.self
          (g.A.Answerer.faults c.args.a.now) (g.A.Answerer.faults c.steps.a) (g.A.Answerer.faults c.step.new.a) were.4 c.in-Ended.ensures.later c.in-Ended.end
          (subst (λ (k : g.A.Answerer.Kept). IsStep answer (g.A.Answerer.rest k) c.steps.session c.step.new.self were.1 did.1 did.0 (g.A.Answerer.faults c.steps.a) (g.A.Answerer.faults c.step.new.a) (Ended c.in-Ended.end)) kept did.4),
    )
