use Rattle.std.proofs.Common.{subst}
use Rattle.vod_types.specs.Results.{Answers}
use Rattle.clip_model.specs.Timeline.{timeline_of}
use Rattle.flat_lists.proofs.AskingLemmas.{timeline_refused}
use Rattle.answer_laws.proofs.Due.{answers_may}
use Rattle.answer_laws.proofs.Mappings.{timeline_may}
use Rattle.flat_lists.proofs.subject.Asking.timeline.Goals as goal

pub returns-clause-not_failed : goal.returns-clause-not_failed
returns-clause-not_failed c = timeline_refused c.args.root.now c.args.self.now.mapping c.args.sequence c.args.self.now.window c.args.self.now.tracks _
    (subst (λ tracks. Answers (λ t. t) c.timeline.result (timeline_of c.args.root.now c.args.self.now.mapping c.args.sequence c.args.self.now.window tracks)) c.as_ref.ensures.value c.timeline.ensures)

pub returns-clause-refused : goal.returns-clause-refused
returns-clause-refused c = answers_may (λ t. t) _ (timeline_may c.args.root.now c.args.self.now.mapping c.args.sequence c.args.self.now.window c.args.self.now.tracks) c.timeline.result
    (subst (λ tracks. Answers (λ t. t) c.timeline.result (timeline_of c.args.root.now c.args.self.now.mapping c.args.sequence c.args.self.now.window tracks)) c.as_ref.ensures.value c.timeline.ensures)
