-- The timeline is that of what is asked for.
use Rattle.std.proofs.Common.{Result, ap, ◌∙◌}
use Rattle.vod_types.specs.declared.refusal.Refusal.{Refusal}
use Rattle.vod_types.specs.Results.{◌>>=◌}
use Rattle.clip_model.specs.Timeline.{Timeline}
use Rattle.origin_model.specs.Requests.{Asking}
use Rattle.vod_source.proofs.CallLemmas.{told_with_all}
use Rattle.flat_lists.specs.Asked.{asking_view, setup_of}
use Rattle.vod_origin.specs.Wanted.{cut_of}
use Rattle.vod_origin.proofs.WantedLemmas.{cut_with}
use Rattle.vod_origin.proofs.plans.sequence_cut.Goals as goal

pub returns-in-Err-timeline-clause-told : goal.returns-in-Err-timeline-clause-told
returns-in-Err-timeline-clause-told g c =
    told_with_all (g.S.Store.content c.args.store.now) _ _ c.in-Ok.ensures.told
    (λ known came known_memory known_store. let o = setup_of c.args.settings.now c.args.root.now known in
    ap (λ (r : Result Asking Refusal). r >>= λ a. cut_of o a c.args.sequence) (came c.args.settings.now).answered
    ∙ ap (λ (r : Result Timeline Refusal). r >>= cut_with o (asking_view c.in-Ok.asking)) (c.in-Err-timeline.ensures.answers known_memory))
