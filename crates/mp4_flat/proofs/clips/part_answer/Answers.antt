use Rattle.std.proofs.Common.{ap, not, inl}
use Rattle.segment_model.specs.Grid.{grid_of}
use Rattle.origin_model.specs.Requests.{cutting}
use Rattle.flat_lists.specs.Asked.{asking_view, setup_of}
use Rattle.vod_source.proofs.CallLemmas.{told_all, told_with_all}
use Rattle.mp4_flat.proofs.ClipAnswers.{clip_timed, clip_untimed}
use Rattle.mp4_flat.proofs.clips.part_answer.Goals as goal

pub returns-in-Err-clause-told : goal.returns-in-Err-clause-told
returns-in-Err-clause-told g c =
    told_all (g.S.Store.content c.args.files.now) _
    (λ known. clip_untimed (setup_of c.args.settings.now c.args.root.now known) (asking_view c.args.asking.now) c.args.sequence c.args.asked c.args.range c.in-Err.refusal _ c.in-Err.ensures.answers)

pub returns-in-Err-clause-refused : goal.returns-in-Err-clause-refused
returns-in-Err-clause-refused g c = inl c.in-Err.ensures.refused

pub returns-clause-told : goal.returns-clause-told
returns-clause-told g c =
    told_with_all (g.S.Store.content c.args.files.now) _ _ c.clip_part.ensures.told
    (λ known came. let o = setup_of c.args.settings.now c.args.root.now known in let a = asking_view c.args.asking.now in
    clip_timed o a c.args.sequence c.args.asked c.args.range _ _ c.clip_part.result _ _ c.in-Ok.ensures.answers (ap (λ s. not s.ignore_edits) c.settings.view_is)
    (came (cutting o a).grid (cutting o a).align))
