use Rattle.std.proofs.Common.{ap, not, refl}
use Rattle.flat_lists.specs.Asked.{asking_view, setup_of}
use Rattle.vod_source.proofs.CallLemmas.{told_all, told_with_all}
use Rattle.mp4_flat.proofs.Leaves.{init_err, init_ok, init_untimed}
use Rattle.mp4_flat.proofs.segments.init_answer.Goals as goal

pub returns-in-Err-clause-told : goal.returns-in-Err-clause-told
returns-in-Err-clause-told g c =
    told_all (g.S.Store.content c.args.files.now) _
    (λ known. init_untimed (setup_of c.args.settings.now c.args.root.now known) (asking_view c.args.asking.now) c.args.sequence c.args.part c.args.asked c.in-Err.refusal _ c.in-Err.ensures.answers)

pub returns-in-Ok-init_of_part-clause-told : goal.returns-in-Ok-init_of_part-clause-told
returns-in-Ok-init_of_part-clause-told g c =
    told_with_all (g.S.Store.content c.args.files.now) _ _ c.in-Ok-init_of_part.ensures.told
    (λ known came. init_ok (setup_of c.args.settings.now c.args.root.now known) (asking_view c.args.asking.now) c.args.sequence c.args.part c.args.asked _ c.in-Ok.ensures.answers _ c.in-Ok-init_of_part.bytes _ _ _ _ refl (ap (λ s. not s.ignore_edits) c.settings.view_is) came)

pub returns-clause-told : goal.returns-clause-told
returns-clause-told g c =
    told_with_all (g.S.Store.content c.args.files.now) _ _ c.in-Err-init_of_part.ensures.told
    (λ known came. init_err (setup_of c.args.settings.now c.args.root.now known) (asking_view c.args.asking.now) c.args.sequence c.args.part c.args.asked _ c.in-Ok.ensures.answers _ c.in-Err-init_of_part.refusal _ _ _ (ap (λ s. not s.ignore_edits) c.settings.view_is) came)
