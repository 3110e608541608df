use Rattle.flat_lists.specs.Asked.{asking_view, setup_of}
use Rattle.origin_model.specs.Answers.{leaf_answer}
use Rattle.vod_source.proofs.CallLemmas.{told_with_all}
use Rattle.mp4_flat.proofs.PackLemmas.{body_put, list_refused, refusal_put}
use Rattle.mp4_flat.proofs.packaging.put_name.Goals as goal

pub leaf_answer-requires : goal.leaf_answer-requires
leaf_answer-requires g c = (c.args.dash, c.requires.leaf)

pub returns-in-Ok-clause-told : goal.returns-in-Ok-clause-told
returns-in-Ok-clause-told g c =
    told_with_all (g.S.Store.content c.args.files.now) _ _ c.in-Ok.ensures.told
    (λ known came. body_put c.args.dash (leaf_answer (setup_of c.args.settings.now c.args.root.now known) (asking_view c.args.asking.now)) c.args.leaf c.put_body.result _ _ c.in-Ok.body came.answered c.put_body.ensures.written)

pub returns-then-ends_at-clause-told : goal.returns-then-ends_at-clause-told
returns-then-ends_at-clause-told g c =
    told_with_all (g.S.Store.content c.args.files.now) _ _ c.in-Err.ensures.told
    (λ known came. list_refused c.args.dash (leaf_answer (setup_of c.args.settings.now c.args.root.now known) (asking_view c.args.asking.now)) c.args.leaf c.in-Err.refusal _ came.answered (c.ends_at.ensures.list c.if-ends_at.true))

pub returns-else-ends_at-clause-told : goal.returns-else-ends_at-clause-told
returns-else-ends_at-clause-told g c =
    told_with_all (g.S.Store.content c.args.files.now) _ _ c.in-Err.ensures.told
    (λ known came. refusal_put c.args.dash (leaf_answer (setup_of c.args.settings.now c.args.root.now known) (asking_view c.args.asking.now)) c.args.leaf c.put_refusal.result _ _ c.in-Err.refusal came.answered
    (c.ends_at.ensures.other c.if-ends_at.false) (c.ends_at.ensures.memory c.if-ends_at.false) (c.ends_at.ensures.store c.if-ends_at.false) c.put_refusal.ensures.written)
