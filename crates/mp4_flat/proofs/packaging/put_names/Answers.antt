use Rattle.std.proofs.Common.{◌≤◌, length, refl, ◌∙◌, arith}
use Rattle.flat_lists.specs.Asked.{asking_view, setup_of}
use Rattle.origin_model.specs.Answers.{leaf_answer}
use Rattle.vod_source.proofs.CallLemmas.{told_all, told_with_all, told_with_other}
use Rattle.mp4_flat.proofs.PackLemmas.{all_put, name_failed, name_put, name_refused, path_begun}
use Rattle.mp4_flat.proofs.packaging.put_names.Goals as goal

pub loop-leaf-init : goal.loop-leaf-init
loop-leaf-init g c = record {
  content = refl;
  kept = refl;
  later = omega arith;
  out_later = omega arith;
  path = told_all (g.S.Store.content c.args.files.now) _
      (λ known. path_begun c.args.dash (leaf_answer (setup_of c.args.settings.now c.args.root.now known) (asking_view c.args.asking.now)) c.args.leaves.now (g.K.Sink.written c.args.out.now));
}

pub returns-in-Refused-clause-told : goal.returns-in-Refused-clause-told
returns-in-Refused-clause-told g c =
    told_with_other (g.S.Store.content c.args.files.now) _ _ _ _ c.loop-leaf.invariant.content c.loop-leaf.invariant.path c.in-Refused.ensures.told
    (λ known path put. name_refused c.args.dash (leaf_answer (setup_of c.args.settings.now c.args.root.now known) (asking_view c.args.asking.now)) c.args.leaves.now _
    c.loop-leaf.leaf-index _ _ _ c.loop-leaf-test.true path c.in-Refused.refusal put)

pub returns-in-SinkFailed-clause-told : goal.returns-in-SinkFailed-clause-told
returns-in-SinkFailed-clause-told g c =
    told_with_other (g.S.Store.content c.args.files.now) _ _ _ _ c.loop-leaf.invariant.content c.loop-leaf.invariant.path c.in-SinkFailed.ensures.told
    (λ known path put. name_failed c.args.dash (leaf_answer (setup_of c.args.settings.now c.args.root.now known) (asking_view c.args.asking.now)) c.args.leaves.now _
    c.loop-leaf.leaf-index _ _ _ c.loop-leaf-test.true path put)

pub loop-leaf-preserved : goal.loop-leaf-preserved
loop-leaf-preserved g c = record {
  content = c.in-Whole.ensures.content ∙ c.loop-leaf.invariant.content;
  kept = c.in-Whole.ensures.kept ∙ c.loop-leaf.invariant.kept;
  later = omega (arith, c.in-Whole.ensures.later, c.loop-leaf.invariant.later);
  out_later = omega (arith, c.in-Whole.ensures.out_later, c.loop-leaf.invariant.out_later);
  path = told_with_other (g.S.Store.content c.args.files.now) _ _ _ _ c.loop-leaf.invariant.content c.loop-leaf.invariant.path c.in-Whole.ensures.told
      (λ known path put. name_put c.args.dash (leaf_answer (setup_of c.args.settings.now c.args.root.now known) (asking_view c.args.asking.now)) c.args.leaves.now _
      c.loop-leaf.leaf-index _ _ _ c.loop-leaf-test.true path put);
}

pub returns-clause-told : goal.returns-clause-told
returns-clause-told g c =
    let past : length c.args.leaves.now ≤ c.loop-leaf.leaf-index = omega arith in
    told_with_all (g.S.Store.content c.args.files.now) _ _ c.loop-leaf.invariant.path
    (λ known path. all_put c.args.dash (leaf_answer (setup_of c.args.settings.now c.args.root.now known) (asking_view c.args.asking.now)) c.args.leaves.now _ c.loop-leaf.leaf-index _ past path)
