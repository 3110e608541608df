use Rattle.std.proofs.Common.{◌≤◌, List, length, take, subst, refl, sym, ap, ◌∙◌, ◌++◌, append-nil, arith}
use Rattle.std.proofs.lemmas.List.{take_all}
use Rattle.std.proofs.lemmas.List.Elements.{All-get_or}
use Rattle.flat_lists.specs.declared.shown.Shown.{Shown}
use Rattle.flat_lists.specs.Asked.{asking_view, setup_of}
use Rattle.flat_lists.specs.Shown.{IsShown}
use Rattle.vod_source.proofs.CallLemmas.{told_all, told_with_all, told_with_other}
use Rattle.mp4_flat.specs.Packed.{sequence_leaves, shown_leaves}
use Rattle.mp4_flat.proofs.NameLemmas.{joined_item}
use Rattle.mp4_flat.proofs.hls_names.push_sequences.Goals as goal

pub loop-one-init : goal.loop-one-init
loop-one-init g c = record {
  content = refl;
  later = omega arith;
  told = told_all (g.S.Store.content c.args.files.now) _ (λ known. sym (append-nil c.args.names.now.items));
  each = λ all. all;
}

pub push_sequence-requires-clause-sequence : goal.push_sequence-requires-clause-sequence
push_sequence-requires-clause-sequence g c =
    (subst (IsShown (length c.args.asking.now.mapping.sequences)) (sym c.one-item.is)
    (All-get_or (IsShown (length c.args.asking.now.mapping.sequences)) c.args.shown.now c.loop-one.one-index c.one-item.result c.loop-one-test.true c.requires.each)).variant.sequence

pub push_sequence-requires-clause-asked : goal.push_sequence-requires-clause-asked
push_sequence-requires-clause-asked g c =
    (subst (IsShown (length c.args.asking.now.mapping.sequences)) (sym c.one-item.is)
    (All-get_or (IsShown (length c.args.asking.now.mapping.sequences)) c.args.shown.now c.loop-one.one-index c.one-item.result c.loop-one-test.true c.requires.each)).variant.asked

pub loop-one-preserved : goal.loop-one-preserved
loop-one-preserved g c = record {
  content = c.in-Ok.ensures.content ∙ c.loop-one.invariant.content;
  later = omega (arith, c.in-Ok.ensures.later, c.loop-one.invariant.later);
  told = told_with_other (g.S.Store.content c.args.files.now) _ _ _ _ c.loop-one.invariant.content c.loop-one.invariant.told c.in-Ok.ensures.told
      (λ known path put. joined_item c.args.shown.now c.loop-one.one-index c.one-item.result c.args.names.now.items _ _ c.loop-one-test.true c.one-item.is
      (λ s. sequence_leaves (setup_of c.args.settings.now c.args.root.now known) (asking_view c.args.asking.now) s.sequence s.asked) path put);
  each = λ all. c.in-Ok.ensures.each (c.loop-one.invariant.each all);
}

pub returns-clause-told : goal.returns-clause-told
returns-clause-told g c =
    let past : length c.args.shown.now ≤ c.loop-one.one-index = omega arith in
    told_with_all (g.S.Store.content c.args.files.now) _ _ c.loop-one.invariant.told
    (λ known path. path ∙ ap (λ (shown : List Shown). c.args.names.now.items ++ shown_leaves (setup_of c.args.settings.now c.args.root.now known) (asking_view c.args.asking.now) shown) (take_all c.loop-one.one-index c.args.shown.now past))
