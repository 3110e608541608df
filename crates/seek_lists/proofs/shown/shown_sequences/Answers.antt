-- One more sequence is shown, or all are.
use Rattle.std.proofs.Common.{◌≡◌, ℕ, ◌+◌, ◌<◌, ◌≤◌, Bool, cond, List, [], ◌∷◌, ◌++◌, length, All, IfSome, refl, sym, ap, ◌∙◌, subst, arith}
use Rattle.std.proofs.lemmas.List.Elements.{All-nil, All-cons, All-append}
use Rattle.vod_source.proofs.CallLemmas.{told_all, told_with_all, told_with_other}
use Rattle.flat_lists.specs.declared.shown.Shown.{Shown}
use Rattle.flat_lists.specs.Shown.{IsShown}
use Rattle.flat_lists.proofs.ShownLemmas.{numbers_from, no_numbers, all_numbers}
use Rattle.vod_meta.specs.Held.{AreTrue}
use Rattle.seek_lists.proofs.Ways.{ways_begin, way_on, way_refused, way_stopped, way_whole}
use Rattle.seek_lists.proofs.shown.shown_sequences.Goals as goal

pub loop-sequence-init : goal.loop-sequence-init
loop-sequence-init g c =
    let count = length c.args.asking.now.mapping.sequences in
    let end : c.sequences-end.result + 1 ≡ count + 1 = ap (λ (n : ℕ). n + 1) c.sequences-end.ensures.count in
    record {
      content = refl;
      later = omega arith;
      held = c.requires.held;
      looks = omega arith;
      first = omega arith;
      shown = subst (All (IsShown count)) (sym c.new-all.ensures.items) (All-nil (IsShown count));
      way = told_all (g.S.Store.content c.args.store.now) _ (λ known.
          ways_begin known _ _ _ _ c.new-all.result.items _ (g.S.Store.log c.args.store.now) (all_numbers count (c.sequences-end.result + 1) end) c.new-all.ensures.items);
    }

pub returns-then-is_err-clause-told : goal.returns-then-is_err-clause-told
returns-then-is_err-clause-told g c =
    let lt : c.loop-sequence.sequence < c.sequences-end.result + 1 = omega arith in
    told_with_other (g.S.Store.content c.args.store.now) _ _ _ _ c.loop-sequence.invariant.content c.loop-sequence.invariant.way c.in-Ok.ensures.told
    (λ known way step. way_stopped known _ _ _ _ _ _ _ _ c.loop-sequence.sequence _ _ (numbers_from c.loop-sequence.sequence (c.sequences-end.result + 1) lt) _ _ way _
    c.in-Ok.shown _ refl step)

pub returns-in-Err-clause-told : goal.returns-in-Err-clause-told
returns-in-Err-clause-told g c =
    let lt : c.loop-sequence.sequence < c.sequences-end.result + 1 = omega arith in
    told_with_other (g.S.Store.content c.args.store.now) _ _ _ _ c.loop-sequence.invariant.content c.loop-sequence.invariant.way c.in-Err.ensures.told
    (λ known way step. way_refused known _ _ _ _ _ _ _ _ c.loop-sequence.sequence _ _ (numbers_from c.loop-sequence.sequence (c.sequences-end.result + 1) lt) _ _ way _
    c.in-Err.refusal step)

pub loop-sequence-preserved : goal.loop-sequence-preserved
loop-sequence-preserved g c =
    let lt : c.loop-sequence.sequence < c.sequences-end.result + 1 = omega arith in
    let before : List Shown = c.loop-sequence.all.items in
    let more : c.push.new.self.items ≡ before ++ c.in-Ok.shown ∷ [] =
    c.push.ensures.items ∙ ap (λ (ok : Bool). cond ok (before ++ c.in-Ok.shown ∷ []) before) c.if-is_err.ensures.negation in
    let each = IsShown (length c.args.asking.now.mapping.sequences) in
    record {
      content = c.in-Ok.ensures.content ∙ c.loop-sequence.invariant.content;
      later = omega (arith, c.in-Ok.ensures.later, c.loop-sequence.invariant.later);
      looks = omega (arith, c.in-Ok.ensures.looks, c.loop-sequence.invariant.looks, c.loop-sequence.invariant.first);
      first = omega (arith, c.loop-sequence.invariant.first);
      held = subst (λ o. IfSome o (λ known. AreTrue known c.look.new.metas)) (sym c.in-Ok.ensures.content) c.in-Ok.ensures.held;
      shown = subst (All each) (sym more) (All-append each before (c.in-Ok.shown ∷ []) c.loop-sequence.invariant.shown (All-cons each c.in-Ok.shown [] c.in-Ok.ensures.shown (All-nil each)));
      way = told_with_other (g.S.Store.content c.args.store.now) _ _ _ _ c.loop-sequence.invariant.content c.loop-sequence.invariant.way c.in-Ok.ensures.told
          (λ known way step. way_on known _ _ _ _ _ _ _ _ c.loop-sequence.sequence _ _ (numbers_from c.loop-sequence.sequence (c.sequences-end.result + 1) lt) _ _ way
          c.in-Ok.shown _ more step);
    }

pub returns-clause-told : goal.returns-clause-told
returns-clause-told g c =
    let past : c.sequences-end.result + 1 ≤ c.loop-sequence.sequence = omega arith in
    told_with_all (g.S.Store.content c.args.store.now) _ _ c.loop-sequence.invariant.way
    (λ known way. way_whole known _ _ _ _ _ _ _ _ _ c.loop-sequence.all _ (no_numbers c.loop-sequence.sequence (c.sequences-end.result + 1) past) refl way)
