-- One more sequence was looked at, or all were.
use Rattle.std.proofs.Common.{IfSome, ◌≡◌, ◌≤◌, ◌+◌, ◌<◌, List, ◌∷◌, length, map, drop, refl, sym, ap, ◌∙◌, subst, arith, All}
use Rattle.std.specs.Prelude.{ℕ}
use Rattle.std.specs.List.{range_with_len}
use Rattle.std.proofs.lemmas.List.{drop_all}
use Rattle.std.proofs.lemmas.List.Elements.{All-nil}
use Rattle.std.proofs.lemmas.List.FromFn.{length-range_with_len}
use Rattle.vod_source.proofs.CallLemmas.{told_all, told_with_all, told_with_other}
use Rattle.flat_lists.specs.Asked.{asking_view, setup_of}
use Rattle.flat_lists.specs.LookedSequences.{numbers, sequence_found, sequence_kept, sequence_names}
use Rattle.vod_meta.specs.Held.{names_held, AreTrue}
use Rattle.seek_lists.specs.Looked.{IsOfMapping, sequence_seen}
use Rattle.flat_lists.proofs.SequenceLemmas.{all_more, drop_range, map_more, one_more}
use Rattle.seek_lists.proofs.Tours.{list_begins, list_cut, list_ended, list_on, list_refused}
use Rattle.seek_lists.proofs.looked_sequences.look_at_sequences.Goals as goal

pub loop-place-init : goal.loop-place-init
loop-place-init g c = record {
  content = refl;
  later = omega arith;
  held = c.requires.held;
  each = subst (All (IsOfMapping c.args.asking.now.mapping)) (sym c.new-looked.ensures.items) (All-nil (IsOfMapping c.args.asking.now.mapping));
  count = ap (λ (xs : List _). length xs) c.new-looked.ensures.items;
  walk = told_all (g.S.Store.content c.args.store.now) _ (λ known.
      let o = setup_of c.args.settings.now c.args.root.now known in
      let a = asking_view c.args.asking.now in
      (list_begins known (sequence_found o a) (sequence_names o a) (sequence_kept a.mapping) (numbers o a) (names_held c.args.metas.now) (g.S.Store.log c.args.store.now) _ (ap (map sequence_seen) c.new-looked.ensures.items)));
}

next_number : (n place : ℕ) → place < n → drop place (range_with_len 1 n) ≡ (place + 1) ∷ drop (place + 1) (range_with_len 1 n)
next_number n place lt =
    drop_range 1 n place lt ∙ ap (λ (k : ℕ). k ∷ drop (place + 1) (range_with_len 1 n)) (let same : 1 + place ≡ place + 1 = omega arith in same)

pub look_at_sequence-requires-clause-number : goal.look_at_sequence-requires-clause-number
look_at_sequence-requires-clause-number g c =
    let most = c.sequences-place-end.ensures.rules.count.1 in
    omega (arith, most, c.sequences-place-end.ensures.count)

pub returns-in-Err-clause-told : goal.returns-in-Err-clause-told
returns-in-Err-clause-told g c =
    let place = c.loop-place.place in
    let n = length c.args.asking.now.mapping.sequences in
    let lt : place < n = omega (arith, c.sequences-place-end.ensures.count) in
    told_with_other (g.S.Store.content c.args.store.now) _ _ _ _ c.loop-place.invariant.content c.loop-place.invariant.walk c.in-Err.ensures.told
    (λ known w look.
    let o = setup_of c.args.settings.now c.args.root.now known in
    let a = asking_view c.args.asking.now in
    (list_refused known (sequence_found o a) (sequence_names o a) (sequence_kept a.mapping) (numbers o a) (names_held c.args.metas.now) _ _ _ _ _ w _ (place + 1) (drop (place + 1) (numbers o a)) (next_number n place lt) _ _
    (λ ss. map sequence_seen ss.items) c.in-Err.refusal look))

pub returns-in-Err-push-clause-told : goal.returns-in-Err-push-clause-told
returns-in-Err-push-clause-told g c =
    let place = c.loop-place.place in
    let n = length c.args.asking.now.mapping.sequences in
    let lt : place < n = omega (arith, c.sequences-place-end.ensures.count) in
    told_with_other (g.S.Store.content c.args.store.now) _ _ _ _ c.loop-place.invariant.content c.loop-place.invariant.walk c.in-Ok.ensures.told
    (λ known w look.
    let o = setup_of c.args.settings.now c.args.root.now known in
    let a = asking_view c.args.asking.now in
    (list_cut known (sequence_found o a) (sequence_names o a) (sequence_kept a.mapping) (numbers o a) (names_held c.args.metas.now) _ _ _ _ _
    (list_on known (sequence_found o a) (sequence_names o a) (sequence_kept a.mapping) (numbers o a) (names_held c.args.metas.now) _ _ _ _ _ w _ (place + 1) (drop (place + 1) (numbers o a)) (next_number n place lt) _ _
    c.in-Ok.sequence (sequence_seen c.in-Ok.sequence) _ (λ y is. is) refl look)
    (λ ss. map sequence_seen ss.items) _ refl))

pub loop-place-preserved : goal.loop-place-preserved
loop-place-preserved g c =
    let place = c.loop-place.place in
    let n = length c.args.asking.now.mapping.sequences in
    let lt : place < n = omega (arith, c.sequences-place-end.ensures.count) in
    record {
      content = c.in-Ok.ensures.content ∙ c.loop-place.invariant.content;
      later = omega (arith, c.in-Ok.ensures.later, c.loop-place.invariant.later);
      held = subst (λ o. IfSome o (λ known. AreTrue known c.look_at_sequence.new.metas)) (sym c.in-Ok.ensures.content) c.in-Ok.ensures.held;
      each = all_more (IsOfMapping c.args.asking.now.mapping) _ _ _ c.in-Ok-push.ensures.items c.loop-place.invariant.each
          (record { looked = c.in-Ok.ensures.each; number = let same = c.in-Ok.ensures.number in (omega (arith, same), omega (arith, same, lt, c.sequences-place-end.ensures.count)) });
      count = one_more _ _ _ _ c.in-Ok-push.ensures.items c.loop-place.invariant.count;
      walk = told_with_other (g.S.Store.content c.args.store.now) _ _ _ _ c.loop-place.invariant.content c.loop-place.invariant.walk c.in-Ok.ensures.told
          (λ known w look.
          let o = setup_of c.args.settings.now c.args.root.now known in
          let a = asking_view c.args.asking.now in
          list_on known (sequence_found o a) (sequence_names o a) (sequence_kept a.mapping) (numbers o a) (names_held c.args.metas.now) _ _ _ _ _ w _ (place + 1) (drop (place + 1) (numbers o a)) (next_number n place lt) _ _
          c.in-Ok.sequence (sequence_seen c.in-Ok.sequence) _ (λ y is. is) (map_more sequence_seen _ _ _ c.in-Ok-push.ensures.items) look);
    }

pub returns-clause-told : goal.returns-clause-told
returns-clause-told g c =
    let n = length c.args.asking.now.mapping.sequences in
    told_with_all (g.S.Store.content c.args.store.now) _ _ c.loop-place.invariant.walk
    (λ known w.
    let o = setup_of c.args.settings.now c.args.root.now known in
    let a = asking_view c.args.asking.now in
    (list_ended known (sequence_found o a) (sequence_names o a) (sequence_kept a.mapping) (numbers o a) (names_held c.args.metas.now) _ _ _ _ _ w (λ ss. map sequence_seen ss.items) _
    (drop_all c.loop-place.place (numbers o a) (let past : length (numbers o a) ≤ c.loop-place.place = let many = length-range_with_len 1 n in omega (arith, many, c.sequences-place-end.ensures.count) in past)) refl))

pub returns-clause-count : goal.returns-clause-count
returns-clause-count g c =
    let rules = c.sequences-place-end.ensures.rules.count in
    (omega (arith, rules.0, c.sequences-place-end.ensures.count, c.loop-place.invariant.count), omega (arith, rules.1, c.sequences-place-end.ensures.count, c.loop-place.invariant.count))
