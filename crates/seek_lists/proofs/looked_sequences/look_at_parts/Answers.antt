-- One more part was looked at, or all were.
use Rattle.std.proofs.Common.{IfSome, ◌≤◌, ◌+◌, List, length, map, drop, refl, sym, ap, ◌∙◌, subst, arith, All}
use Rattle.std.proofs.lemmas.List.{drop_all}
use Rattle.std.proofs.lemmas.List.Elements.{All-nil}
use Rattle.vod_source.proofs.CallLemmas.{told_all, told_with_all, told_with_other}
use Rattle.flat_lists.specs.LookedSequences.{found_in, names_in, part_kept}
use Rattle.vod_meta.specs.Held.{names_held, AreTrue}
use Rattle.seek_lists.specs.Looked.{IsLookedPart, looked_seen}
use Rattle.seek_lists.specs.PartTracks.{part_seen}
use Rattle.flat_lists.proofs.SequenceLemmas.{all_more, drop_at, map_more, one_more}
use Rattle.seek_lists.proofs.SequenceLemmas.{found_err, found_ok, looked_part}
use Rattle.seek_lists.proofs.Tours.{list_begins, list_cut, list_ended, list_on, list_refused}
use Rattle.seek_lists.proofs.looked_sequences.look_at_parts.Goals as goal

pub loop-place-init : goal.loop-place-init
loop-place-init g c =
    let lk = c.args.looking in
    let t = c.args.timeline.now in
    record {
      content = refl;
      later = omega arith;
      held = c.requires.held;
      kept = c.count_of-place-end.ensures.kept;
      each = subst (All IsLookedPart) (sym c.new-looked.ensures.items) (All-nil IsLookedPart);
      count = ap (λ (xs : List _). length xs) c.new-looked.ensures.items;
      walk = told_all (g.S.Store.content c.args.store.now) _ (λ known.
          list_begins known (found_in known lk.edits t) (names_in known lk.edits t) (part_kept lk.mapping.now lk.sequence) t.parts (names_held c.args.metas.now) (g.S.Store.log c.args.store.now) _ (ap (map looked_seen) c.new-looked.ensures.items));
    }

pub returns-in-Err-clause-told : goal.returns-in-Err-clause-told
returns-in-Err-clause-told g c =
    let lk = c.args.looking in
    let t = c.args.timeline.now in
    let part = c.part_at.result.0 in
    let place = c.loop-place.place in
    told_with_other (g.S.Store.content c.args.store.now) _ _ _ _ c.loop-place.invariant.content c.loop-place.invariant.walk c.in-Err.ensures.told
    (λ known w look.
    list_refused known (found_in known lk.edits t) (names_in known lk.edits t) (part_kept lk.mapping.now lk.sequence) t.parts (names_held c.args.metas.now) _ _ _ _ _ w _ part (drop (place + 1) t.parts) (drop_at t.parts place part c.part_at.ensures.part) _ _
    (λ ps. map looked_seen ps.items) c.in-Err.refusal
    (found_err known lk.edits lk.mapping.now lk.sequence t part c.part_at.result.1.now c.part_at.ensures.pieces _ _ _ _ c.in-Err.refusal look))

pub returns-in-Err-push-clause-told : goal.returns-in-Err-push-clause-told
returns-in-Err-push-clause-told g c =
    let lk = c.args.looking in
    let t = c.args.timeline.now in
    let part = c.part_at.result.0 in
    let place = c.loop-place.place in
    told_with_other (g.S.Store.content c.args.store.now) _ _ _ _ c.loop-place.invariant.content c.loop-place.invariant.walk c.in-Ok.ensures.told
    (λ known w look.
    list_cut known (found_in known lk.edits t) (names_in known lk.edits t) (part_kept lk.mapping.now lk.sequence) t.parts (names_held c.args.metas.now) _ _ _ _ _
    (list_on known (found_in known lk.edits t) (names_in known lk.edits t) (part_kept lk.mapping.now lk.sequence) t.parts (names_held c.args.metas.now) _ _ _ _ _ w _ part (drop (place + 1) t.parts) (drop_at t.parts place part c.part_at.ensures.part) _ _
    c.in-Ok.tracks (part, part_seen c.in-Ok.tracks) _ (λ y is. is) refl
    (found_ok known lk.edits lk.mapping.now lk.sequence t part c.part_at.result.1.now c.part_at.ensures.pieces _ _ _ _ c.in-Ok.tracks look))
    (λ ps. map looked_seen ps.items) _ refl)

pub loop-place-preserved : goal.loop-place-preserved
loop-place-preserved g c =
    let lk = c.args.looking in
    let t = c.args.timeline.now in
    let part = c.part_at.result.0 in
    let place = c.loop-place.place in
    record {
      content = c.in-Ok.ensures.content ∙ c.loop-place.invariant.content;
      later = omega (arith, c.in-Ok.ensures.later, c.loop-place.invariant.later);
      held = subst (λ o. IfSome o (λ known. AreTrue known c.look_at_part.new.metas)) (sym c.in-Ok.ensures.content) c.in-Ok.ensures.held;
      kept = c.loop-place.invariant.kept;
      each = all_more IsLookedPart _ _ _ c.in-Ok-push.ensures.items c.loop-place.invariant.each
          (looked_part t c.loop-place.invariant.kept part lk.mapping.now lk.sequence place c.part_at.result.1.now c.in-Ok.tracks c.part_at.ensures.part c.part_at.ensures.pieces c.in-Ok.ensures.placed c.in-Ok.ensures.of);
      count = one_more _ _ _ _ c.in-Ok-push.ensures.items c.loop-place.invariant.count;
      walk = told_with_other (g.S.Store.content c.args.store.now) _ _ _ _ c.loop-place.invariant.content c.loop-place.invariant.walk c.in-Ok.ensures.told
          (λ known w look.
          list_on known (found_in known lk.edits t) (names_in known lk.edits t) (part_kept lk.mapping.now lk.sequence) t.parts (names_held c.args.metas.now) _ _ _ _ _ w _ part (drop (place + 1) t.parts) (drop_at t.parts place part c.part_at.ensures.part) _ _
          c.in-Ok.tracks (part, part_seen c.in-Ok.tracks) _ (λ y is. is) (map_more looked_seen _ _ _ c.in-Ok-push.ensures.items)
          (found_ok known lk.edits lk.mapping.now lk.sequence t part c.part_at.result.1.now c.part_at.ensures.pieces _ _ _ _ c.in-Ok.tracks look));
    }

pub returns-clause-told : goal.returns-clause-told
returns-clause-told g c =
    let lk = c.args.looking in
    let t = c.args.timeline.now in
    told_with_all (g.S.Store.content c.args.store.now) _ _ c.loop-place.invariant.walk
    (λ known w.
    list_ended known (found_in known lk.edits t) (names_in known lk.edits t) (part_kept lk.mapping.now lk.sequence) t.parts (names_held c.args.metas.now) _ _ _ _ _ w (λ ps. map looked_seen ps.items) _
    (drop_all c.loop-place.place t.parts (let past : length t.parts ≤ c.loop-place.place = omega (arith, c.count_of-place-end.ensures.count) in past)) refl)
