-- Looks at pieces, one after another.
use Rattle.std.proofs.Common.{◌≤◌, ◌<◌, ◌+◌, ◌*◌, ◌∷◌, [], List, All, IfSome, length, length-append, refl, sym, ap, subst, ◌∙◌, arith}
use Rattle.std.proofs.lemmas.List.{drop_all}
use Rattle.std.proofs.lemmas.List.Elements.{All-nil, All-cons, All-append}
use Rattle.seq_timeline.proofs.PieceLemmas.{drop_item}
use Rattle.vod_source.proofs.CallLemmas.{told_all, told_with_all, told_with_other}
use Rattle.vod_meta.specs.Held.{AreTrue}
use Rattle.vod_plan.specs.Looks.{tracks_asked}
use Rattle.vod_plan.specs.Spans.{IsPlanPiece}
use Rattle.vod_plan.proofs.FoundLemmas.{looks_within, looks_more, no_looks, not_reached, reach_looks}
use Rattle.vod_plan.proofs.LookWalks.{left, loop_count, loop_cut, loop_ended, loop_on, loop_refused, loop_through, none_found, one_found, through_count, walk_begin}
use Rattle.vod_plan.proofs.needed.needed_of.Goals as goal

pub loop-piece-init : goal.loop-piece-init
loop-piece-init g c = record {
  content = refl;
  later = omega arith;
  held = c.requires.held;
  count = ap (λ (xs : List _). length xs) c.new-found.ensures.items;
  of = none_found c.args.asked c.args.pieces.now c.new-found.result.items c.new-found.ensures.items;
  kept = subst (All IsPlanPiece) (sym c.new-found.ensures.items) (All-nil IsPlanPiece);
  pieces = c.requires.pieces;
  few = c.requires.few;
  looks = no_looks c.args.steps.now (length c.new-found.result.items * tracks_asked c.args.asked);
  walk = told_all (g.S.Store.content c.args.store.now) _ (λ known.
      walk_begin known c.args.edits c.args.asked (left known c.args.edits c.args.asked c.args.next c.args.pieces.now) c.new-found.result.items c.args.metas.now (g.S.Store.log c.args.store.now) c.new-found.ensures.items);
}

pub returns-in-Err-clause-told : goal.returns-in-Err-clause-told
returns-in-Err-clause-told g c =
    let lt : c.loop-piece.piece-index < length c.args.pieces.now = omega arith in
    told_with_other (g.S.Store.content c.args.store.now) _ _ _ _ c.loop-piece.invariant.content c.loop-piece.invariant.walk c.in-Err.ensures.told
    (λ known w look. loop_refused known c.args.edits c.args.asked c.args.next c.args.pieces.now _ _ c.piece-item.result c.loop-piece.found.items c.args.metas.now c.loop-piece.metas _ _
    (drop_item c.args.pieces.now c.loop-piece.piece-index c.piece-item.result lt c.piece-item.is) w c.look.new.metas _ c.in-Err.refusal look)

pub returns-in-Err-clause-looks : goal.returns-in-Err-clause-looks
returns-in-Err-clause-looks g c =
    let lt : c.loop-piece.piece-index < length c.args.pieces.now = omega arith in
    told_with_all (g.S.Store.content c.args.store.now) _ _ c.loop-piece.invariant.walk
    (λ known w. looks_more c.loop-piece.steps c.look.new.steps c.look.new.steps c.args.steps.now (length c.loop-piece.found.items) _ (tracks_asked c.args.asked) c.loop-piece.invariant.looks c.in-Err.ensures.looks
    (not_reached c.look.new.steps (tracks_asked c.args.asked))
    (loop_count known c.args.edits c.args.asked c.args.next c.args.pieces.now _ _ c.piece-item.result c.loop-piece.found.items c.args.metas.now c.loop-piece.metas _ _
    (drop_item c.args.pieces.now c.loop-piece.piece-index c.piece-item.result lt c.piece-item.is) w))

pub returns-in-Err-push-clause-told : goal.returns-in-Err-push-clause-told
returns-in-Err-push-clause-told g c =
    let lt : c.loop-piece.piece-index < length c.args.pieces.now = omega arith in
    told_with_other (g.S.Store.content c.args.store.now) _ _ _ _ c.loop-piece.invariant.content c.loop-piece.invariant.walk c.in-Ok.ensures.told
    (λ known w look. loop_cut known c.args.edits c.args.asked c.args.next c.args.pieces.now _ _ c.piece-item.result c.loop-piece.found.items c.args.metas.now c.loop-piece.metas _ _
    (drop_item c.args.pieces.now c.loop-piece.piece-index c.piece-item.result lt c.piece-item.is) w c.look.new.metas _ c.in-Ok.rows look)

pub returns-in-Err-push-clause-looks : goal.returns-in-Err-push-clause-looks
returns-in-Err-push-clause-looks g c =
    let lt : c.loop-piece.piece-index < length c.args.pieces.now = omega arith in
    told_with_all (g.S.Store.content c.args.store.now) _ _ c.loop-piece.invariant.walk
    (λ known w. looks_more c.loop-piece.steps c.look.new.steps c.is_reached-last.new.steps c.args.steps.now (length c.loop-piece.found.items) _ (tracks_asked c.args.asked) c.loop-piece.invariant.looks c.in-Ok.ensures.looks
    (reach_looks c.args.asked c.piece-item.result c.in-Ok.rows c.lead_of-leads.result c.look.new.steps c.is_reached-last.new.steps c.lead_of-leads.ensures c.in-Ok.ensures.found c.is_reached-last.ensures.looks c.is_reached-last.ensures.none)
    (loop_count known c.args.edits c.args.asked c.args.next c.args.pieces.now _ _ c.piece-item.result c.loop-piece.found.items c.args.metas.now c.loop-piece.metas _ _
    (drop_item c.args.pieces.now c.loop-piece.piece-index c.piece-item.result lt c.piece-item.is) w))

pub returns-then-last-clause-told : goal.returns-then-last-clause-told
returns-then-last-clause-told g c =
    let lt : c.loop-piece.piece-index < length c.args.pieces.now = omega arith in
    told_with_other (g.S.Store.content c.args.store.now) _ _ _ _ c.loop-piece.invariant.content c.loop-piece.invariant.walk c.in-Ok.ensures.told
    (λ known w look. loop_ended known c.args.edits c.args.asked c.args.next c.args.pieces.now _ _ c.piece-item.result c.loop-piece.found.items c.args.metas.now c.loop-piece.metas _ _
    (drop_item c.args.pieces.now c.loop-piece.piece-index c.piece-item.result lt c.piece-item.is) w c.look.new.metas _ c.in-Ok.rows look c.lead_of-leads.result c.lead_of-leads.ensures
    c.push.new.self.items c.in-Ok-push.ensures.items _ refl (sym c.is_reached-last.ensures.reached ∙ c.if-last.true))

pub returns-then-last-clause-pieces : goal.returns-then-last-clause-pieces
returns-then-last-clause-pieces g c =
    subst (All IsPlanPiece) (sym c.in-Ok-push.ensures.items)
    (All-append IsPlanPiece c.loop-piece.found.items (c.in-Ok.rows ∷ []) c.loop-piece.invariant.kept (All-cons IsPlanPiece c.in-Ok.rows [] c.in-Ok.ensures.kept (All-nil IsPlanPiece)))

pub returns-then-last-clause-found : goal.returns-then-last-clause-found
returns-then-last-clause-found g c =
    let lt : c.loop-piece.piece-index < length c.args.pieces.now = omega arith in
    one_found c.args.asked c.args.pieces.now c.loop-piece.found.items c.push.new.self.items c.piece-item.result c.in-Ok.rows c.loop-piece.piece-index c.loop-piece.invariant.of c.loop-piece.invariant.count
    (drop_item c.args.pieces.now c.loop-piece.piece-index c.piece-item.result lt c.piece-item.is) c.in-Ok.ensures.found c.in-Ok-push.ensures.items

pub returns-then-last-clause-looks : goal.returns-then-last-clause-looks
returns-then-last-clause-looks g c =
    let lt : c.loop-piece.piece-index < length c.args.pieces.now = omega arith in
    told_with_all (g.S.Store.content c.args.store.now) _ _ c.loop-piece.invariant.walk
    (λ known w. looks_more c.loop-piece.steps c.look.new.steps c.is_reached-last.new.steps c.args.steps.now (length c.loop-piece.found.items) _ (tracks_asked c.args.asked) c.loop-piece.invariant.looks c.in-Ok.ensures.looks
    (reach_looks c.args.asked c.piece-item.result c.in-Ok.rows c.lead_of-leads.result c.look.new.steps c.is_reached-last.new.steps c.lead_of-leads.ensures c.in-Ok.ensures.found c.is_reached-last.ensures.looks c.is_reached-last.ensures.none)
    (loop_count known c.args.edits c.args.asked c.args.next c.args.pieces.now _ _ c.piece-item.result c.loop-piece.found.items c.args.metas.now c.loop-piece.metas _ _
    (drop_item c.args.pieces.now c.loop-piece.piece-index c.piece-item.result lt c.piece-item.is) w))

pub loop-piece-preserved : goal.loop-piece-preserved
loop-piece-preserved g c =
    let lt : c.loop-piece.piece-index < length c.args.pieces.now = omega arith in
    let longer = ap (λ (xs : List _). length xs) c.in-Ok-push.ensures.items ∙ length-append c.loop-piece.found.items (c.in-Ok.rows ∷ []) in
    record {
      content = c.in-Ok.ensures.content ∙ c.loop-piece.invariant.content;
      later = omega (arith, c.in-Ok.ensures.later, c.loop-piece.invariant.later);
      held = subst (λ o. IfSome o (λ known. AreTrue known c.look.new.metas)) (sym c.in-Ok.ensures.content) c.in-Ok.ensures.held;
      count = longer ∙ ap (λ n. n + 1) c.loop-piece.invariant.count;
      of = one_found c.args.asked c.args.pieces.now c.loop-piece.found.items c.push.new.self.items c.piece-item.result c.in-Ok.rows c.loop-piece.piece-index c.loop-piece.invariant.of c.loop-piece.invariant.count
          (drop_item c.args.pieces.now c.loop-piece.piece-index c.piece-item.result lt c.piece-item.is) c.in-Ok.ensures.found c.in-Ok-push.ensures.items;
      kept = subst (All IsPlanPiece) (sym c.in-Ok-push.ensures.items)
          (All-append IsPlanPiece c.loop-piece.found.items (c.in-Ok.rows ∷ []) c.loop-piece.invariant.kept (All-cons IsPlanPiece c.in-Ok.rows [] c.in-Ok.ensures.kept (All-nil IsPlanPiece)));
      pieces = c.requires.pieces;
      few = c.requires.few;
      looks = looks_more c.loop-piece.steps c.look.new.steps c.is_reached-last.new.steps c.args.steps.now (length c.loop-piece.found.items) _ (tracks_asked c.args.asked) c.loop-piece.invariant.looks c.in-Ok.ensures.looks
          (reach_looks c.args.asked c.piece-item.result c.in-Ok.rows c.lead_of-leads.result c.look.new.steps c.is_reached-last.new.steps c.lead_of-leads.ensures c.in-Ok.ensures.found c.is_reached-last.ensures.looks c.is_reached-last.ensures.none)
          (let least : length c.loop-piece.found.items + 1 ≤ length c.push.new.self.items = omega (arith, longer) in least);
      walk = told_with_other (g.S.Store.content c.args.store.now) _ _ _ _ c.loop-piece.invariant.content c.loop-piece.invariant.walk c.in-Ok.ensures.told
          (λ known w look. loop_on known c.args.edits c.args.asked c.args.next c.args.pieces.now _ _ c.piece-item.result c.loop-piece.found.items c.args.metas.now c.loop-piece.metas _ _
          (drop_item c.args.pieces.now c.loop-piece.piece-index c.piece-item.result lt c.piece-item.is) w c.look.new.metas _ c.in-Ok.rows look c.lead_of-leads.result c.lead_of-leads.ensures
          c.push.new.self.items c.in-Ok-push.ensures.items (sym c.is_reached-last.ensures.reached ∙ c.if-last.false));
    }

pub returns-clause-told : goal.returns-clause-told
returns-clause-told g c =
    told_with_all (g.S.Store.content c.args.store.now) _ _ c.loop-piece.invariant.walk
    (λ known w. loop_through known c.args.edits c.args.asked c.args.next c.args.pieces.now _ c.loop-piece.found.items c.args.metas.now c.loop-piece.metas _ _
    (drop_all c.loop-piece.piece-index c.args.pieces.now (let past : length c.args.pieces.now ≤ c.loop-piece.piece-index = omega arith in past)) w _ refl)

pub returns-clause-looks : goal.returns-clause-looks
returns-clause-looks g c =
    told_with_all (g.S.Store.content c.args.store.now) _ _ c.loop-piece.invariant.walk
    (λ known w. looks_within c.loop-piece.steps c.args.steps.now (length c.loop-piece.found.items) _ (tracks_asked c.args.asked)
    (let all = through_count known c.args.edits c.args.asked c.args.next c.args.pieces.now _ c.loop-piece.found.items c.args.metas.now c.loop-piece.metas _ _
    (drop_all c.loop-piece.piece-index c.args.pieces.now (let past : length c.args.pieces.now ≤ c.loop-piece.piece-index = omega arith in past)) w in omega (arith, all)) c.loop-piece.invariant.looks)
