use Rattle.seq_timeline.proofs.PieceLemmas.{drop_item}
use Rattle.std.proofs.Common.{◌≡◌, ◌≤◌, ◌+◌, ◌<◌, List, length, sym, ap, ◌∙◌, arith, refl}
use Rattle.std.proofs.lemmas.List.{drop_all}
use Rattle.vod_source.proofs.CallLemmas.{told_all, told_with_all, told_with_other}
use Rattle.flat_segments.proofs.Walks.{longer, none_of_first, loop_begins, of_one_more, one_file_more, loop_refused, loop_on, loop_ended, loop_through, shown_is}
use Rattle.flat_segments.proofs.needed.needed_of.Goals as goal

pub loop-piece-init : goal.loop-piece-init
loop-piece-init g c = record {
  content = refl;
  later = omega arith;
  count = ap (λ (xs : List _). length xs) c.new.ensures.items;
  of = none_of_first c.args.asked c.args.pieces.now _ c.new.ensures.items c.new-2.ensures;
  pieces = c.requires.pieces;
  few = c.requires.few;
  walk = told_all (g.S.Store.content c.args.files.now) _ (λ known.
      loop_begins known c.args.edits c.args.asked _ c.new-movies.result _ (g.S.Store.log c.args.files.now) c.new-movies.ensures c.new.ensures.items c.new-2.ensures);
}

pub returns-in-Err-clause-told : goal.returns-in-Err-clause-told
returns-in-Err-clause-told g c =
    let lt : c.loop-piece.piece-index < length c.args.pieces.now = omega arith in
    told_with_other (g.S.Store.content c.args.files.now) _ _ _ _ c.loop-piece.invariant.content c.loop-piece.invariant.walk c.in-Err.ensures.told
    (λ known w look. loop_refused known c.args.edits c.args.asked c.args.next c.args.pieces.now _ _ c.piece-item.result _ _ _ _
    (drop_item c.args.pieces.now c.loop-piece.piece-index c.piece-item.result lt c.piece-item.is) w _ _ _ c.in-Err.refusal (look w.true_now))

pub offset_bounds-deref-before : goal.offset_bounds-deref-before
offset_bounds-deref-before g c =
    let more = longer _ _ _ c.in-Ok.ensures.taken.2 in
    omega (arith, more, c.look.new.needed.rows.lead.small, c.len-before.ensures)

pub returns-then-is_reached-clause-told : goal.returns-then-is_reached-clause-told
returns-then-is_reached-clause-told g c =
    let lt : c.loop-piece.piece-index < length c.args.pieces.now = omega arith in
    told_with_other (g.S.Store.content c.args.files.now) _ _ _ _ c.loop-piece.invariant.content c.loop-piece.invariant.walk c.in-Ok.ensures.told
    (λ known w look. loop_ended known c.args.edits c.args.asked c.args.next c.args.pieces.now _ _ c.piece-item.result _ _ _ _
    (drop_item c.args.pieces.now c.loop-piece.piece-index c.piece-item.result lt c.piece-item.is) w _ _ _ _ (look w.true_now) _ (shown_is c.deref.result.now _ c.len-before.result _ c.deref.ensures.value (let many : c.len-before.result ≡ length c.loop-piece.needed.rows.lead.items = omega (arith, c.len-before.ensures) in many)) (sym c.is_reached.ensures ∙ c.if-is_reached.true))

pub returns-then-is_reached-clause-of : goal.returns-then-is_reached-clause-of
returns-then-is_reached-clause-of g c =
    let lt : c.loop-piece.piece-index < length c.args.pieces.now = omega arith in (
      _,
      of_one_more c.args.asked c.loop-piece.piece-index c.args.pieces.now c.piece-item.result c.in-Ok.ensures.taken.0 _ _ c.loop-piece.invariant.of
          (drop_item c.args.pieces.now c.loop-piece.piece-index c.piece-item.result lt c.piece-item.is) c.in-Ok.ensures.taken.1 c.in-Ok.ensures.taken.2 c.in-Ok.ensures.taken.3 c.in-Ok.ensures.placed,
    )

pub loop-piece-preserved : goal.loop-piece-preserved
loop-piece-preserved g c =
    let lt : c.loop-piece.piece-index < length c.args.pieces.now = omega arith in
    record {
      content = c.in-Ok.ensures.content ∙ c.loop-piece.invariant.content;
      later = omega (arith, c.in-Ok.ensures.later, c.loop-piece.invariant.later);
      count = one_file_more _ _ _ c.in-Ok.ensures.taken.2 ∙ ap (λ n. n + 1) c.loop-piece.invariant.count;
      of = of_one_more c.args.asked c.loop-piece.piece-index c.args.pieces.now c.piece-item.result c.in-Ok.ensures.taken.0 _ _ c.loop-piece.invariant.of
          (drop_item c.args.pieces.now c.loop-piece.piece-index c.piece-item.result lt c.piece-item.is) c.in-Ok.ensures.taken.1 c.in-Ok.ensures.taken.2 c.in-Ok.ensures.taken.3 c.in-Ok.ensures.placed;
      pieces = c.requires.pieces;
      few = c.requires.few;
      walk = told_with_other (g.S.Store.content c.args.files.now) _ _ _ _ c.loop-piece.invariant.content c.loop-piece.invariant.walk c.in-Ok.ensures.told
          (λ known w look. loop_on known c.args.edits c.args.asked c.args.next c.args.pieces.now _ _ c.piece-item.result _ _ _ _
          (drop_item c.args.pieces.now c.loop-piece.piece-index c.piece-item.result lt c.piece-item.is) w _ _ _ _ (look w.true_now) _ (shown_is c.deref.result.now _ c.len-before.result _ c.deref.ensures.value (let many : c.len-before.result ≡ length c.loop-piece.needed.rows.lead.items = omega (arith, c.len-before.ensures) in many)) (sym c.is_reached.ensures ∙ c.if-is_reached.false));
    }

pub returns-clause-told : goal.returns-clause-told
returns-clause-told g c =
    told_with_all (g.S.Store.content c.args.files.now) _ _ c.loop-piece.invariant.walk
    (λ known w. loop_through known c.args.edits c.args.asked c.args.next c.args.pieces.now _ _ _ _ _ (drop_all c.loop-piece.piece-index c.args.pieces.now (let past : length c.args.pieces.now ≤ c.loop-piece.piece-index = omega arith in past)) w)
