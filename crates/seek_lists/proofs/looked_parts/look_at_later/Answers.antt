-- One more piece was looked at, or all were.
use Rattle.std.proofs.Common.{IfSome, sym, subst, ◌≤◌, ◌<◌, length, ◌∙◌, arith, refl}
use Rattle.std.proofs.lemmas.List.{drop_all}
use Rattle.seq_timeline.proofs.PieceLemmas.{drop_item}
use Rattle.vod_source.proofs.CallLemmas.{told_all, told_with_all, told_with_other}
use Rattle.seek_lists.specs.PartTracks.{part_seen}
use Rattle.flat_lists.proofs.LookedLemmas.{with_none, with_one_more, with_all}
use Rattle.vod_meta.specs.Held.{names_held, AreTrue}
use Rattle.seek_lists.proofs.LookedLemmas.{later_begins, later_on, later_refused, later_ended}
use Rattle.seek_lists.proofs.looked_parts.look_at_later.Goals as goal

pub loop-piece-init : goal.loop-piece-init
loop-piece-init g c = record {
  content = refl;
  later = omega arith;
  pieces = c.requires.pieces;
  few = c.requires.few;
  count = refl;
  held = c.requires.held;
  placed = c.requires.placed;
  of = with_none 1 (part_seen c.args.first);
  walk = told_all (g.S.Store.content c.args.store.now) _ (λ known. later_begins known c.args.edits c.args.asked c.args.pieces.now (part_seen c.args.first) (names_held c.args.metas.now) (g.S.Store.log c.args.store.now));
}

pub returns-in-Err-clause-told : goal.returns-in-Err-clause-told
returns-in-Err-clause-told g c =
    let lt : c.loop-piece.piece-index < length c.args.pieces.now = omega arith in
    told_with_other (g.S.Store.content c.args.store.now) _ _ _ _ c.loop-piece.invariant.content c.loop-piece.invariant.walk c.in-Err.ensures.told
    (λ known w look. later_refused known c.args.edits c.args.asked c.args.pieces.now (part_seen c.args.first) (names_held c.args.metas.now) _ c.loop-piece.place _ _ _ _ _ _ c.piece-item.result _ _
    (drop_item c.args.pieces.now c.loop-piece.piece-index c.piece-item.result lt c.piece-item.is) w c.in-Err.refusal look)

pub loop-piece-preserved : goal.loop-piece-preserved
loop-piece-preserved g c =
    let lt : c.loop-piece.piece-index < length c.args.pieces.now = omega arith in
    let at = drop_item c.args.pieces.now c.loop-piece.piece-index c.piece-item.result lt c.piece-item.is in
    record {
      content = c.in-Ok.ensures.content ∙ c.loop-piece.invariant.content;
      later = omega (arith, c.in-Ok.ensures.later, c.loop-piece.invariant.later);
      pieces = c.requires.pieces;
      few = c.requires.few;
      count = omega (arith, c.loop-piece.invariant.count);
      held = subst (λ o. IfSome o (λ known. AreTrue known c.look_at.new.metas)) (sym c.in-Ok.ensures.content) c.in-Ok.ensures.held;
      placed = c.in-Ok.ensures.placed;
      of = with_one_more c.loop-piece.piece-index c.loop-piece.place c.args.pieces.now c.piece-item.result _ _ _ _ at (let le : c.loop-piece.piece-index ≤ length c.args.pieces.now = omega arith in le) c.loop-piece.invariant.count
          c.loop-piece.invariant.of c.in-Ok.ensures.of;
      walk = told_with_other (g.S.Store.content c.args.store.now) _ _ _ _ c.loop-piece.invariant.content c.loop-piece.invariant.walk c.in-Ok.ensures.told
          (λ known w look. later_on known c.args.edits c.args.asked c.args.pieces.now (part_seen c.args.first) (names_held c.args.metas.now) _ c.loop-piece.place _ _ _ _ _ _ c.piece-item.result _ _ at w _ look);
    }

pub returns-clause-told : goal.returns-clause-told
returns-clause-told g c =
    told_with_all (g.S.Store.content c.args.store.now) _ _ c.loop-piece.invariant.walk
    (λ known w. later_ended known c.args.edits c.args.asked c.args.pieces.now (part_seen c.args.first) (names_held c.args.metas.now) _ c.loop-piece.place c.loop-piece.part _ _ _ (drop_all c.loop-piece.piece-index c.args.pieces.now (let past : length c.args.pieces.now ≤ c.loop-piece.piece-index = omega arith in past)) w)

pub returns-clause-of : goal.returns-clause-of
returns-clause-of g c = with_all c.loop-piece.piece-index c.args.pieces.now _ _ (let past : length c.args.pieces.now ≤ c.loop-piece.piece-index = omega arith in past) c.loop-piece.invariant.of
