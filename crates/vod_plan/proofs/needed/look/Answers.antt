-- A look at a piece.
use Rattle.std.proofs.Common.{refl, arith}
use Rattle.std.specs.Rc.{rc_value}
use Rattle.vod_source.proofs.CallLemmas.{told_with_both}
use Rattle.vod_plan.specs.Tracks.{checked_view}
use Rattle.vod_plan.proofs.FoundLemmas.{found_piece, tracks_same}
use Rattle.vod_plan.proofs.LookWalks.{look_found, look_unchecked, look_unloaded, view_sound}
use Rattle.vod_plan.proofs.WritableCalls.{check_refused}
use Rattle.vod_plan.proofs.needed.look.Goals as goal

pub returns-in-Err-clause-told : goal.returns-in-Err-clause-told
returns-in-Err-clause-told g c =
    told_with_both (g.S.Store.content c.args.store.now) _ _ _ c.in-Err.ensures.answers c.in-Err.ensures.turned
    (λ known answered turned. look_unloaded known c.args.edits c.args.asked c.args.piece.now c.args.metas.now c.loaded.new.metas _ _ c.in-Err.refusal answered turned)

pub returns-in-Ok-check-clause-told : goal.returns-in-Ok-check-clause-told
returns-in-Ok-check-clause-told g c =
    told_with_both (g.S.Store.content c.args.store.now) _ _ _ c.in-Ok.ensures.answers c.in-Ok.ensures.turned
    (λ known load turned. look_found known c.args.edits c.args.asked c.args.piece.now c.args.metas.now c.loaded.new.metas _ _ c.in-Ok.meta (rc_value c.in-Ok.meta).movie load turned
    (checked_view c.args.piece.now c.in-Ok-check.tracks) c.rows_of.result c.in-Ok-check.ensures.answers
    (found_piece c.args.piece.now c.in-Ok-check.tracks c.rows_of.result c.rows_of.ensures.meta c.rows_of.ensures.selected))

pub returns-in-Ok-check-clause-found : goal.returns-in-Ok-check-clause-found
returns-in-Ok-check-clause-found g c = record {
  checked_piece = checked_view c.args.piece.now c.in-Ok-check.tracks;
  of = refl;
  sound = view_sound c.args.edits c.args.asked c.args.piece.now c.in-Ok-check.tracks (rc_value c.in-Ok.meta).movie c.in-Ok-check.ensures.answers;
  found = found_piece c.args.piece.now c.in-Ok-check.tracks c.rows_of.result c.rows_of.ensures.meta c.rows_of.ensures.selected;
}

pub returns-in-Ok-check-clause-looks : goal.returns-in-Ok-check-clause-looks
returns-in-Ok-check-clause-looks g c =
    let sound = view_sound c.args.edits c.args.asked c.args.piece.now c.in-Ok-check.tracks (rc_value c.in-Ok.meta).movie c.in-Ok-check.ensures.answers in
    let same = tracks_same c.args.asked c.args.piece.now c.in-Ok-check.tracks sound c.in-Ok-check.ensures.found in
    omega (arith, c.rows_of.ensures.looks, same)

pub returns-in-Err-check-clause-told : goal.returns-in-Err-check-clause-told
returns-in-Err-check-clause-told g c =
    told_with_both (g.S.Store.content c.args.store.now) _ _ _ c.in-Ok.ensures.answers c.in-Ok.ensures.turned
    (λ known load turned. look_unchecked known c.args.edits c.args.asked c.args.piece.now c.args.metas.now c.loaded.new.metas _ _ c.in-Ok.meta (rc_value c.in-Ok.meta).movie load turned
    c.in-Err-check.refusal c.in-Err-check.ensures.answers)

pub returns-in-Err-check-clause-refused : goal.returns-in-Err-check-clause-refused
returns-in-Err-check-clause-refused g c = check_refused c.args.edits c.args.asked c.args.piece.now (rc_value c.in-Ok.meta).movie c.in-Err-check.refusal c.in-Err-check.ensures.answers
