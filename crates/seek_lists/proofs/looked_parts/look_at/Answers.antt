-- A turn on the file of the piece, and its rows behind the others.
use Rattle.std.proofs.Common.{ap, ◌∙◌}
use Rattle.std.specs.Rc.{rc_value}
use Rattle.vod_meta.specs.Held.{HeldMovie}
use Rattle.vod_source.proofs.CallLemmas.{told_with_both}
use Rattle.vod_plan.proofs.WritableCalls.{check_refused}
use Rattle.seek_lists.specs.PartTracks.{part_seen}
use Rattle.seek_lists.proofs.LookedLemmas.{look_taken, look_unchecked, look_unloaded, with_piece}
use Rattle.seek_lists.proofs.looked_parts.look_at.Goals as goal

pub returns-in-Err-clause-told : goal.returns-in-Err-clause-told
returns-in-Err-clause-told g c =
    told_with_both (g.S.Store.content c.args.store.now) _ _ _ c.in-Err.ensures.answers c.in-Err.ensures.turned
    (λ known load turned. look_unloaded known c.args.edits c.args.asked c.args.place c.args.piece.now (part_seen c.args.part.now) (part_seen c.args.part.now) _ _ _ _ c.in-Err.refusal load turned)

pub add-requires-clause-named : goal.add-requires-clause-named
add-requires-clause-named g c = ap (λ (h : HeldMovie). h.name) c.in-Ok-check.ensures.same ∙ c.in-Ok.ensures.named

pub returns-in-Ok-check-clause-told : goal.returns-in-Ok-check-clause-told
returns-in-Ok-check-clause-told g c =
    told_with_both (g.S.Store.content c.args.store.now) _ _ _ c.in-Ok.ensures.answers c.in-Ok.ensures.turned
    (λ known load turned. look_taken known c.args.edits c.args.asked c.args.place c.args.piece.now (part_seen c.args.part.now) _ _ _ _ _ c.in-Ok.meta (rc_value {X = HeldMovie} c.in-Ok.meta).movie load turned
    c.in-Ok-check.tracks c.add.result c.in-Ok-check.ensures.answers c.add.ensures.added c.add.ensures.only)

pub returns-in-Ok-check-clause-of : goal.returns-in-Ok-check-clause-of
returns-in-Ok-check-clause-of g c = with_piece c.add.result c.args.place c.args.piece.now c.in-Ok-check.tracks _ _ c.add.ensures.added

pub returns-in-Err-check-clause-told : goal.returns-in-Err-check-clause-told
returns-in-Err-check-clause-told g c =
    told_with_both (g.S.Store.content c.args.store.now) _ _ _ c.in-Ok.ensures.answers c.in-Ok.ensures.turned
    (λ known load turned. look_unchecked known c.args.edits c.args.asked c.args.place c.args.piece.now (part_seen c.args.part.now) (part_seen c.args.part.now) _ _ _ _ c.in-Ok.meta (rc_value {X = HeldMovie} c.in-Ok.meta).movie load turned
    c.in-Err-check.refusal c.in-Err-check.ensures.answers)

pub returns-in-Err-check-clause-refused : goal.returns-in-Err-check-clause-refused
returns-in-Err-check-clause-refused g c = check_refused c.args.edits c.args.asked c.args.piece.now (rc_value {X = HeldMovie} c.in-Ok.meta).movie c.in-Err-check.refusal c.in-Err-check.ensures.answers
