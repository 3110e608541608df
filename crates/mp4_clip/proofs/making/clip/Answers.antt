-- The clip of a piece in the metadata of its file.
use Rattle.std.proofs.Common.{sym, ap, subst}
use Rattle.std.specs.Prelude.{Result}
use Rattle.std.specs.Rc.{rc_value}
use Rattle.vod_types.specs.declared.refusal.Refusal.{Refusal}
use Rattle.vod_types.specs.Results.{◌>>=◌, Answers}
use Rattle.origin_model.specs.Clips.{PlannedClip, checked_clip}
use Rattle.origin_model.specs.Loaded.{CheckedPiece}
use Rattle.vod_plan.specs.Tracks.{checked_in, checked_view}
use Rattle.vod_plan.proofs.LookWalks.{view_sound}
use Rattle.vod_plan.proofs.WritableCalls.{check_refused}
use Rattle.mp4_clip.proofs.References.{view-room}
use Rattle.mp4_clip.proofs.making.clip.Goals as goal

pub checked_clip-requires-clause-sound : goal.checked_clip-requires-clause-sound
checked_clip-requires-clause-sound g c = view_sound c.args.edits c.args.asked c.args.piece.now c.in-Ok.tracks (rc_value c.args.meta).movie c.in-Ok.ensures.answers

pub checked_clip-requires-clause-room : goal.checked_clip-requires-clause-room
checked_clip-requires-clause-room g c =
    view-room c.args.edits c.args.asked c.args.piece.now (rc_value c.args.meta).movie (checked_view c.args.piece.now c.in-Ok.tracks) c.in-Ok.ensures.answers

pub returns-in-Ok-clause-planned : goal.returns-in-Ok-clause-planned
unfolding checked_in
returns-in-Ok-clause-planned g c =
    let e = ap (λ (r : Result CheckedPiece Refusal). r >>= checked_clip c.args.sequence c.args.asked) c.in-Ok.ensures.answers in
    subst (λ (due : Result PlannedClip Refusal). Answers (λ clip. clip) c.checked_clip.result due) (sym e) c.checked_clip.ensures.answers

pub returns-in-Err-clause-planned : goal.returns-in-Err-clause-planned
unfolding checked_in
returns-in-Err-clause-planned g c = λ other. ap (λ (r : Result CheckedPiece Refusal). r >>= checked_clip c.args.sequence c.args.asked) (c.in-Err.ensures.answers other)

pub returns-in-Err-clause-refused : goal.returns-in-Err-clause-refused
returns-in-Err-clause-refused g c = check_refused c.args.edits c.args.asked c.args.piece.now (rc_value c.args.meta).movie c.in-Err.refusal c.in-Err.ensures.answers
