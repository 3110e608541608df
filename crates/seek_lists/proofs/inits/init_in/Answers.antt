-- The checked tracks of a piece, or the first fault.
use Rattle.std.proofs.Common.{refl, ap}
use Rattle.std.specs.Rc.{rc_value}
use Rattle.vod_meta.specs.Held.{HeldMovie}
use Rattle.vod_plan.specs.Tracks.{checked_view}
use Rattle.vod_plan.proofs.WritableCalls.{check_refused}
use Rattle.seek_lists.proofs.InitLemmas.{body_for, unchecked, written}
use Rattle.seek_lists.proofs.inits.init_in.Goals as goal

pub returns-in-Ok-clause-answers : goal.returns-in-Ok-clause-answers
returns-in-Ok-clause-answers c =
    let piece = c.args.piece.now in
    let tracks = c.in-Ok.tracks in
    written (λ bytes. bytes.items) c.args.edits c.args.asked piece (rc_value {X = HeldMovie} c.args.meta).movie (checked_view piece tracks) c.init_of.result c.in-Ok.ensures.answers
    (body_for (λ bytes. bytes.items) c.deref.result.now.movie (rc_value {X = HeldMovie} tracks.meta).movie tracks.video tracks.audio (checked_view piece tracks) c.init_of.result
    (ap (λ (h : HeldMovie). h.movie) c.deref.ensures) refl refl c.init_of.ensures.bytes)
    c.init_of.ensures.only

pub returns-in-Err-clause-answers : goal.returns-in-Err-clause-answers
returns-in-Err-clause-answers c = λ memory. unchecked c.args.edits c.args.asked c.args.piece.now (rc_value {X = HeldMovie} c.args.meta).movie c.in-Err.refusal (c.in-Err.ensures.answers memory)

pub returns-in-Err-clause-refused : goal.returns-in-Err-clause-refused
returns-in-Err-clause-refused c = check_refused c.args.edits c.args.asked c.args.piece.now (rc_value {X = HeldMovie} c.args.meta).movie c.in-Err.refusal c.in-Err.ensures.answers
