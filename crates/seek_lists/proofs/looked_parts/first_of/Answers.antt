-- The tracks that a first piece exposes, or why there are none.
use Rattle.std.proofs.Common.{ap, sym, ◌∙◌}
use Rattle.std.specs.Rc.{rc_value}
use Rattle.vod_meta.specs.Held.{HeldMovie}
use Rattle.vod_plan.specs.Tracks.{checked_view, track_in}
use Rattle.vod_plan.proofs.WritableCalls.{check_refused}
use Rattle.seek_lists.proofs.LookedLemmas.{first_taken, first_unasked, first_unchecked, of_first}
use Rattle.seek_lists.proofs.looked_parts.first_of.Goals as goal

pub returns-in-Err-clause-stands : goal.returns-in-Err-clause-stands
returns-in-Err-clause-stands g c =
    first_unasked c.args.looking.edits c.args.looking.mapping.now c.args.looking.sequence c.args.piece.now (rc_value {X = HeldMovie} c.args.meta).movie c.in-Err.refusal (rw c.deref.ensures at c.in-Err.ensures.answers)

pub returns-in-Err-check-clause-stands : goal.returns-in-Err-check-clause-stands
returns-in-Err-check-clause-stands g c =
    first_unchecked c.args.looking.edits c.args.looking.mapping.now c.args.looking.sequence c.args.piece.now (rc_value {X = HeldMovie} c.args.meta).movie c.in-Ok.asked c.in-Err-check.refusal (rw c.deref.ensures at c.in-Ok.ensures.answers) c.in-Err-check.ensures.answers

pub returns-in-Err-check-clause-refused : goal.returns-in-Err-check-clause-refused
returns-in-Err-check-clause-refused g c = check_refused c.args.looking.edits c.in-Ok.asked c.args.piece.now (rc_value {X = HeldMovie} c.args.meta).movie c.in-Err-check.refusal c.in-Err-check.ensures.answers

pub add-requires-clause-named : goal.add-requires-clause-named
add-requires-clause-named g c = ap (λ (h : HeldMovie). h.name) c.in-Ok-check.ensures.same ∙ c.requires.named

pub returns-in-Ok-add-clause-stands : goal.returns-in-Ok-add-clause-stands
returns-in-Ok-add-clause-stands g c =
    let tracks = c.in-Ok-check.tracks in
    first_taken c.args.looking.edits c.args.looking.mapping.now c.args.looking.sequence c.args.piece.now (rc_value {X = HeldMovie} c.args.meta).movie c.in-Ok.asked tracks c.of-part.result c.add.new.self
    (c.of-part.ensures.seen (checked_view c.args.piece.now tracks) (ap (λ (h : HeldMovie). track_in h.movie tracks.video) (sym c.deref-2.ensures)) (ap (λ (h : HeldMovie). track_in h.movie tracks.audio) (sym c.deref-2.ensures)))
    c.in-Ok-add.ensures.added (rw c.deref.ensures at c.in-Ok.ensures.answers) c.in-Ok-check.ensures.answers

pub returns-in-Ok-add-clause-of : goal.returns-in-Ok-add-clause-of
returns-in-Ok-add-clause-of g c =
    let tracks = c.in-Ok-check.tracks in
    of_first c.args.looking.edits c.args.looking.mapping.now c.args.looking.sequence c.args.piece.now (rc_value {X = HeldMovie} c.args.meta).movie c.in-Ok.asked tracks c.of-part.result c.add.new.self
    (c.of-part.ensures.seen (checked_view c.args.piece.now tracks) (ap (λ (h : HeldMovie). track_in h.movie tracks.video) (sym c.deref-2.ensures)) (ap (λ (h : HeldMovie). track_in h.movie tracks.audio) (sym c.deref-2.ensures)))
    c.in-Ok-add.ensures.added
